-- By the laws of the last step.
use Rattle.std.proofs.Common.{ℕ, false, List, sym, subst}
use Rattle.wasm_module_validator_streaming.specs.GoingOn.{GoesOnAt}
use Rattle.wasm_module_validator_streaming.specs.Taking.{IsMidst}
use Rattle.wasm_module_validator_streaming.proofs.ToEnd.{end_told, end_refused, last_midst, refusal_of}
use Rattle.wasm_module_validator_streaming.proofs.to_end.ModuleToEnd.end.Goals as goal

pub conclude-requires : goal.conclude-requires
conclude-requires c = subst (λ (l : List ℕ). IsMidst GoesOnAt false l c.args.self.going) (sym c.as_slice.ensures.value) (last_midst c.args.self c.in-None.is c.requires)

pub returns-in-Some : goal.returns-in-Some
returns-in-Some c = λ z id got h room. end_refused z got c.in-Some.error room (refusal_of z id got c.args.self c.in-Some.error c.in-Some.is h)

pub returns : goal.returns
returns c = λ z id got h room.
    end_told z id got c.args.self c.in-None.is h c.conclude.result
    (λ first before s fits. c.conclude.ensures first before (subst (λ (l : List ℕ). GoesOnAt first before false l c.args.self.going) (sym c.as_slice.ensures.value) s) fits)
