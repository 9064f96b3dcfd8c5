-- By the laws of the last step.
use Rattle.std.proofs.Common.{◌∙◌, ℕ, false, List, sym, subst}
use Rattle.wasm_module_validator_streaming.specs.Taking.{IsMidst}
use Rattle.wasm_module_validator_streaming.specs.Verdicts.{StandsAt}
use Rattle.wasm_module_validator_streaming.proofs.HandedModule.{end_accepted, end_denied, end_refused, last_midst, refusal_of}
use Rattle.wasm_module_validator_streaming.proofs.pieces.ModuleInPieces.verdict.Goals as goal

pub conclude-requires : goal.conclude-requires
conclude-requires c = subst (λ (l : List ℕ). IsMidst StandsAt false l c.args.self.now.judging) (sym c.as_slice.ensures.value) (last_midst c.args.self.now (sym c.take.ensures.value ∙ c.in-None.is) c.requires)

pub returns-in-Some-clause-told : goal.returns-in-Some-clause-told
returns-in-Some-clause-told c z id got h room = end_refused z id c.args.self.now.most got c.in-Some.error room (refusal_of z id got c.args.self.now c.in-Some.error (sym c.take.ensures.value ∙ c.in-Some.is) h)

pub returns-in-Ok-clause-told : goal.returns-in-Ok-clause-told
returns-in-Ok-clause-told c z id got h room =
    end_accepted z id got c.args.self.now (sym c.take.ensures.value ∙ c.in-None.is) h c.in-Ok.types
    (λ first before s fits. c.in-Ok.ensures first before (subst (λ (l : List ℕ). StandsAt first before false l c.args.self.now.judging) (sym c.as_slice.ensures.value) s) fits)

pub returns-in-Err-clause-told : goal.returns-in-Err-clause-told
returns-in-Err-clause-told c z id got h room =
    end_denied z id got c.args.self.now (sym c.take.ensures.value ∙ c.in-None.is) h c.in-Err.error
    (λ first before s fits. c.in-Err.ensures first before (subst (λ (l : List ℕ). StandsAt first before false l c.args.self.now.judging) (sym c.as_slice.ensures.value) s) fits)
