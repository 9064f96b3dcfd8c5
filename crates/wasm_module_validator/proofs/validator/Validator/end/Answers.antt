use Rattle.std.proofs.Common.{refl, sym, ap, subst, Some, Err}
use Rattle.wasm_module_validator.specs.declared.validator.State.{State}
use Rattle.wasm_module_validator.specs.declared.validator.State.TheVariants.{Ended}
use Rattle.wasm_module_validator.specs.Methods.{EndsFrom}
use Rattle.wasm_module_validator.proofs.Whole.{whole_is_sound}
use Rattle.wasm_module_validator.proofs.validator.Validator.end.Goals as goal

pub returns-in-Failed-clause-ends : goal.returns-in-Failed-clause-ends
returns-in-Failed-clause-ends c =
    let v = c.args.self.now in
    subst (λ (s : State). EndsFrom s v (Err c.failed_before.result) v) (sym c.in-Failed.is) (ap Some c.failed_before.ensures, refl)

pub returns-in-Unparsed-clause-ends : goal.returns-in-Unparsed-clause-ends
returns-in-Unparsed-clause-ends c =
    let v = c.args.self.now in
    subst (λ (s : State). EndsFrom s v (Err c.early_end.result) (record v { state = Ended })) (sym c.in-Unparsed.is) (ap Some c.early_end.ensures, refl)

pub returns-in-Ended-clause-ends : goal.returns-in-Ended-clause-ends
returns-in-Ended-clause-ends c =
    let v = c.args.self.now in
    subst (λ (s : State). EndsFrom s v (Err c.late_end.result) v) (sym c.in-Ended.is) (ap Some c.late_end.ensures, refl)

pub returns-in-Failed-clause-sound : goal.returns-in-Failed-clause-sound
returns-in-Failed-clause-sound c = whole_is_sound c.args.self.now

pub returns-in-Unparsed-clause-sound : goal.returns-in-Unparsed-clause-sound
returns-in-Unparsed-clause-sound c = whole_is_sound c.args.self.now

pub returns-in-Ended-clause-sound : goal.returns-in-Ended-clause-sound
returns-in-Ended-clause-sound c = whole_is_sound c.args.self.now

pub returns-in-Ok-clause-sound : goal.returns-in-Ok-clause-sound
returns-in-Ok-clause-sound c = whole_is_sound c.args.self.now

pub returns-in-Err-clause-sound : goal.returns-in-Err-clause-sound
returns-in-Err-clause-sound c = whole_is_sound c.args.self.now
