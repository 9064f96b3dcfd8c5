use Rattle.std.proofs.Common.{arith}
use Rattle.std.proofs.lemmas.Grind.{common_steps}
use Rattle.std.proofs.Common.{◌≡◌, ◌-◌, ◌∙◌, sym, ap, Some, length, slice_get}
use Rattle.wasm_operator_validator_stacks.proofs.Layers.{fixed, held_pop}
use Rattle.wasm_operator_validator_stacks.proofs.Popping.{when_some}
use Rattle.wasm_operator_validator_stacks.proofs.validator.OperatorValidator.pop_any.Goals as goal

pub returns-clause-does : goal.returns-clause-does
returns-clause-does c = λ m.
    let e : Some c.in-Some.frame ≡ slice_get c.self.inside.control.0 (length c.self.inside.control.0 - 1) =
    rw (← c.as_slice.ensures) (c.in-Some.ensures ∙ c.last.ensures.value) in
    let d = when_some c.in-Ok.popped c.in-Some-popped.operand _ _ c.in-Some-popped.is c.in-Ok.ensures.popped in
    rw (← c.self.view_is)
    (rw (c.get.ensures, c.in-Ok.ensures.saved)
    (held_pop m (fixed c.self.inside.features.0 c.self.inside.locals c.self.inside.params c.self.inside.shared c.self.inside.operands.1 c.self.inside.control.1 c.self.inside.inits.saved c.self.inside.failed_before c.self.inside.failed) c.self.inside.control.0 c.self.inside.operands.0 c.pop.new.self.0 c.self.inside.inits.set c.in-Some.frame c.in-Some-popped.operand (sym e) c.self.invariant.0
    (λ h. c.if-as_slice-frame.false (ap length c.as_slice-2.ensures ∙ h)) d))

pub returns-then-frame-clause-does : goal.returns-then-frame-clause-does
returns-then-frame-clause-does c = grind (arith, common_steps)
