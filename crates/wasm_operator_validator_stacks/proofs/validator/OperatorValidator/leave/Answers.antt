use Rattle.std.proofs.Common.{◌≡◌, ◌-◌, ◌∙◌, sym, ap, Some, length, slice_get}
use Rattle.wasm_operator_validator_stacks.proofs.Layers.{fixed}
use Rattle.wasm_operator_validator_stacks.proofs.Leaving.{held_not_bare, held_leave}
use Rattle.wasm_operator_validator_stacks.proofs.validator.OperatorValidator.leave.Goals as goal

pub returns-then-as_slice-frame-clause-left : goal.returns-then-as_slice-frame-clause-left
returns-then-as_slice-frame-clause-left c =
    let e : Some c.in-Some.frame ≡ slice_get c.self.inside.control.0 (length c.self.inside.control.0 - 1) =
    rw (← c.as_slice.ensures) (c.in-Some.ensures ∙ c.last.ensures.value) in
    rw (← c.self.view_is)
    (held_not_bare (fixed c.self.inside.features.0 c.self.inside.locals c.self.inside.params c.self.inside.shared c.self.inside.operands.1 c.self.inside.control.1 c.self.inside.inits.saved c.self.inside.failed_before c.self.inside.failed) c.self.inside.control.0 c.self.inside.operands.0 c.self.inside.inits.set c.in-Some.frame (sym e) c.self.invariant.0
    (λ h. c.if-as_slice-frame.true (ap length c.as_slice-2.ensures ∙ h)))

pub returns-clause-left : goal.returns-clause-left
returns-clause-left c =
    let e : Some c.in-Some.frame ≡ slice_get c.self.inside.control.0 (length c.self.inside.control.0 - 1) =
    rw (← c.as_slice.ensures) (c.in-Some.ensures ∙ c.last.ensures.value) in
    rw (← c.self.view_is)
    (rw (c.in-Ok.ensures.saved, c.in-Ok-pop.ensures.saved)
    (held_leave (fixed c.self.inside.features.0 c.self.inside.locals c.self.inside.params c.self.inside.shared c.self.inside.operands.1 c.self.inside.control.1 c.self.inside.inits.saved c.self.inside.failed_before c.self.inside.failed) c.self.inside.control.0 c.pop.new.self.0 c.self.inside.operands.0 c.self.inside.inits.set c.pop_ctrl.new.self.set c.in-Some.frame c.in-Ok-pop.field-0 (sym e)
    (sym (ap length c.as_slice-2.ensures) ∙ c.if-as_slice-frame.false) c.in-Ok.ensures.done c.in-Ok-pop.ensures.popped))
