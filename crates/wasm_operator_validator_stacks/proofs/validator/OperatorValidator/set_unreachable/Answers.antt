use Rattle.std.proofs.Common.{◌≡◌, ◌-◌, ◌∙◌, sym, Some, length, slice_get}
use Rattle.wasm_operator_validator_stacks.proofs.Layers.{fixed, held_jump}
use Rattle.wasm_operator_validator_stacks.proofs.validator.OperatorValidator.set_unreachable.Goals as goal

pub returns-clause-does : goal.returns-clause-does
returns-clause-does c = λ m.
    let e : Some c.in-Some.frame ≡ slice_get c.self.inside.control.0 (length c.self.inside.control.0 - 1) =
    rw (← c.as_slice.ensures) (c.in-Some.ensures ∙ c.last.ensures.value) in
    rw (← c.self.view_is)
    (rw (c.in-Ok.ensures.saved, c.in-Ok-replace_last.ensures.saved)
    (held_jump m (fixed c.self.inside.features.0 c.self.inside.locals c.self.inside.params c.self.inside.shared c.self.inside.operands.1 c.self.inside.control.1 c.self.inside.inits.saved c.self.inside.failed_before c.self.inside.failed) c.self.inside.control.0 c.replace_last.new.self.0 c.self.inside.operands.0 c.truncate.new.self.0 c.self.inside.inits.set c.in-Some.frame c.unreached.result (sym e)
    c.unreached.ensures c.in-Ok-replace_last.ensures.replaced c.in-Ok.ensures.done c.self.invariant.0))
