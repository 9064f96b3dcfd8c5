use Rattle.std.proofs.Common.{◌≡◌, ◌-◌, ◌∙◌, sym, ap, Some, length, slice_get}
use Rattle.wasm_operator_validator_stacks.proofs.Layers.{fixed, held_pop, sound_pop}
use Rattle.wasm_operator_validator_stacks.proofs.Popping.{last_is}
use Rattle.wasm_operator_validator_stacks.proofs.validator.OperatorValidator.pop_same.Goals as goal

pub invariant_of-self-2 : goal.invariant_of-self-2
invariant_of-self-2 c =
    let e : Some c.in-Some.frame ≡ slice_get c.self.inside.control.0 (length c.self.inside.control.0 - 1) =
    rw (← c.as_slice.ensures) (c.in-Some.ensures ∙ c.last.ensures.value) in (
      sound_pop c.self.inside.control.0 c.self.inside.operands.0 c.pop_outside.new.self.0 c.self.inside.inits.set c.in-Some.frame _ (sym e) c.self.invariant.0
          (λ h. c.if-operands-frame.false (ap length c.as_slice-operands.ensures ∙ h)) c.in-Some-pop_outside.ensures.popped,
      rw c.pop_outside.ensures.saved c.self.invariant.1,
      c.self.invariant.2,
    )

pub returns-clause-popped : goal.returns-clause-popped
returns-clause-popped c = λ t m.
    let e : Some c.in-Some.frame ≡ slice_get c.self.inside.control.0 (length c.self.inside.control.0 - 1) =
    rw (← c.as_slice.ensures) (c.in-Some.ensures ∙ c.last.ensures.value) in
    let s = sym c.get.ensures ∙ c.is_same.ensures c.if-not-is_same.false in
    let d = last_is c.self.inside.operands.0 c.pop_outside.new.self.0 _ c.in-Some-last.top.now c.in-Some-pop_outside.ensures.popped (rw (← c.as_slice-operands.ensures) c.in-Some-last.ensures.value) in
    rw (← c.self.view_is)
    (rw c.pop_outside.ensures.saved
    (rw (← s)
    (held_pop m (fixed c.self.inside.features.0 c.self.inside.locals c.self.inside.params c.self.inside.shared c.self.inside.operands.1 c.self.inside.control.1 c.self.inside.inits.saved c.self.inside.failed_before c.self.inside.failed) c.self.inside.control.0 c.self.inside.operands.0 c.pop_outside.new.self.0 c.self.inside.inits.set c.in-Some.frame c.in-Some-last.top.now (sym e) c.self.invariant.0
    (λ h. c.if-operands-frame.false (ap length c.as_slice-operands.ensures ∙ h)) d)))
