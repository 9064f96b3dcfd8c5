use Rattle.std.proofs.Common.{◌≡◌, Some}
use Rattle.wasm_operator_validator_state.specs.declared.operand.MaybeType.TheVariants.{Known}
use Rattle.wasm_operator_validator_stacks.specs.Peeking.{operand_at}
use Rattle.wasm_operator_validator_stacks.proofs.Layers.{fixed, held}
use Rattle.wasm_operator_validator_stacks.proofs.Combining.{one_left, held_combine, sound_halfway}
use Rattle.wasm_operator_validator_stacks.proofs.validator.OperatorValidator.combine.Goals as goal

pub replace_last-requires : goal.replace_last-requires
replace_last-requires g c =
    let w = fixed c.self.inside.features.0 c.self.inside.locals c.self.inside.params c.self.inside.shared c.self.inside.operands.1
    c.self.inside.control.1 c.self.inside.inits.saved c.self.inside.failed_before c.self.inside.failed in
    let e : operand_at (held w c.self.inside.control.0 c.self.inside.operands.0 c.self.inside.inits.set).opens 1 ≡ Some (Known c.args.popped.now) = rw
    (← c.self.view_is) at (c.lie_same.ensures.under c.if-lie_same.true) in
    one_left w c.self.inside.control.0 c.self.inside.operands.0 c.pop_outside.new.self.0 c.self.inside.inits.set _ c.args.popped.now e c.in-Some.ensures.popped

pub invariant_of-self : goal.invariant_of-self
invariant_of-self g c =
    let w = fixed c.self.inside.features.0 c.self.inside.locals c.self.inside.params c.self.inside.shared c.self.inside.operands.1
    c.self.inside.control.1 c.self.inside.inits.saved c.self.inside.failed_before c.self.inside.failed in
    let e : operand_at (held w c.self.inside.control.0 c.self.inside.operands.0 c.self.inside.inits.set).opens 1 ≡ Some (Known c.args.popped.now) = rw
    (← c.self.view_is) at (c.lie_same.ensures.under c.if-lie_same.true) in (
      rw c.in_default-replace_last.ensures.refused (sound_halfway w c.self.inside.control.0 c.self.inside.operands.0 c.pop_outside.new.self.0
          c.self.inside.inits.set _ c.args.popped.now e c.self.invariant.0 c.in-Some.ensures.popped),
      rw (c.replace_last.ensures.saved, c.pop_outside.ensures.saved) c.self.invariant.1,
      c.self.invariant.2,
    )

pub invariant_of-self-in-Some : goal.invariant_of-self-in-Some
invariant_of-self-in-Some g c =
    let m = g.R.WasmModuleResources.meaning c.args.resources.now in
    let w = fixed c.self.inside.features.0 c.self.inside.locals c.self.inside.params c.self.inside.shared c.self.inside.operands.1
    c.self.inside.control.1 c.self.inside.inits.saved c.self.inside.failed_before c.self.inside.failed in
    let d : operand_at (held w c.self.inside.control.0 c.self.inside.operands.0 c.self.inside.inits.set).opens 0 ≡ Some (Known c.args.popped.now) = rw
    (← c.self.view_is) at (c.lie_same.ensures.top c.if-lie_same.true) in
    let e : operand_at (held w c.self.inside.control.0 c.self.inside.operands.0 c.self.inside.inits.set).opens 1 ≡ Some (Known c.args.popped.now) = rw
    (← c.self.view_is) at (c.lie_same.ensures.under c.if-lie_same.true) in (
      (held_combine m w c.self.inside.control.0 c.self.inside.operands.0 c.pop_outside.new.self.0 c.replace_last.new.self.0 c.self.inside.inits.set _
          c.args.popped.now c.args.pushed.now d e c.self.invariant.0 c.in-Some.ensures.popped (rw c.new.ensures at c.in-Ok.ensures.replaced)).1,
      rw (c.replace_last.ensures.saved, c.pop_outside.ensures.saved) c.self.invariant.1,
      c.self.invariant.2,
    )

pub returns-in-Some-clause-does : goal.returns-in-Some-clause-does
returns-in-Some-clause-does g c =
    let m = g.R.WasmModuleResources.meaning c.args.resources.now in
    let w = fixed c.self.inside.features.0 c.self.inside.locals c.self.inside.params c.self.inside.shared c.self.inside.operands.1
    c.self.inside.control.1 c.self.inside.inits.saved c.self.inside.failed_before c.self.inside.failed in
    let d : operand_at (held w c.self.inside.control.0 c.self.inside.operands.0 c.self.inside.inits.set).opens 0 ≡ Some (Known c.args.popped.now) = rw
    (← c.self.view_is) at (c.lie_same.ensures.top c.if-lie_same.true) in
    let e : operand_at (held w c.self.inside.control.0 c.self.inside.operands.0 c.self.inside.inits.set).opens 1 ≡ Some (Known c.args.popped.now) = rw
    (← c.self.view_is) at (c.lie_same.ensures.under c.if-lie_same.true) in
    rw (← c.self.view_is)
    (rw (c.replace_last.ensures.saved, c.pop_outside.ensures.saved)
    (held_combine m w c.self.inside.control.0 c.self.inside.operands.0 c.pop_outside.new.self.0 c.replace_last.new.self.0 c.self.inside.inits.set _
    c.args.popped.now c.args.pushed.now d e c.self.invariant.0 c.in-Some.ensures.popped (rw c.new.ensures at c.in-Ok.ensures.replaced)).0)
