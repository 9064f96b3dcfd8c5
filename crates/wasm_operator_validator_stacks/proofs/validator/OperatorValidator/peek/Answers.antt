use Rattle.std.proofs.Common.{◌≡◌, ◌-◌, ◌≤◌, ◌∙◌, sym, ap, Some, length, slice_get, arith}
use Rattle.wasm_operator_validator_stacks.proofs.Layers.{fixed}
use Rattle.wasm_operator_validator_stacks.proofs.Peeks.{held_past, held_peek}
use Rattle.wasm_operator_validator_stacks.proofs.validator.OperatorValidator.peek.Goals as goal

pub returns-then-depth-operands : goal.returns-then-depth-operands
returns-then-depth-operands c =
    let e : Some c.in-Some.frame ≡ slice_get c.self.inside.control.0 (length c.self.inside.control.0 - 1) = rw (← c.as_slice.ensures) (c.in-Some.ensures ∙ c.last.ensures.value) in
    let l = ap length c.as_slice-operands.ensures in
    let h = c.if-depth-operands.true in
    let k : length c.self.inside.operands.0 - c.in-Some.frame.height ≤ c.args.depth = omega (arith, l, h) in
    rw (← c.self.view_is)
    (c.below_all.ensures ∙ held_past (fixed c.self.inside.features.0 c.self.inside.locals c.self.inside.params c.self.inside.shared c.self.inside.operands.1 c.self.inside.control.1 c.self.inside.inits.saved c.self.inside.failed_before c.self.inside.failed) c.self.inside.control.0 c.self.inside.operands.0 c.self.inside.inits.set c.in-Some.frame c.args.depth (sym e) k)

pub returns-then-operands-depth : goal.returns-then-operands-depth
returns-then-operands-depth c =
    let e : Some c.in-Some.frame ≡ slice_get c.self.inside.control.0 (length c.self.inside.control.0 - 1) = rw (← c.as_slice.ensures) (c.in-Some.ensures ∙ c.last.ensures.value) in
    let l = ap length c.as_slice-operands.ensures in
    let h = c.if-operands-depth.true in
    let k : length c.self.inside.operands.0 - c.in-Some.frame.height ≤ c.args.depth = omega (arith, l, h) in
    rw (← c.self.view_is)
    (c.below_all-then-operands-depth.ensures ∙ held_past (fixed c.self.inside.features.0 c.self.inside.locals c.self.inside.params c.self.inside.shared c.self.inside.operands.1 c.self.inside.control.1 c.self.inside.inits.saved c.self.inside.failed_before c.self.inside.failed) c.self.inside.control.0 c.self.inside.operands.0 c.self.inside.inits.set c.in-Some.frame c.args.depth (sym e) k)

pub returns : goal.returns
returns c =
    let e : Some c.in-Some.frame ≡ slice_get c.self.inside.control.0 (length c.self.inside.control.0 - 1) = rw (← c.as_slice.ensures) (c.in-Some.ensures ∙ c.last.ensures.value) in
    let h = c.if-depth-operands.false in
    let k = c.if-operands-depth.false in
    rw (← c.self.view_is)
    (ap Some c.get.ensures ∙ held_peek (fixed c.self.inside.features.0 c.self.inside.locals c.self.inside.params c.self.inside.shared c.self.inside.operands.1 c.self.inside.control.1 c.self.inside.inits.saved c.self.inside.failed_before c.self.inside.failed) c.self.inside.control.0 c.self.inside.operands.0 c.as_slice-operands.result.now c.self.inside.inits.set c.in-Some.frame c.args.depth c.index-operands-operands.result _ (sym e) c.as_slice-operands.ensures
    h k c.index-operands-operands.is)
