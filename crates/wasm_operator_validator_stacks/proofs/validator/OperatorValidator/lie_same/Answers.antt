use Rattle.std.proofs.Common.{◌≡◌, ◌-◌, ◌∙◌, ◌≤◌, ◌<◌, sym, Some, length, slice_get, arith}
use Rattle.wasm_operator_validator_stacks.proofs.Layers.{fixed}
use Rattle.wasm_operator_validator_stacks.proofs.Combining.{known_at}
use Rattle.wasm_operator_validator_stacks.proofs.validator.OperatorValidator.lie_same.Goals as goal

pub returns-then-is_same-clause-top : goal.returns-then-is_same-clause-top
returns-then-is_same-clause-top c = λ t.
    let e : Some c.in-Some.frame ≡ slice_get c.self.inside.control.0 (length c.self.inside.control.0 - 1) = rw (← c.as_slice.ensures) (c.in-Some.ensures ∙ c.last.ensures.value) in
    let n = length c.as_slice-operands.result.now in
    let s = c.saturating_sub.ensures in
    let k = c.if-saturating_sub-lt2.false in
    let h : 0 < n = omega (arith, s, k) in
    let i : c.in-Some.frame.height ≤ n - 1 = omega (arith, s, k) in
    let j : n - 1 ≡ n - 1 - 0 = omega arith in
    rw (← c.self.view_is)
    (known_at (fixed c.self.inside.features.0 c.self.inside.locals c.self.inside.params c.self.inside.shared c.self.inside.operands.1
    c.self.inside.control.1 c.self.inside.inits.saved c.self.inside.failed_before c.self.inside.failed) c.self.inside.control.0
    c.self.inside.operands.0 c.as_slice-operands.result.now c.self.inside.inits.set c.in-Some.frame 0
    (n - 1) c.index-operands-top.result _ c.args.ty.now (sym e) c.as_slice-operands.ensures
    j h i c.index-operands-top.is (sym c.get.ensures ∙ c.is_same.ensures c.if-is_same.true))

pub returns-then-is_same-clause-under : goal.returns-then-is_same-clause-under
returns-then-is_same-clause-under c = λ t.
    let e : Some c.in-Some.frame ≡ slice_get c.self.inside.control.0 (length c.self.inside.control.0 - 1) = rw (← c.as_slice.ensures) (c.in-Some.ensures ∙ c.last.ensures.value) in
    let n = length c.as_slice-operands.result.now in
    let s = c.saturating_sub.ensures in
    let k = c.if-saturating_sub-lt2.false in
    let h : 1 < n = omega (arith, s, k) in
    let i : c.in-Some.frame.height ≤ n - 1 - 1 = omega (arith, s, k) in
    let j : n - 1 - 1 ≡ n - 1 - 1 = omega arith in
    rw (← c.self.view_is)
    (known_at (fixed c.self.inside.features.0 c.self.inside.locals c.self.inside.params c.self.inside.shared c.self.inside.operands.1
    c.self.inside.control.1 c.self.inside.inits.saved c.self.inside.failed_before c.self.inside.failed) c.self.inside.control.0
    c.self.inside.operands.0 c.as_slice-operands.result.now c.self.inside.inits.set c.in-Some.frame 1
    (n - 1 - 1) c.index-operands-top-then-is_same.result _ c.args.ty.now (sym e) c.as_slice-operands.ensures
    j h i c.index-operands-top-then-is_same.is (sym c.get-then-is_same.ensures ∙ c.is_same-then-is_same.ensures t))
