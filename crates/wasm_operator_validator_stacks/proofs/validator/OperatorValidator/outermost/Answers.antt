use Rattle.std.proofs.Common.{◌<◌, ◌∙◌, length, sym, arith}
use Rattle.std.proofs.lemmas.Bool.{eqb-true, eqb-false}
use Rattle.wasm_operator_validator_stacks.proofs.Layers.{fixed}
use Rattle.wasm_operator_validator_stacks.proofs.Leaving.{no_first, first_label}
use Rattle.wasm_operator_validator_stacks.proofs.validator.OperatorValidator.outermost.Goals as goal

pub returns-then-is_empty : goal.returns-then-is_empty
returns-then-is_empty c =
    rw (← c.self.view_is)
    (no_first (fixed c.self.inside.features.0 c.self.inside.locals c.self.inside.params c.self.inside.shared c.self.inside.operands.1 c.self.inside.control.1 c.self.inside.inits.saved c.self.inside.failed_before c.self.inside.failed)
    c.self.inside.control.0 c.as_slice-frames.result.now c.self.inside.operands.0 c.self.inside.inits.set
    c.as_slice-frames.ensures (eqb-true (length c.as_slice-frames.result.now) 0 (sym c.is_empty.ensures ∙ c.if-is_empty.true)))

pub returns : goal.returns
returns c =
    let n = eqb-false (length c.as_slice-frames.result.now) 0 (sym c.is_empty.ensures ∙ c.if-is_empty.false) in
    let h : 0 < length c.as_slice-frames.result.now = omega (arith, n) in
    rw (← c.self.view_is)
    (first_label (fixed c.self.inside.features.0 c.self.inside.locals c.self.inside.params c.self.inside.shared c.self.inside.operands.1 c.self.inside.control.1 c.self.inside.inits.saved c.self.inside.failed_before c.self.inside.failed)
    c.self.inside.control.0 c.as_slice-frames.result.now c.self.inside.operands.0 c.self.inside.inits.set c.index-frames-0.result c.index-frames-0.result
    c.as_slice-frames.ensures h c.index-frames-0.is)
