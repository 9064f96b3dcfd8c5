use Rattle.std.proofs.Common.{◌≤◌, ◌∙◌, ap, Some, length}
use Rattle.wasm_operator_validator_stacks.specs.Heights.{known_type}
use Rattle.wasm_operator_validator_stacks.proofs.Layers.{fixed}
use Rattle.wasm_operator_validator_stacks.proofs.Lying.{no_operand, some_operand}
use Rattle.wasm_operator_validator_stacks.proofs.validator.OperatorValidator.peek_operand_at.Goals as goal

pub returns-then-depth-operands : goal.returns-then-depth-operands
returns-then-depth-operands c =
    let h : length c.self.inside.operands.0 ≤ c.args.depth = rw c.as_slice-operands.ensures at c.if-depth-operands.true in
    rw (← c.self.view_is) (no_operand (fixed c.self.inside.features.0 c.self.inside.locals c.self.inside.params c.self.inside.shared c.self.inside.operands.1 c.self.inside.control.1 c.self.inside.inits.saved c.self.inside.failed_before c.self.inside.failed) c.self.inside.control.0 c.self.inside.operands.0 c.self.inside.inits.set c.args.depth c.self.invariant.0 h)

pub returns : goal.returns
returns c =
    rw (← c.self.view_is)
    (ap Some (c.known_type.ensures ∙ ap known_type c.get.ensures)
    ∙ some_operand (fixed c.self.inside.features.0 c.self.inside.locals c.self.inside.params c.self.inside.shared c.self.inside.operands.1 c.self.inside.control.1 c.self.inside.inits.saved c.self.inside.failed_before c.self.inside.failed) c.self.inside.control.0 c.self.inside.operands.0 c.as_slice-operands.result.now c.self.inside.inits.set c.args.depth c.index-operands-operands.result _
    c.self.invariant.0 c.as_slice-operands.ensures c.if-depth-operands.false c.index-operands-operands.is)
