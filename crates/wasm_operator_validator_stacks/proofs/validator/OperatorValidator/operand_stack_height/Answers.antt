use Rattle.std.proofs.Common.{◌∙◌, ap, length}
use Rattle.wasm_operator_validator_stacks.proofs.Layers.{fixed}
use Rattle.wasm_operator_validator_stacks.proofs.Lying.{held_height}
use Rattle.wasm_operator_validator_stacks.proofs.validator.OperatorValidator.operand_stack_height.Goals as goal

pub returns : goal.returns
returns c = rw (← c.self.view_is)
    (ap length c.as_slice.ensures ∙ held_height (fixed c.self.inside.features.0 c.self.inside.locals c.self.inside.params c.self.inside.shared c.self.inside.operands.1 c.self.inside.control.1 c.self.inside.inits.saved c.self.inside.failed_before c.self.inside.failed) c.self.inside.control.0 c.self.inside.operands.0 c.self.inside.inits.set c.self.invariant.0)
