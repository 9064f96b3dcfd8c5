use Rattle.wasm_operator_validator_stacks.proofs.Layers.{fixed, held_done}
use Rattle.wasm_operator_validator_stacks.proofs.validator.OperatorValidator.is_done.Goals as goal

pub returns : goal.returns
returns c = rw (← c.self.view_is) (held_done
    (fixed c.self.inside.features.0 c.self.inside.locals c.self.inside.params c.self.inside.shared c.self.inside.operands.1 c.self.inside.control.1 c.self.inside.inits.saved c.self.inside.failed_before c.self.inside.failed) c.self.inside.control.0 c.self.inside.operands.0 c.self.inside.inits.set c.is_empty.result (rw c.as_slice.ensures at c.is_empty.ensures))
