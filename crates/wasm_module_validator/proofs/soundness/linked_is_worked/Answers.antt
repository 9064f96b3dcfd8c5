use Rattle.wasm_module_validator.proofs.WorkedLinked.{linked_worked}
use Rattle.wasm_module_validator.proofs.soundness.linked_is_worked.Goals as goal

pub returns : goal.returns
returns c = linked_worked
