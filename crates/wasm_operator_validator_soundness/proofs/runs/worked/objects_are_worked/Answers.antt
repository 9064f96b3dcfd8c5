use Rattle.wasm_operator_validator_soundness.proofs.WorkedObjects.{objects_worked}
use Rattle.wasm_operator_validator_soundness.proofs.runs.worked.objects_are_worked.Goals as goal

pub returns : goal.returns
returns c = objects_worked
