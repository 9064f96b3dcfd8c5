use Rattle.wasm_operator_validator_soundness.proofs.WorkedVectors.{vectors_worked}
use Rattle.wasm_operator_validator_soundness.proofs.runs.worked.vectors_are_worked.Goals as goal

pub returns : goal.returns
returns c = vectors_worked
