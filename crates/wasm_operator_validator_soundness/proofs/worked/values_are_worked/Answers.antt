use Rattle.wasm_operator_validator_soundness.proofs.WorkedValues.{values_worked}
use Rattle.wasm_operator_validator_soundness.proofs.worked.values_are_worked.Goals as goal

pub returns : goal.returns
returns c = values_worked
