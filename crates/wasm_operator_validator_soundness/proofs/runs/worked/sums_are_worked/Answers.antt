use Rattle.wasm_operator_validator_soundness.proofs.WorkedSums.{sums_worked}
use Rattle.wasm_operator_validator_soundness.proofs.runs.worked.sums_are_worked.Goals as goal

pub returns : goal.returns
returns c = sums_worked
