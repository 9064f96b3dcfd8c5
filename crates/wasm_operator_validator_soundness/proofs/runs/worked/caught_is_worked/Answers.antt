use Rattle.wasm_operator_validator_soundness.proofs.WorkedCaught.{caught_worked}
use Rattle.wasm_operator_validator_soundness.proofs.runs.worked.caught_is_worked.Goals as goal

pub returns : goal.returns
returns c = caught_worked
