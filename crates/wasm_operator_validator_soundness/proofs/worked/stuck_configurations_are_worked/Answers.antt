use Rattle.wasm_operator_validator_soundness.proofs.WorkedStuck.{stuck_worked}
use Rattle.wasm_operator_validator_soundness.proofs.worked.stuck_configurations_are_worked.Goals as goal

pub returns : goal.returns
returns c = stuck_worked
