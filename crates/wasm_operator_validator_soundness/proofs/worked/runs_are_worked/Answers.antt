use Rattle.wasm_operator_validator_soundness.proofs.WorkedRuns.{runs_worked}
use Rattle.wasm_operator_validator_soundness.proofs.worked.runs_are_worked.Goals as goal

pub returns : goal.returns
returns c = runs_worked
