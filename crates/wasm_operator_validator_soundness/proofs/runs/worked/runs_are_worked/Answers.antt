use Rattle.wasm_operator_validator_soundness.proofs.RunsWorkedRuns.{runs_worked}
use Rattle.wasm_operator_validator_soundness.proofs.runs.worked.runs_are_worked.Goals as goal

pub returns : goal.returns
returns c = runs_worked
