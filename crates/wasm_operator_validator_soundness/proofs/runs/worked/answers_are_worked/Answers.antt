use Rattle.wasm_operator_validator_soundness.proofs.RunsWorkedAnswered.{answered_worked}
use Rattle.wasm_operator_validator_soundness.proofs.runs.worked.answers_are_worked.Goals as goal

pub returns : goal.returns
returns c = answered_worked
