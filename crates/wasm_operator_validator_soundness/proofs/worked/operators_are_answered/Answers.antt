use Rattle.wasm_operator_validator_soundness.proofs.WorkedAnswered.{answered_worked}
use Rattle.wasm_operator_validator_soundness.proofs.worked.operators_are_answered.Goals as goal

pub returns : goal.returns
returns c = answered_worked
