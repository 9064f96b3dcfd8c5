use Rattle.wasm_operator_validator_soundness.proofs.Progress.{answers_exist, states_answered, constants_answered}
use Rattle.wasm_operator_validator_soundness.proofs.runs.answers_exist.Goals as goal

pub returns-clause-runs : goal.returns-clause-runs
returns-clause-runs c = answers_exist

pub returns-clause-states : goal.returns-clause-states
returns-clause-states c = states_answered

pub returns-clause-constants : goal.returns-clause-constants
returns-clause-constants c = constants_answered
