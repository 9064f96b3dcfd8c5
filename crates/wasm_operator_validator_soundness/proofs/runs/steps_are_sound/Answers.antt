use Rattle.wasm_operator_validator_soundness.proofs.RunsSteps.{starts_valid, steps_sound}
use Rattle.wasm_operator_validator_soundness.proofs.runs.steps_are_sound.Goals as goal

pub returns-clause-steps : goal.returns-clause-steps
returns-clause-steps c = steps_sound

pub returns-clause-starts : goal.returns-clause-starts
returns-clause-starts c = starts_valid
