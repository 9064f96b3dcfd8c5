use Rattle.wasm_operator_validator_soundness.proofs.RunsSteps.{constants_sound, constants_valid}
use Rattle.wasm_operator_validator_soundness.proofs.runs.constants_are_sound.Goals as goal

pub returns-clause-steps : goal.returns-clause-steps
returns-clause-steps c = constants_valid

pub returns-clause-values : goal.returns-clause-values
returns-clause-values c = constants_sound
