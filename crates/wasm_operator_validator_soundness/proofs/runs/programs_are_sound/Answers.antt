use Rattle.wasm_operator_validator_soundness.proofs.RunsSteps.{programs_sound, programs_stay_valid}
use Rattle.wasm_operator_validator_soundness.proofs.runs.programs_are_sound.Goals as goal

pub returns-clause-sound : goal.returns-clause-sound
returns-clause-sound c = programs_sound

pub returns-clause-states : goal.returns-clause-states
returns-clause-states c = programs_stay_valid
