use Rattle.wasm_operator_validator_soundness.proofs.RunsSteps.{ancestors_sound}
use Rattle.wasm_operator_validator_soundness.proofs.runs.ancestors_are_sound.Goals as goal

pub returns : goal.returns
returns c = ancestors_sound
