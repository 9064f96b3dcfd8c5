use Rattle.wasm_operator_validator_soundness.proofs.Steps.{activation_sound}
use Rattle.wasm_operator_validator_soundness.proofs.activations_are_sound.Goals as goal

pub returns : goal.returns
returns c = activation_sound
