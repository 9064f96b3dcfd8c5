use Rattle.wasm_module_validator.proofs.Validity.{accepted_sound}
use Rattle.wasm_module_validator.proofs.soundness.accepted_is_sound.Goals as goal

pub returns : goal.returns
returns c = accepted_sound
