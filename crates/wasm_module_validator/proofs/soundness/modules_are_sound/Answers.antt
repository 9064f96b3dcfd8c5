use Rattle.wasm_module_validator.proofs.Validity.{modules_sound}
use Rattle.wasm_module_validator.proofs.soundness.modules_are_sound.Goals as goal

pub returns : goal.returns
returns c = modules_sound
