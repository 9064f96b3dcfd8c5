use Rattle.wasm_module_validator.proofs.Validity.{accepted_sound}
use Rattle.wasm_check_program.proofs.judging.check.Goals as goal

pub returns-clause-sound : goal.returns-clause-sound
returns-clause-sound c after = accepted_sound
