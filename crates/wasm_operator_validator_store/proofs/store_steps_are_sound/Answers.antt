use Rattle.wasm_operator_validator_store.proofs.Operators.{store_steps_sound}
use Rattle.wasm_operator_validator_store.proofs.store_steps_are_sound.Goals as goal

pub returns : goal.returns
returns c = store_steps_sound
