use Rattle.wasm_operator_validator_store.proofs.Steps.{store_constants_sound}
use Rattle.wasm_operator_validator_store.proofs.store_constants_are_sound.Goals as goal

pub returns : goal.returns
returns c = store_constants_sound
