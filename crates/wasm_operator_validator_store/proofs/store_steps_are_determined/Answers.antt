use Rattle.wasm_operator_validator_store.proofs.Determined.{store_steps_determined}
use Rattle.wasm_operator_validator_store.proofs.store_steps_are_determined.Goals as goal

pub returns : goal.returns
returns c = store_steps_determined
