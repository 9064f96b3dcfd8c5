use Rattle.wasm_operator_validator_store.proofs.Progress.{store_answers_exist}
use Rattle.wasm_operator_validator_store.proofs.store_answers_exist.Goals as goal

pub returns : goal.returns
returns c = store_answers_exist
