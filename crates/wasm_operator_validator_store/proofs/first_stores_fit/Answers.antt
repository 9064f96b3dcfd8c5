use Rattle.wasm_operator_validator_store.proofs.Instantiating.{first_stores_fit}
use Rattle.wasm_operator_validator_store.proofs.first_stores_fit.Goals as goal

pub returns : goal.returns
returns c = first_stores_fit
