use Rattle.wasm_operator_validator_store.proofs.Determined.{store_runs_determined}
use Rattle.wasm_operator_validator_store.proofs.store_runs_are_determined.Goals as goal

pub returns : goal.returns
returns c = store_runs_determined
