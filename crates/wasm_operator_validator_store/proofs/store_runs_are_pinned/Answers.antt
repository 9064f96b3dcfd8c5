use Rattle.wasm_operator_validator_store.proofs.Steps.{store_runs_pinned}
use Rattle.wasm_operator_validator_store.proofs.store_runs_are_pinned.Goals as goal

pub returns : goal.returns
returns c = store_runs_pinned
