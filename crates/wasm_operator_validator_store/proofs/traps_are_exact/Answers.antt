use Rattle.wasm_operator_validator_store.proofs.Exact.{traps_exactly}
use Rattle.wasm_operator_validator_store.proofs.traps_are_exact.Goals as goal

pub returns : goal.returns
returns c = traps_exactly
