use Rattle.wasm_operator_validator_store.proofs.Exact.{bytes_kept, memories_kept}
use Rattle.wasm_operator_validator_store.proofs.memories_are_kept.Goals as goal

pub returns-clause-bytes : goal.returns-clause-bytes
returns-clause-bytes c = bytes_kept

pub returns-clause-memories : goal.returns-clause-memories
returns-clause-memories c = memories_kept
