use Rattle.wasm_operator_validator_store.proofs.WorkedMemories.{memories_worked}
use Rattle.wasm_operator_validator_store.proofs.memories_are_worked.Goals as goal

pub returns : goal.returns
returns c = memories_worked
