use Rattle.wasm_operator_validator_store.proofs.Linked.{linked_store_worked}
use Rattle.wasm_operator_validator_store.proofs.linked_store_is_worked.Goals as goal

pub returns : goal.returns
returns c = linked_store_worked
