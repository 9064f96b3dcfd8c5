use Rattle.wasm_operator_validator_store.proofs.Final.{final_last}
use Rattle.wasm_operator_validator_store.proofs.final_types_are_last.Goals as goal

pub returns : goal.returns
returns c = final_last
