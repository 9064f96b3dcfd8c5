use Rattle.wasm_operator_validator_store.proofs.Rows.{rows_worked}
use Rattle.wasm_operator_validator_store.proofs.rows_are_worked.Goals as goal

pub returns : goal.returns
returns c = rows_worked
