use Rattle.wasm_operator_validator_store.proofs.WorkedTables.{tables_worked}
use Rattle.wasm_operator_validator_store.proofs.operator_tables_are_worked.Goals as goal

pub returns : goal.returns
returns c = tables_worked
