use Rattle.wasm_operator_validator_rules.proofs.WorkedVectors.{vectors_refused, vector_rows_worked}
use Rattle.wasm_operator_validator_rules.proofs.worked.vectors_are_worked.Goals as goal

pub returns-clause-refused : goal.returns-clause-refused
returns-clause-refused c = λ value. vectors_refused value

pub returns-clause-rows : goal.returns-clause-rows
returns-clause-rows c = λ value. vector_rows_worked value
