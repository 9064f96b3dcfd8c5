use Rattle.wasm_operator_validator_rules.proofs.WorkedCodes.{codes_worked}
use Rattle.wasm_operator_validator_rules.proofs.worked.code_is_worked.Goals as goal

pub returns-clause-codes : goal.returns-clause-codes
returns-clause-codes c = codes_worked
