use Rattle.std.proofs.Common.{rules}
use Rattle.wasm_operator_validator_constants.proofs.beginning.new_const_expr.Goals as goal

pub returns-clause-begins : goal.returns-clause-begins
returns-clause-begins c = search rules

pub returns-in_default-clause-refused : goal.returns-in_default-clause-refused
returns-in_default-clause-refused c = search rules
