use Rattle.std.proofs.Common.{rules}
use Rattle.wasm_operator_validator_constants.proofs.operators.feature_of.Goals as goal

pub returns-in-Numeric : goal.returns-in-Numeric
returns-in-Numeric c = search rules
