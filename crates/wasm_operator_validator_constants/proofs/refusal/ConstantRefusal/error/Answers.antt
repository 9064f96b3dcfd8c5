use Rattle.std.proofs.Common.{rules}
use Rattle.wasm_operator_validator_constants.proofs.refusal.ConstantRefusal.error.Goals as goal

pub returns-in-NotEnabled-clause-kind : goal.returns-in-NotEnabled-clause-kind
returns-in-NotEnabled-clause-kind c = search rules
