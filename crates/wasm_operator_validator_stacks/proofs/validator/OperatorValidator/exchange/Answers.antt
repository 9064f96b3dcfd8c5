use Rattle.std.proofs.Common.{rules}
use Rattle.wasm_operator_validator_stacks.proofs.validator.OperatorValidator.exchange.Goals as goal

pub returns-clause-does : goal.returns-clause-does
returns-clause-does c = search rules
