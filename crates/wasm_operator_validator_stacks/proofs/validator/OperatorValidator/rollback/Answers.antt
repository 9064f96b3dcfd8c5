use Rattle.std.proofs.Common.{rules}
use Rattle.wasm_operator_validator_stacks.proofs.validator.OperatorValidator.rollback.Goals as goal

pub returns : goal.returns
returns c = search rules
