use Rattle.std.proofs.Common.{rules}
use Rattle.wasm_operator_validator_stacks.proofs.validator.OperatorValidator.begin_try_op.Goals as goal

pub returns : goal.returns
returns c = search rules
