use Rattle.std.proofs.Common.{rules}
use Rattle.wasm_operator_validator_stacks.proofs.validator.OperatorValidator.define_locals.Goals as goal

pub returns-clause-defined : goal.returns-clause-defined
returns-clause-defined c = search rules
