use Rattle.std.proofs.Common.{rules}
use Rattle.wasm_module_validator_checks.proofs.externs.sizes.check_limits.Goals as goal

pub returns-clause-answer : goal.returns-clause-answer
returns-clause-answer c = search rules
