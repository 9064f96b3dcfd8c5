use Rattle.std.proofs.Common.{rules}
use Rattle.wasm_module_validator_type_groups.proofs.adding.module.check_max.Goals as goal

pub returns-then-most-eq1-clause-answer : goal.returns-then-most-eq1-clause-answer
returns-then-most-eq1-clause-answer c = search rules

pub returns-clause-answer : goal.returns-clause-answer
returns-clause-answer c = search rules
