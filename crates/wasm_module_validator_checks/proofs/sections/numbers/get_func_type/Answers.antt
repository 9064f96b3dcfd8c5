use Rattle.std.proofs.Common.{rules}
use Rattle.wasm_module_validator_checks.proofs.sections.numbers.get_func_type.Goals as goal

pub returns-clause-answer : goal.returns-clause-answer
returns-clause-answer c = search rules

pub returns-clause-function : goal.returns-clause-function
returns-clause-function c = search rules
