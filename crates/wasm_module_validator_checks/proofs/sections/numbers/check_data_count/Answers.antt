use Rattle.std.proofs.Common.{rules}
use Rattle.wasm_module_validator_checks.proofs.sections.numbers.check_data_count.Goals as goal

pub returns-clause-answer : goal.returns-clause-answer
returns-clause-answer c = search rules
