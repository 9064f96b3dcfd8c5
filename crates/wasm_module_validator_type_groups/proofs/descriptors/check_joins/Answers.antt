use Rattle.std.proofs.Common.{rules}
use Rattle.wasm_module_validator_type_groups.proofs.descriptors.check_joins.Goals as goal

pub returns-clause-answer : goal.returns-clause-answer
returns-clause-answer c = search rules
