use Rattle.wasm_module_validator_declarations.specs.GroupLaws.{groups_alike, groups_over_the_module}
use Rattle.wasm_module_validator_declarations.proofs.laws.groups_are_read_alike.Goals as goal

pub returns-clause-alike : goal.returns-clause-alike
returns-clause-alike c = groups_alike

pub returns-clause-indices : goal.returns-clause-indices
returns-clause-indices c = groups_over_the_module
