use Rattle.wasm_module_validator_type_groups.specs.laws.ByTrees.{type_valid}
use Rattle.wasm_module_validator_type_groups.specs.laws.OfGroups.{group_valid}
use Rattle.wasm_module_validator_type_groups.proofs.laws.types_are_valid_as_trees.Goals as goal

pub returns-clause-types : goal.returns-clause-types
returns-clause-types c = λ groups formed k z id lt. type_valid groups formed k id lt z

pub returns-clause-groups : goal.returns-clause-groups
returns-clause-groups c = group_valid
