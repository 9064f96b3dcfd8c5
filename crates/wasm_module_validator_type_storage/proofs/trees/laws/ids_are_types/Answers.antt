use Rattle.std.proofs.Common.{ap}
use Rattle.wasm_module_validator_type_storage.specs.trees.Groups.{tree_of}
use Rattle.wasm_module_validator_type_storage.specs.trees.laws.Apart.{apart, missing_by_tree}
use Rattle.wasm_module_validator_type_storage.proofs.trees.laws.ids_are_types.Goals as goal

pub returns-clause-ids : goal.returns-clause-ids
returns-clause-ids c = λ groups formed canonical i j a b. (λ e. apart groups formed canonical i j a b e, λ e. ap (tree_of groups) e)

pub returns-clause-groups : goal.returns-clause-groups
returns-clause-groups c = missing_by_tree
