use Rattle.wasm_module_validator_type_storage.specs.trees.laws.BelowIds.{value_below, value_shared, abstract_tree}
use Rattle.wasm_module_validator_type_storage.proofs.trees.laws.values_speak_of_types.Goals as goal

pub returns-clause-below : goal.returns-clause-below
returns-clause-below c = value_below

pub returns-clause-shared : goal.returns-clause-shared
returns-clause-shared c = value_shared

pub returns-clause-constructors : goal.returns-clause-constructors
returns-clause-constructors c = abstract_tree
