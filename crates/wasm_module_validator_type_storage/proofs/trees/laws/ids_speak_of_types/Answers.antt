use Rattle.wasm_module_validator_type_storage.specs.trees.laws.Ids.{opens, supertype_tree, supertype_below, below_by_ids}
use Rattle.wasm_module_validator_type_storage.proofs.trees.laws.ids_speak_of_types.Goals as goal

pub returns-clause-open : goal.returns-clause-open
returns-clause-open c = opens

pub returns-clause-supertypes : goal.returns-clause-supertypes
returns-clause-supertypes c = supertype_tree

pub returns-clause-earlier : goal.returns-clause-earlier
returns-clause-earlier c = supertype_below

pub returns-clause-below : goal.returns-clause-below
returns-clause-below c = below_by_ids
