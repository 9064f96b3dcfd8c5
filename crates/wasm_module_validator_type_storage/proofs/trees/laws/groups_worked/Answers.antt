use Rattle.wasm_module_validator_type_storage.proofs.WorkedProofs.{numbers_worked, trees_worked, forms_worked, below_worked, values_worked}
use Rattle.wasm_module_validator_type_storage.proofs.trees.laws.groups_worked.Goals as goal

pub returns-clause-numbers : goal.returns-clause-numbers
returns-clause-numbers c = numbers_worked

pub returns-clause-trees : goal.returns-clause-trees
returns-clause-trees c = trees_worked

pub returns-clause-forms : goal.returns-clause-forms
returns-clause-forms c = forms_worked

pub returns-clause-below : goal.returns-clause-below
returns-clause-below c = below_worked

pub returns-clause-values : goal.returns-clause-values
returns-clause-values c = values_worked
