use Rattle.wasm_module_validator_rules.proofs.WorkedItems.{imports_worked, types_worked, shared_worked, elements_worked, indices_worked}
use Rattle.wasm_module_validator_rules.proofs.worked.items_are_worked.Goals as goal

pub returns-clause-imports : goal.returns-clause-imports
returns-clause-imports c = imports_worked

pub returns-clause-types : goal.returns-clause-types
returns-clause-types c = types_worked

pub returns-clause-shared : goal.returns-clause-shared
returns-clause-shared c = shared_worked

pub returns-clause-elements : goal.returns-clause-elements
returns-clause-elements c = elements_worked

pub returns-clause-indices : goal.returns-clause-indices
returns-clause-indices c = indices_worked
