use Rattle.wasm_module_validator_initialisers.proofs.ElementsWorked.{elements_worked, names_worked}
use Rattle.wasm_module_validator_initialisers.proofs.elements.laws.elements_are_worked.Goals as goal

pub returns-clause-segments : goal.returns-clause-segments
returns-clause-segments c = elements_worked

pub returns-clause-names : goal.returns-clause-names
returns-clause-names c = names_worked
