use Rattle.wasm_module_validator_state.specs.invariant.laws.Behind.{tables_stand, globals_stand, elements_stand}
use Rattle.wasm_module_validator_state.proofs.invariant.laws.items_with_constants_stand.Goals as goal

pub returns-clause-tables : goal.returns-clause-tables
returns-clause-tables c = tables_stand

pub returns-clause-globals : goal.returns-clause-globals
returns-clause-globals c = globals_stand

pub returns-clause-elements : goal.returns-clause-elements
returns-clause-elements c = elements_stand
