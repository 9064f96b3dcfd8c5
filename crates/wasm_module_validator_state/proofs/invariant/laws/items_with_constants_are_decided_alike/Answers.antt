use Rattle.wasm_module_validator_state.specs.invariant.laws.Deciding.{tables_decided, globals_decided, elements_decided, data_decided}
use Rattle.wasm_module_validator_state.proofs.invariant.laws.items_with_constants_are_decided_alike.Goals as goal

pub returns-clause-tables : goal.returns-clause-tables
returns-clause-tables c = tables_decided

pub returns-clause-globals : goal.returns-clause-globals
returns-clause-globals c = globals_decided

pub returns-clause-elements : goal.returns-clause-elements
returns-clause-elements c = elements_decided

pub returns-clause-data : goal.returns-clause-data
returns-clause-data c = data_decided
