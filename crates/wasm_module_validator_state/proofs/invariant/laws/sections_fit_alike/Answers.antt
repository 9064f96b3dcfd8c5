use Rattle.wasm_module_validator_state.specs.invariant.laws.Beginning.{types_fit, imports_fit, exports_fit, elements_fit, data_fit}
use Rattle.wasm_module_validator_state.specs.invariant.laws.Deciding.{functions_fit, tables_fit, memories_fit, tags_fit, globals_fit}
use Rattle.wasm_module_validator_state.proofs.invariant.laws.sections_fit_alike.Goals as goal

pub returns-clause-functions : goal.returns-clause-functions
returns-clause-functions c = functions_fit

pub returns-clause-tables : goal.returns-clause-tables
returns-clause-tables c = tables_fit

pub returns-clause-memories : goal.returns-clause-memories
returns-clause-memories c = memories_fit

pub returns-clause-tags : goal.returns-clause-tags
returns-clause-tags c = tags_fit

pub returns-clause-globals : goal.returns-clause-globals
returns-clause-globals c = globals_fit

pub returns-clause-types : goal.returns-clause-types
returns-clause-types c = types_fit

pub returns-clause-imports : goal.returns-clause-imports
returns-clause-imports c = imports_fit

pub returns-clause-exports : goal.returns-clause-exports
returns-clause-exports c = exports_fit

pub returns-clause-elements : goal.returns-clause-elements
returns-clause-elements c = elements_fit

pub returns-clause-data : goal.returns-clause-data
returns-clause-data c = data_fit
