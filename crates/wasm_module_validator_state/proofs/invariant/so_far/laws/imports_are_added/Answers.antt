use Rattle.wasm_module_validator_state.specs.invariant.so_far.laws.Importing.{function_is_imported, exact_function_is_imported, table_is_imported, memory_is_imported, global_is_imported, tag_is_imported}
use Rattle.wasm_module_validator_state.proofs.invariant.so_far.laws.imports_are_added.Goals as goal

pub returns-clause-functions : goal.returns-clause-functions
returns-clause-functions c = function_is_imported

pub returns-clause-exact_functions : goal.returns-clause-exact_functions
returns-clause-exact_functions c = exact_function_is_imported

pub returns-clause-tables : goal.returns-clause-tables
returns-clause-tables c = table_is_imported

pub returns-clause-memories : goal.returns-clause-memories
returns-clause-memories c = memory_is_imported

pub returns-clause-globals : goal.returns-clause-globals
returns-clause-globals c = global_is_imported

pub returns-clause-tags : goal.returns-clause-tags
returns-clause-tags c = tag_is_imported
