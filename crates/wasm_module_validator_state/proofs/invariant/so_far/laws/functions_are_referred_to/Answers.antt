use Rattle.wasm_module_validator_state.specs.invariant.so_far.laws.Referring.{none_are_referred_to, function_is_not_referred_to, others_refer_to_none, table_refers, global_refers, export_refers, element_refers}
use Rattle.wasm_module_validator_state.proofs.invariant.so_far.laws.functions_are_referred_to.Goals as goal

pub returns-clause-nothing : goal.returns-clause-nothing
returns-clause-nothing c = none_are_referred_to

pub returns-clause-functions : goal.returns-clause-functions
returns-clause-functions c = function_is_not_referred_to

pub returns-clause-others : goal.returns-clause-others
returns-clause-others c = others_refer_to_none

pub returns-clause-tables : goal.returns-clause-tables
returns-clause-tables c = table_refers

pub returns-clause-globals : goal.returns-clause-globals
returns-clause-globals c = global_refers

pub returns-clause-exports : goal.returns-clause-exports
returns-clause-exports c = export_refers

pub returns-clause-elements : goal.returns-clause-elements
returns-clause-elements c = element_refers
