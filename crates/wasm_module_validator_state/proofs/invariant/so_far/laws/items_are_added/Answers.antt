use Rattle.wasm_module_validator_state.specs.invariant.so_far.laws.Adding.{nothing_is, group_is_added, function_is_added, table_is_added, memory_is_added, tag_is_added, global_is_added, element_is_added, data_count_is_set, others_are_read, function_is_referred_to}
use Rattle.wasm_module_validator_state.proofs.invariant.so_far.laws.items_are_added.Goals as goal

pub returns-clause-nothing : goal.returns-clause-nothing
returns-clause-nothing c = nothing_is

pub returns-clause-groups : goal.returns-clause-groups
returns-clause-groups c = group_is_added

pub returns-clause-functions : goal.returns-clause-functions
returns-clause-functions c = function_is_added

pub returns-clause-tables : goal.returns-clause-tables
returns-clause-tables c = table_is_added

pub returns-clause-memories : goal.returns-clause-memories
returns-clause-memories c = memory_is_added

pub returns-clause-tags : goal.returns-clause-tags
returns-clause-tags c = tag_is_added

pub returns-clause-globals : goal.returns-clause-globals
returns-clause-globals c = global_is_added

pub returns-clause-elements : goal.returns-clause-elements
returns-clause-elements c = element_is_added

pub returns-clause-data_count : goal.returns-clause-data_count
returns-clause-data_count c = data_count_is_set

pub returns-clause-others : goal.returns-clause-others
returns-clause-others c = others_are_read

pub returns-clause-referring : goal.returns-clause-referring
returns-clause-referring c = function_is_referred_to
