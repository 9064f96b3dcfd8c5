use Rattle.wasm_module_validator_state.specs.invariant.laws.Growing.{groups_stand}
use Rattle.wasm_module_validator_state.specs.invariant.laws.Importing.{imports_stand}
use Rattle.wasm_module_validator_state.specs.invariant.laws.Behind.{still_last, functions_stand, memories_stand, tags_stand, exports_stand, starts_stand, data_counts_stand, data_stand}
use Rattle.wasm_module_validator_state.proofs.invariant.laws.items_stand.Goals as goal

pub returns-clause-last : goal.returns-clause-last
returns-clause-last c = still_last

pub returns-clause-functions : goal.returns-clause-functions
returns-clause-functions c = functions_stand

pub returns-clause-memories : goal.returns-clause-memories
returns-clause-memories c = memories_stand

pub returns-clause-tags : goal.returns-clause-tags
returns-clause-tags c = tags_stand

pub returns-clause-exports : goal.returns-clause-exports
returns-clause-exports c = exports_stand

pub returns-clause-start : goal.returns-clause-start
returns-clause-start c = starts_stand

pub returns-clause-data_count : goal.returns-clause-data_count
returns-clause-data_count c = data_counts_stand

pub returns-clause-data : goal.returns-clause-data
returns-clause-data c = data_stand

pub returns-clause-groups : goal.returns-clause-groups
returns-clause-groups c = groups_stand

pub returns-clause-imports : goal.returns-clause-imports
returns-clause-imports c = imports_stand
