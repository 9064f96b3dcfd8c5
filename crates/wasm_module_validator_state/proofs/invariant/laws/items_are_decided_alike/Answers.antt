use Rattle.wasm_module_validator_state.specs.invariant.laws.Growing.{group_decided}
use Rattle.wasm_module_validator_state.specs.invariant.laws.Deciding.{imports_decided, functions_decided, memories_decided, tags_decided, exports_decided, start_decided, data_count_decided}
use Rattle.wasm_module_validator_state.proofs.invariant.laws.items_are_decided_alike.Goals as goal

pub returns-clause-imports : goal.returns-clause-imports
returns-clause-imports c = imports_decided

pub returns-clause-functions : goal.returns-clause-functions
returns-clause-functions c = functions_decided

pub returns-clause-memories : goal.returns-clause-memories
returns-clause-memories c = memories_decided

pub returns-clause-tags : goal.returns-clause-tags
returns-clause-tags c = tags_decided

pub returns-clause-exports : goal.returns-clause-exports
returns-clause-exports c = exports_decided

pub returns-clause-start : goal.returns-clause-start
returns-clause-start c = start_decided

pub returns-clause-data_count : goal.returns-clause-data_count
returns-clause-data_count c = data_count_decided

pub returns-clause-groups : goal.returns-clause-groups
returns-clause-groups c = group_decided
