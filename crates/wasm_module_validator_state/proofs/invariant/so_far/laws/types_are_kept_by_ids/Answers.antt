use Rattle.wasm_module_validator_state.specs.invariant.so_far.laws.Named.{value_is_named, reference_is_named, table_is_named, global_is_named}
use Rattle.wasm_module_validator_state.proofs.invariant.so_far.laws.types_are_kept_by_ids.Goals as goal

pub returns-clause-values : goal.returns-clause-values
returns-clause-values c = value_is_named

pub returns-clause-references : goal.returns-clause-references
returns-clause-references c = reference_is_named

pub returns-clause-tables : goal.returns-clause-tables
returns-clause-tables c = table_is_named

pub returns-clause-globals : goal.returns-clause-globals
returns-clause-globals c = global_is_named
