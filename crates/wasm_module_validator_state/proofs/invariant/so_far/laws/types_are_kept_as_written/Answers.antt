use Rattle.wasm_module_validator_state.specs.invariant.so_far.laws.Written.{value_means, reference_means, table_means, global_means}
use Rattle.wasm_module_validator_state.proofs.invariant.so_far.laws.types_are_kept_as_written.Goals as goal

pub returns-clause-values : goal.returns-clause-values
returns-clause-values c = value_means

pub returns-clause-references : goal.returns-clause-references
returns-clause-references c = reference_means

pub returns-clause-tables : goal.returns-clause-tables
returns-clause-tables c = table_means

pub returns-clause-globals : goal.returns-clause-globals
returns-clause-globals c = global_means
