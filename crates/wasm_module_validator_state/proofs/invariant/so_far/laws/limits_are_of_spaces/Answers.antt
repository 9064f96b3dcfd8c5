use Rattle.wasm_module_validator_state.specs.invariant.so_far.laws.Limits.{counts_are, sums_are_split, import_size_is, export_size_is}
use Rattle.wasm_module_validator_state.proofs.invariant.so_far.laws.limits_are_of_spaces.Goals as goal

pub returns-clause-counts : goal.returns-clause-counts
returns-clause-counts c = counts_are

pub returns-clause-sums : goal.returns-clause-sums
returns-clause-sums c = sums_are_split

pub returns-clause-imports : goal.returns-clause-imports
returns-clause-imports c = import_size_is

pub returns-clause-exports : goal.returns-clause-exports
returns-clause-exports c = export_size_is
