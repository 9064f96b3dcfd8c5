use Rattle.std.proofs.Common.{refl}
use Rattle.wasm_module_validator_state.specs.invariant.so_far.laws.Adding.{worked_initial, worked_maximum}
use Rattle.wasm_module_validator_state.proofs.invariant.so_far.laws.table_sizes_are_worked.Goals as goal

pub returns-clause-sizes : goal.returns-clause-sizes
returns-clause-sizes c = λ t. refl

pub returns-clause-initial : goal.returns-clause-initial
returns-clause-initial c = worked_initial

pub returns-clause-maximum : goal.returns-clause-maximum
returns-clause-maximum c = worked_maximum
