use Rattle.std.proofs.Common.{refl}
use Rattle.wasm_module_validator_state.specs.invariant.so_far.laws.Referring.{worked_marks, worked_unmarked, worked_unnamed}
use Rattle.wasm_module_validator_state.proofs.invariant.so_far.laws.marks_are_worked.Goals as goal

pub returns-clause-marked : goal.returns-clause-marked
returns-clause-marked c = worked_marks

pub returns-clause-unmarked : goal.returns-clause-unmarked
returns-clause-unmarked c = worked_unmarked

pub returns-clause-unnamed : goal.returns-clause-unnamed
returns-clause-unnamed c = worked_unnamed

pub returns-clause-each : goal.returns-clause-each
returns-clause-each c = refl

pub returns-clause-none : goal.returns-clause-none
returns-clause-none c = refl
