use Rattle.wasm_module_validator_function_bodies.specs.laws.WorkedLocals.{none_spelled, too_many_before, nothing_spelled}
use Rattle.wasm_module_validator_function_bodies.proofs.laws.locals_are_worked.Goals as goal

pub returns-clause-none : goal.returns-clause-none
returns-clause-none c = none_spelled

pub returns-clause-too_many : goal.returns-clause-too_many
returns-clause-too_many c = too_many_before

pub returns-clause-nothing : goal.returns-clause-nothing
returns-clause-nothing c = nothing_spelled
