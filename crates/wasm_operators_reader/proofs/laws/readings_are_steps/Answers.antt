use Rattle.wasm_operators_reader.specs.StandingLaws.{one_step, refused_no_step}
use Rattle.wasm_operators_reader.proofs.laws.readings_are_steps.Goals as goal

pub returns-clause-one : goal.returns-clause-one
returns-clause-one c = one_step

pub returns-clause-none : goal.returns-clause-none
returns-clause-none c = refused_no_step
