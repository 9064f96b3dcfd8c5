use Rattle.wasm_module_validator_section_order.specs.frames.framed.laws.Frames.{frames_are_one}
use Rattle.wasm_module_validator_section_order.specs.frames.framed.laws.Accepted.{accepted_comes, accepted_exactly, bodies_of_functions}
use Rattle.wasm_module_validator_section_order.proofs.frames.framed.laws.accepted_modules_are_judged.Goals as goal

pub returns-clause-framed : goal.returns-clause-framed
returns-clause-framed c = λ z text a. let h = accepted_comes z text a in (h.0, h.1)

pub returns-clause-one : goal.returns-clause-one
returns-clause-one c = frames_are_one

pub returns-clause-exact : goal.returns-clause-exact
returns-clause-exact c = accepted_exactly

pub returns-clause-bodies : goal.returns-clause-bodies
returns-clause-bodies c = bodies_of_functions
