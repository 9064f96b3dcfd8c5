use Rattle.wasm_module_validator_tests.specs.DoneLaws.{locals_done, tries_done, bodies_done, functions_named}
use Rattle.wasm_module_validator_tests.proofs.laws.bodies_are_done.Goals as goal

pub returns-clause-locals : goal.returns-clause-locals
returns-clause-locals c = locals_done

pub returns-clause-tries : goal.returns-clause-tries
returns-clause-tries c = tries_done

pub returns-clause-bodies : goal.returns-clause-bodies
returns-clause-bodies c = bodies_done

pub returns-clause-named : goal.returns-clause-named
returns-clause-named c = functions_named
