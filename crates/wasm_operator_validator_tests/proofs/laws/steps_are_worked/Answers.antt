use Rattle.wasm_operator_validator_tests.specs.StepLaws.{names_written, stacks_changed, abstract_fits, beginnings_stopped, locals_declared, functions_at}
use Rattle.wasm_operator_validator_tests.proofs.laws.steps_are_worked.Goals as goal

pub returns-clause-names : goal.returns-clause-names
returns-clause-names c = names_written

pub returns-clause-stacks : goal.returns-clause-stacks
returns-clause-stacks c = stacks_changed

pub returns-clause-fits : goal.returns-clause-fits
returns-clause-fits c = abstract_fits

pub returns-clause-beginnings : goal.returns-clause-beginnings
returns-clause-beginnings c = beginnings_stopped

pub returns-clause-locals : goal.returns-clause-locals
returns-clause-locals c = locals_declared

pub returns-clause-functions : goal.returns-clause-functions
returns-clause-functions c = functions_at
