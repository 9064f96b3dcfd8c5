use Rattle.wasm_operator_validator_tests.specs.StateLaws.{refusals_told, answers_do, kinds_of_refusals, names_of_types, uses_rows, checks_rows, visits_rows}
use Rattle.wasm_operator_validator_tests.proofs.laws.states_are_worked.Goals as goal

pub returns-clause-refusals : goal.returns-clause-refusals
returns-clause-refusals c = refusals_told

pub returns-clause-answers : goal.returns-clause-answers
returns-clause-answers c = answers_do

pub returns-clause-kinds : goal.returns-clause-kinds
returns-clause-kinds c = kinds_of_refusals

pub returns-clause-names : goal.returns-clause-names
returns-clause-names c = names_of_types

pub returns-clause-uses : goal.returns-clause-uses
returns-clause-uses c = uses_rows

pub returns-clause-checks : goal.returns-clause-checks
returns-clause-checks c = checks_rows

pub returns-clause-visits : goal.returns-clause-visits
returns-clause-visits c = visits_rows
