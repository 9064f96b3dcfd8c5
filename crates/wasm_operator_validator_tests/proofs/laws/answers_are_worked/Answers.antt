use Rattle.wasm_operator_validator_tests.specs.AnswerLaws.{counts_end, names_answered, names_mean, function_types, knows_module, operators_answered}
use Rattle.wasm_operator_validator_tests.proofs.laws.answers_are_worked.Goals as goal

pub returns-clause-counts : goal.returns-clause-counts
returns-clause-counts c = counts_end

pub returns-clause-names : goal.returns-clause-names
returns-clause-names c = names_answered

pub returns-clause-meanings : goal.returns-clause-meanings
returns-clause-meanings c = names_mean

pub returns-clause-types : goal.returns-clause-types
returns-clause-types c = function_types

pub returns-clause-known : goal.returns-clause-known
returns-clause-known c = knows_module

pub returns-clause-operators : goal.returns-clause-operators
returns-clause-operators c = operators_answered
