use Rattle.wasm_operator_validator_tests.specs.AttemptLaws.{notes_rows, attempts_rows}
use Rattle.wasm_operator_validator_tests.proofs.laws.attempts_are_worked.Goals as goal

pub returns-clause-notes : goal.returns-clause-notes
returns-clause-notes c = notes_rows

pub returns-clause-attempts : goal.returns-clause-attempts
returns-clause-attempts c = attempts_rows
