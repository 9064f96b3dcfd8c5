use Rattle.wasm_module_validator_tests.specs.ReadingLaws.{items_read, begins, refused}
use Rattle.wasm_module_validator_tests.proofs.laws.reading_is_worked.Goals as goal

pub returns-clause-items : goal.returns-clause-items
returns-clause-items c = items_read

pub returns-clause-sections : goal.returns-clause-sections
returns-clause-sections c = begins

pub returns-clause-refusals : goal.returns-clause-refusals
returns-clause-refusals c = refused
