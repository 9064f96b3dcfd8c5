use Rattle.wasm_module_validator_tests.specs.StandingLaws.{grown, stands_rows, items_told, fits_told}
use Rattle.wasm_module_validator_tests.proofs.laws.standing_is_worked.Goals as goal

pub returns-clause-lists : goal.returns-clause-lists
returns-clause-lists c = grown

pub returns-clause-states : goal.returns-clause-states
returns-clause-states c = stands_rows

pub returns-clause-items : goal.returns-clause-items
returns-clause-items c = items_told

pub returns-clause-sections : goal.returns-clause-sections
returns-clause-sections c = fits_told
