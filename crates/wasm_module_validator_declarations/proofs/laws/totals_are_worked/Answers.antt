use Rattle.wasm_module_validator_declarations.specs.TotalLaws.{full_is_past, none_of_one, not_otherwise, not_unsaid, not_with_room}
use Rattle.wasm_module_validator_declarations.proofs.laws.totals_are_worked.Goals as goal

pub returns-clause-full : goal.returns-clause-full
returns-clause-full c = full_is_past

pub returns-clause-none : goal.returns-clause-none
returns-clause-none c = none_of_one

pub returns-clause-otherwise : goal.returns-clause-otherwise
returns-clause-otherwise c = not_otherwise

pub returns-clause-unsaid : goal.returns-clause-unsaid
returns-clause-unsaid c = not_unsaid

pub returns-clause-room : goal.returns-clause-room
returns-clause-room c = not_with_room
