use Rattle.wasm_module_validator_tests.specs.ShortLaws.{between_rows, adds_rows, short_data_rows, room_rows}
use Rattle.wasm_module_validator_tests.proofs.laws.short_items_are_worked.Goals as goal

pub returns-clause-between : goal.returns-clause-between
returns-clause-between c = between_rows

pub returns-clause-adds : goal.returns-clause-adds
returns-clause-adds c = adds_rows

pub returns-clause-segments : goal.returns-clause-segments
returns-clause-segments c = short_data_rows

pub returns-clause-room : goal.returns-clause-room
returns-clause-room c = room_rows
