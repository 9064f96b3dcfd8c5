use Rattle.wasm_module_validator_tests.specs.ItemLaws.{imports_named, names_kept, room_for, importable, exportable, imported, next_places, exported, next_code, refused_by, names_known, read_over}
use Rattle.wasm_module_validator_tests.proofs.laws.items_are_worked.Goals as goal

pub returns-clause-imports : goal.returns-clause-imports
returns-clause-imports c = imports_named

pub returns-clause-names : goal.returns-clause-names
returns-clause-names c = names_kept

pub returns-clause-room : goal.returns-clause-room
returns-clause-room c = room_for

pub returns-clause-importable : goal.returns-clause-importable
returns-clause-importable c = importable

pub returns-clause-exportable : goal.returns-clause-exportable
returns-clause-exportable c = exportable

pub returns-clause-imported : goal.returns-clause-imported
returns-clause-imported c = imported

pub returns-clause-places : goal.returns-clause-places
returns-clause-places c = next_places

pub returns-clause-exported : goal.returns-clause-exported
returns-clause-exported c = exported

pub returns-clause-code : goal.returns-clause-code
returns-clause-code c = next_code

pub returns-clause-refusals : goal.returns-clause-refusals
returns-clause-refusals c = refused_by

pub returns-clause-known : goal.returns-clause-known
returns-clause-known c = names_known

pub returns-clause-read : goal.returns-clause-read
returns-clause-read c = read_over
