use Rattle.wasm_module_validator_initialisers.proofs.Worked.{globals_worked, tables_worked, data_worked}
use Rattle.wasm_module_validator_initialisers.proofs.segments.laws.items_are_worked.Goals as goal

pub returns : goal.returns
returns c = record { globals = globals_worked; tables = tables_worked; data_segments = data_worked }
