use Rattle.wasm_module_validator.specs.laws.ListRows.{list_rows}
use Rattle.wasm_module_validator.proofs.laws.lists_are_worked.Goals as goal

pub returns : goal.returns
returns c = list_rows
