use Rattle.wasm_module_validator.proofs.WorkedPart.{part_rows}
use Rattle.wasm_module_validator.proofs.parts.parts_are_worked.Goals as goal

pub returns : goal.returns
returns c = part_rows
