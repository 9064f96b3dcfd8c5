use Rattle.wasm_module_validator_type_storage.proofs.DisplayRows.{displays_worked}
use Rattle.wasm_module_validator_type_storage.proofs.displays.laws.displays_worked.Goals as goal

pub returns : goal.returns
returns c = displays_worked
