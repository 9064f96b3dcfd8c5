use Rattle.wasm_module_validator_rules.proofs.WorkedBytes.{bytes_worked}
use Rattle.wasm_module_validator_rules.proofs.worked.bytes_are_worked.Goals as goal

pub returns : goal.returns
returns c = bytes_worked
