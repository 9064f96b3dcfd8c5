use Rattle.wasm_module_validator_type_groups.proofs.WorkedProofs.{adding_is_worked}
use Rattle.wasm_module_validator_type_groups.proofs.adding.laws.adding_worked.Goals as goal

pub returns : goal.returns
returns c = adding_is_worked
