use Rattle.wasm_module_validator_type_list.proofs.WorkedProofs.{lists_worked}
use Rattle.wasm_module_validator_type_list.proofs.laws.lists_worked.Goals as goal

pub returns : goal.returns
returns c = lists_worked
