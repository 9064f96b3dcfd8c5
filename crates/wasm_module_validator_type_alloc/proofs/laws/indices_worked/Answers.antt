use Rattle.wasm_module_validator_type_alloc.proofs.WorkedProofs.{indices_worked}
use Rattle.wasm_module_validator_type_alloc.proofs.laws.indices_worked.Goals as goal

pub returns : goal.returns
returns c = indices_worked
