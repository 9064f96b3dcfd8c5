use Rattle.wasm_module_validator.proofs.WorkedModule.{module_worked}
use Rattle.wasm_module_validator.proofs.soundness.modules_are_worked.Goals as goal

pub returns : goal.returns
returns c = module_worked
