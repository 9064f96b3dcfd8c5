use Rattle.wasm_module_validator_section_order.specs.frames.framed.laws.Complete.{module_comes}
use Rattle.wasm_module_validator_section_order.proofs.frames.framed.laws.valid_modules_are_judged.Goals as goal

pub returns : goal.returns
returns c = module_comes
