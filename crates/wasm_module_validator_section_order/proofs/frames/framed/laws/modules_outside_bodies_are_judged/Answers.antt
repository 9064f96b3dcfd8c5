use Rattle.wasm_module_validator_section_order.specs.frames.framed.laws.Outside.{outside_exactly}
use Rattle.wasm_module_validator_section_order.proofs.frames.framed.laws.modules_outside_bodies_are_judged.Goals as goal

pub returns : goal.returns
returns c = outside_exactly
