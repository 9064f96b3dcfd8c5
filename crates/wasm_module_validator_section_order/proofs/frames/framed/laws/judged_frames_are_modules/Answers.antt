use Rattle.wasm_module_validator_section_order.specs.frames.framed.laws.Sound.{judged_is_spelled, judged_is_valid}
use Rattle.wasm_module_validator_section_order.proofs.frames.framed.laws.judged_frames_are_modules.Goals as goal

pub returns-clause-spelled : goal.returns-clause-spelled
returns-clause-spelled c = judged_is_spelled

pub returns-clause-valid : goal.returns-clause-valid
returns-clause-valid c = judged_is_valid
