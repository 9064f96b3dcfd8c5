use Rattle.wasm_module_validator.specs.laws.Parts.{whole_is_accepted}
use Rattle.wasm_module_validator.proofs.parts.parts_are_whole.Goals as goal

pub returns : goal.returns
returns c = whole_is_accepted
