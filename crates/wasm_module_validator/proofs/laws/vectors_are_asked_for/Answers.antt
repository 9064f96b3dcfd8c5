use Rattle.wasm_module_validator.specs.laws.Unasked.{vectors_are_asked_for}
use Rattle.wasm_module_validator.proofs.laws.vectors_are_asked_for.Goals as goal

pub returns : goal.returns
returns c = vectors_are_asked_for
