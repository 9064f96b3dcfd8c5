use Rattle.wasm_module_validator.specs.laws.Beginning.{nothing_is_reached}
use Rattle.wasm_module_validator.proofs.laws.validators_begin.Goals as goal

pub returns : goal.returns
returns c = nothing_is_reached
