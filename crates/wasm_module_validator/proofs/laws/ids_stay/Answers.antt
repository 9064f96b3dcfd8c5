use Rattle.wasm_module_validator.specs.laws.Ids.{ids_stay}
use Rattle.wasm_module_validator.proofs.laws.ids_stay.Goals as goal

pub returns : goal.returns
returns c = ids_stay
