use Rattle.wasm_module_validator_type_storage.specs.trees.laws.Unrolled.{tree_old}
use Rattle.wasm_module_validator_type_storage.proofs.trees.laws.types_stay.Goals as goal

pub returns : goal.returns
returns c = tree_old
