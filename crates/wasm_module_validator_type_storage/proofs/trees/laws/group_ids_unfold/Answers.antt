use Rattle.wasm_module_validator_type_storage.specs.trees.laws.GroupIds.{group_ids}
use Rattle.wasm_module_validator_type_storage.proofs.trees.laws.group_ids_unfold.Goals as goal

pub returns : goal.returns
returns c = group_ids
