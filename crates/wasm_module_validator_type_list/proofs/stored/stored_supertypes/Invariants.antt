use Rattle.std.proofs.Common.{◌≡◌, map, take}
use Rattle.wasm_types.specs.Entries.{declared_of}
use Rattle.wasm_module_validator_type_storage.specs.trees.Groups.{supertype_id}
use Rattle.wasm_module_validator_type_list.proofs.stored.stored_supertypes.Given as goal

abbrev pub invariant-loop-ty : goal.invariant-loop-ty
invariant-loop-ty l = l.supertypes.items ≡ map supertype_id (map declared_of (take l.ty-index l.types))
