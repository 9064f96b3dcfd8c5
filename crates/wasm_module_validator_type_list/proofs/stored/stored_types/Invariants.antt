use Rattle.std.proofs.Common.{◌≡◌, map, take}
use Rattle.wasm_types.specs.Entries.{declared_of}
use Rattle.wasm_types.specs.Remap.{declared_map}
use Rattle.wasm_module_validator_type_list.specs.Stored.{packed_by_id}
use Rattle.wasm_module_validator_type_list.proofs.stored.stored_types.Given as goal

abbrev pub invariant-loop-ty : goal.invariant-loop-ty
invariant-loop-ty l = map declared_of l.stored.items ≡ map (declared_map (packed_by_id l.start)) (map declared_of (take l.ty-index l.types))
