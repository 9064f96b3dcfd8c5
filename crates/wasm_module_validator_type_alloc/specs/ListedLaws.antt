-- Laws: as many types and groups are listed as there are.
use Rattle.std.proofs.Common.{◌≡◌, ◌∙◌, List, length, map, ap, sym}
use Rattle.std.proofs.lemmas.List.{length-map}
use Rattle.std.specs.declared.ops.Range.{Range}
use Rattle.wasm_types.specs.trees.declared.index.CoreTypeId.{CoreTypeId}
use Rattle.wasm_types.specs.declared.sub_type.SubType.{SubType}
use Rattle.wasm_types.specs.Entries.{declared_of}
use Rattle.wasm_module_validator_type_storage.specs.trees.Groups.{Group, count, declared_by_id, group_ranges}
use Rattle.wasm_module_validator_type_storage.specs.trees.laws.Ids.{length_stored}
use Rattle.wasm_module_validator_type_list.proofs.Parts.{length_ranges}

pub types_counted : (groups : List Group) (types : List SubType) → map declared_of types ≡ declared_by_id groups → length types ≡ count groups
types_counted groups types e = sym (length-map types declared_of) ∙ ap length e ∙ length_stored groups

pub groups_counted : (groups : List Group) (ranges : List (Range CoreTypeId)) → map (λ r. (r.start.0, r.end.0)) ranges ≡ group_ranges groups → length ranges ≡ length groups
groups_counted groups ranges e = sym (length-map ranges (λ r. (r.start.0, r.end.0))) ∙ ap length e ∙ length_ranges groups
