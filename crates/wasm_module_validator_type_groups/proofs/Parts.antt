-- A type is valid where each of its checks says so.
use Rattle.std.proofs.Common.{◌≡◌, ℕ, List, sym, subst, Option, Result, Ok, Err}
use Rattle.wasm_types.specs.decoding.ErrorValue.{ErrorValue}
use Rattle.wasm_types.specs.decoding.DenialLaws.{denies_from}
use Rattle.wasm_types.specs.decoding.Denials.{Tells}
use Rattle.wasm_types.specs.trees.declared.index.CoreTypeId.{CoreTypeId}
use Rattle.wasm_types.specs.trees.declared.index.UnpackedIndex.{UnpackedIndex}
use Rattle.wasm_types.specs.trees.Types.{EntryOf}
use Rattle.wasm_types.specs.declared.sub_type.SubType.{SubType}
use Rattle.wasm_types.specs.Entries.{entry_of}
use Rattle.wasm_module_validator_type_storage.specs.trees.Groups.{Group}
use Rattle.wasm_module_validator_type_storage.specs.trees.ByIds.{supertype_of}
use Rattle.wasm_module_validator_type_storage.specs.trees.BelowIds.{entry_by_id}
use Rattle.wasm_module_validator_type_groups.specs.composites.Composites.{IsCompositeValid}
use Rattle.wasm_module_validator_type_groups.specs.ValidTypes.{IsSubtypingAllowed, IsAboveValid, IsDepthWithin, AreDescriptorsAllowed, DescriptorsGoAlong, IsDescribedBy, Describes, IsTypeValid}

pub tells_from : {X : Type 0} (r : Result X ErrorValue) (P Q : Type 0) → (P → Q) → (Q → P) → Tells r P → Tells r Q
tells_from (Ok x) P Q f h t = f t
tells_from (Err e) P Q f h t = denies_from e.kind P Q h t

module _ (groups : List Group) (bits most : ℕ) (id : CoreTypeId) (o : Option CoreTypeId) (up : o ≡ supertype_of groups id) where
  abbrev Upper : Option CoreTypeId → Type 0
  Upper p =
      IsAboveValid groups (entry_by_id groups id) p × IsDepthWithin groups most p × AreDescriptorsAllowed bits (entry_by_id groups id)
      × DescriptorsGoAlong groups (entry_by_id groups id) p

  -- what is asked of the supertype
  pub upper_part : IsTypeValid groups bits most id → Upper o
  upper_part v = subst Upper (sym up) (v.above, v.depth, v.descriptors, v.along)

  module _ (ty : SubType) (is : entry_of ty ≡ entry_by_id groups id) where
    abbrev Joins : EntryOf UnpackedIndex → Type 0
    Joins x = IsDescribedBy groups id x.descriptor × Describes groups id x.describes

    -- what is asked of descriptors
    pub joins_part : IsTypeValid groups bits most id → Joins (entry_of ty)
    joins_part v = subst Joins (sym is) (v.described, v.describes)

    -- all of it
    pub all_parts : IsSubtypingAllowed bits (entry_of ty) → IsCompositeValid groups bits (entry_of ty) → Upper o → Joins (entry_of ty) → IsTypeValid groups bits most id
    all_parts a b u j =
        let w = subst Upper up u in
        let k = subst Joins is j in
        record {
          subtyping = subst (IsSubtypingAllowed bits) is a;
          composite = subst (IsCompositeValid groups bits) is b;
          above = w.0;
          depth = w.1;
          descriptors = w.2;
          along = w.3;
          described = k.0;
          describes = k.1;
        }
