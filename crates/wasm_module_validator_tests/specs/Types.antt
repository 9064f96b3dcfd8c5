-- Types by their ids: which are interned, which match, and which are valid (WebAssembly 3.0, validation, types and matching): of a list with
-- two structs that refer to each other, with the ids 0 and 1, and one below the second, with the id 2.
use Rattle.std.specs.Prelude.{ℕ, true, List, [], ◌∷◌}
use Rattle.wasm_types.specs.trees.declared.index.UnpackedIndex.{UnpackedIndex}
use Rattle.wasm_types.specs.trees.Types.{i32, i64, i8, i16, value, number, function, ValueOf, EntryOf}
use Rattle.wasm_types.specs.Entries.{Declared}
use Rattle.wasm_module_validator_type_storage.specs.trees.Groups.{Group}
use Rattle.wasm_module_validator_type_storage.specs.trees.Worked.{id, id_of, open_type, struct_to, canonical, pair, lower, both, nullable}
use Rattle.wasm_module_validator_type_storage.specs.trees.BelowIds.{entry_by_id}
use Rattle.wasm_types.specs.trees.Types.{concrete}
use Rattle.wasm_types.specs.trees.declared.index.UnpackedIndex.TheVariants.{RecGroup}
use Rattle.wasm_module_validator_canonical_types.specs.type_list.Lookups.{HasIds}
use Rattle.wasm_module_validator_canonical_types.specs.type_list.List.{InternsAlone}
use Rattle.wasm_module_validator_canonical_types.specs.matches.MatchesById.{StorageMatchesById, EntryMatchesById, MatchesById}
use Rattle.wasm_module_validator_type_groups.specs.composites.Composites.{IsCompositeValid}
use Rattle.wasm_module_validator_type_groups.specs.ValidTypes.{IsTypeValid}

-- ---- interning

-- the type of the last group, which is alone in it
abbrev pub lower_type : Declared
lower_type = struct_to (id 1 ∷ []) (id 0)

pub record TypesInterned : Type 0 where
  pub first_ids : HasIds both 0 0 2
  pub not_one_less : HasIds both 1 2 2 → ⊥
  pub not_of_the_first : HasIds both 1 0 2 → ⊥
  pub no_group : HasIds both 2 3 3 → ⊥
  pub added : InternsAlone (pair ∷ []) both lower_type (id_of 2)
  pub found : InternsAlone both both lower_type (id_of 2)
  pub another_id : InternsAlone (pair ∷ []) both lower_type (id_of 1) → ⊥
  pub not_added : InternsAlone (pair ∷ []) (pair ∷ []) lower_type (id_of 2) → ⊥

-- ---- matching

-- the types of the ids 1 and 2
abbrev pub above : EntryOf UnpackedIndex
above = entry_by_id both (id_of 1)

abbrev pub below : EntryOf UnpackedIndex
below = entry_by_id both (id_of 2)

pub record TypesMatched : Type 0 where
  pub packed : StorageMatchesById both i8 i8
  pub packed16 : StorageMatchesById both i16 i16
  pub other_packed : StorageMatchesById both i8 i16 → ⊥
  pub other_packed16 : StorageMatchesById both i16 i8 → ⊥
  pub unpacked : StorageMatchesById both i8 (value (number i32)) → ⊥
  pub packed_value : StorageMatchesById both (value (number i32)) i8 → ⊥
  pub lower : StorageMatchesById both (value (nullable (concrete (id 2)))) (value (nullable (concrete (id 1))))
  pub upside_down : StorageMatchesById both (value (nullable (concrete (id 1)))) (value (nullable (concrete (id 2)))) → ⊥
  pub entry : EntryMatchesById both below above
  pub final_entry : EntryMatchesById both (record below { is_final = true }) above
  pub shared_entry : EntryMatchesById both (record below { shared = true }) above → ⊥
  pub other_constructor : EntryMatchesById both (record below { inner = function [] [] }) above → ⊥
  pub declared : MatchesById both (id_of 2) (id_of 1)
  pub other_fields : MatchesById both (id_of 0) (id_of 1) → ⊥

-- ---- validity

abbrev pub all_features : ℕ
all_features = 0xfff_ffff

-- the same list, but the second struct is final
abbrev pub under_final : List Group
under_final = lower ∷ canonical (struct_to [] (RecGroup 1) ∷ record (struct_to [] (RecGroup 0)) { entry = record (struct_to [] (RecGroup 0)).entry { is_final = true } } ∷ []) ∷ []

-- a function type without parameters
abbrev pub giving : List (ValueOf UnpackedIndex) → EntryOf UnpackedIndex
giving results = (open_type [] (function [] results)).entry

pub record TypesValid : Type 0 where
  pub struct : IsCompositeValid both all_features below
  pub struct_without_features : IsCompositeValid both 0 below → ⊥
  pub shared_of_unshared : IsCompositeValid both all_features (record below { shared = true }) → ⊥
  pub one_result : IsCompositeValid both 0 (giving (number i32 ∷ []))
  pub two_results : IsCompositeValid both all_features (giving (number i32 ∷ number i64 ∷ []))
  pub two_results_without_features : IsCompositeValid both 0 (giving (number i32 ∷ number i64 ∷ [])) → ⊥
  pub valid : IsTypeValid both all_features 1 (id_of 2)
  pub too_deep : IsTypeValid both all_features 0 (id_of 2) → ⊥
  pub without_features : IsTypeValid both 0 1 (id_of 2) → ⊥
  pub of_final : IsTypeValid under_final all_features 1 (id_of 2) → ⊥
