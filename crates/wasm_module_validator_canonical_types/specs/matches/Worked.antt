-- Worked types that match one another and types that don't: two structs with ids 0 and 1, and one below the second with id 2.
use Rattle.std.specs.Prelude.{Bool, true, false, List, [], ◌∷◌}
use Rattle.wasm_types.specs.trees.declared.index.UnpackedIndex.{UnpackedIndex}
use Rattle.wasm_types.specs.trees.Types.{concrete, ref, number, i32, i64, ValueOf, StorageOf, i8, i16, value, FieldOf, function, array_of, struct_of, continuation}
use Rattle.wasm_module_validator_type_storage.specs.trees.Worked.{id, id_of, both}
use Rattle.wasm_module_validator_canonical_types.specs.matches.MatchesById.{FieldMatchesById, InnerMatchesById, MatchesById, HasKnownIds}
use Rattle.wasm_module_validator_type_storage.specs.trees.BelowIds.{entry_by_id}

-- a reference to the type of an id
abbrev pub to : List (ValueOf UnpackedIndex)
to = ref true (concrete (id 1)) ∷ []

abbrev pub to_lower : List (ValueOf UnpackedIndex)
to_lower = ref true (concrete (id 2)) ∷ []

-- a field of such a reference
abbrev pub field_to : Bool → ValueOf UnpackedIndex → FieldOf UnpackedIndex
field_to m v = record { storage = value v; mutable = m }

abbrev pub above_field : Bool → FieldOf UnpackedIndex
above_field m = field_to m (ref true (concrete (id 1)))

abbrev pub lower_field : Bool → FieldOf UnpackedIndex
lower_field m = field_to m (ref true (concrete (id 2)))

pub record MatchesWorked : Type 0 where
  pub field : FieldMatchesById both (lower_field false) (above_field false)
  pub field_upside_down : FieldMatchesById both (above_field false) (lower_field false) → ⊥
  pub mutable_field : FieldMatchesById both (lower_field true) (above_field true) → ⊥
  pub same_mutable_field : FieldMatchesById both (lower_field true) (lower_field true)
  pub other_mutability : FieldMatchesById both (lower_field true) (lower_field false) → ⊥
  pub wider : InnerMatchesById both (struct_of (lower_field false ∷ above_field true ∷ [])) (struct_of (above_field false ∷ []))
  pub narrower : InnerMatchesById both (struct_of []) (struct_of (above_field false ∷ [])) → ⊥
  pub results : InnerMatchesById both (function [] to_lower) (function [] to)
  pub results_upside_down : InnerMatchesById both (function [] to) (function [] to_lower) → ⊥
  pub parameters : InnerMatchesById both (function to []) (function to_lower [])
  pub parameters_upside_down : InnerMatchesById both (function to_lower []) (function to []) → ⊥
  pub more_results : InnerMatchesById both (function [] to) (function [] []) → ⊥
  pub continuations : InnerMatchesById both (continuation (id 2)) (continuation (id 1))
  pub continuations_upside_down : InnerMatchesById both (continuation (id 1)) (continuation (id 2)) → ⊥
  pub other_constructor : InnerMatchesById both (array_of (above_field false)) (struct_of (above_field false ∷ [])) → ⊥
  pub known : HasKnownIds both (entry_by_id both (id_of 2))
