-- Worked rows: room for groups, which groups are added and how they are kept, the places of groups, and depths.
use Rattle.std.specs.Prelude.{◌≡◌, ℕ, true, false, List, [], ◌∷◌, Some, None}
use Rattle.wasm_types.specs.trees.declared.index.UnpackedIndex.TheVariants.{Module, RecGroup}
use Rattle.wasm_types.specs.declared.rec_group.RecGroup.{RecGroup as Group}
use Rattle.wasm_types.specs.declared.sub_type.SubType.{SubType}
use Rattle.wasm_types.specs.Entries.{declared_of, declared_types}
use Rattle.wasm_module_validator_type_storage.specs.trees.Worked.{id, id_of, canonical, as_written as each_time, pair, lower, both, routine, routines}
use Rattle.wasm_module_validator_type_storage.specs.trees.Groups.{declared_by_id}
use Rattle.wasm_module_validator_type_list.specs.Stored.{packed_by_id}
use Rattle.wasm_module_validator_type_list.specs.Rolled.{rolled, rolled_groups, forms}
use Rattle.wasm_module_validator_type_list.specs.Lookups.{HasIds, HasPlace, IsAtPlace}
use Rattle.wasm_module_validator_type_list.specs.declared.ids.RecGroupId.{RecGroupId}
use Rattle.wasm_module_validator_type_list.specs.declared.known.Known.{Known}
use Rattle.wasm_module_validator_type_list.specs.Known.{Numbers, IsAlone, Gains}
use Rattle.wasm_module_validator_type_list.specs.Depths.{depth_at, SetsDepth, KeepsDepths}
use Rattle.wasm_module_validator_type_list.specs.List.{HasRoom, IsAdded, Interns}

-- these ids, and these copies
abbrev pub known_by : List ℕ → Numbers → Known
known_by ids numbers = record { alone = ids; numbers = numbers }

-- two structs with ids 0 and 1, and one below the second with id 2
pub record ListsWorked : Type 0 where
  pub place : packed_by_id 7 (RecGroup 2) ≡ id 9
  pub last_id : packed_by_id 0xf_ffff (RecGroup 0) ≡ id 0xf_ffff
  pub no_id : packed_by_id 0xf_ffff (RecGroup 1) ≡ RecGroup 1
  pub own_id : packed_by_id 7 (id 2) ≡ id 2
  pub of_module : packed_by_id 7 (Module 2) ≡ Module 2
  pub own_place : rolled 7 (id 9) ≡ RecGroup 2
  pub earlier_id : rolled 7 (id 6) ≡ id 6
  pub first_own_place : rolled 7 (id 7) ≡ RecGroup 0
  pub still_of_module : rolled 7 (Module 9) ≡ Module 9
  pub rolled_up : rolled_groups (declared_by_id both) (true ∷ true ∷ []) ((0, 2) ∷ (2, 3) ∷ []) ≡ pair ∷ lower ∷ []
  pub forms_in_turn : forms (lower ∷ routine ∷ []) ≡ false ∷ true ∷ []
  pub room : HasRoom both 0xf_fffd
  pub no_room : HasRoom both 0xf_fffe → ⊥
  pub added : IsAdded (pair ∷ []) lower
  pub known : IsAdded both lower → ⊥
  pub as_written : IsAdded routines routine
  pub interned : Interns (pair ∷ []) both lower true 1
  pub found : Interns both both lower false 1
  pub found_elsewhere : Interns both both lower false 0 → ⊥
  pub added_twice : Interns both (lower ∷ both) lower true 2 → ⊥
  pub added_again : Interns routines (routine ∷ routines) routine true 2
  pub not_the_next : Interns routines (routine ∷ routines) routine true 0 → ⊥
  -- any type, as the only one of its group and not, and what it means to keep such a group: its id, and no copy of it
  pub kept_by_id : (t : SubType) → IsAlone (canonical (declared_of t ∷ []) ∷ []) (t ∷ []) 0
  pub not_canonical : (t : SubType) → IsAlone (each_time (declared_of t ∷ []) ∷ []) (t ∷ []) 0 → ⊥
  pub not_alone : (t u : SubType) → IsAlone (canonical (declared_of t ∷ declared_of u ∷ []) ∷ []) (t ∷ u ∷ []) 0 → ⊥
  pub gained : (t : SubType) (g : Group) (k : RecGroupId) (m : Numbers) → declared_types g ≡ declared_of t ∷ []
      → Gains [] (t ∷ []) 0 g k (known_by [] m) (known_by (0 ∷ []) m)
  pub gained_by_copy : (t : SubType) (g : Group) (k : RecGroupId) (m n : Numbers) → declared_types g ≡ declared_of t ∷ []
      → Gains [] (t ∷ []) 0 g k (known_by [] m) (known_by [] n) → ⊥
  pub ids : HasIds both 1 2 3
  pub first_place : HasPlace both 0 1
  pub no_place : HasPlace both 1 1 → ⊥
  pub at_place : IsAtPlace both 0 1 (id_of 1)
  pub not_at_place : IsAtPlace both 1 0 (id_of 1) → ⊥
  pub depth : depth_at (Some 0 ∷ None ∷ []) 0 ≡ Some 0
  pub no_depth : depth_at (Some 0 ∷ None ∷ []) 1 ≡ None
  pub no_type : depth_at (Some 0 ∷ None ∷ []) 2 ≡ None
  pub set : SetsDepth (Some 0 ∷ None ∷ []) (Some 0 ∷ Some 1 ∷ []) 1 1
  pub set_wrong : SetsDepth (Some 0 ∷ None ∷ []) (Some 0 ∷ Some 1 ∷ []) 1 2 → ⊥
  pub set_elsewhere : SetsDepth (Some 0 ∷ None ∷ []) (None ∷ Some 1 ∷ []) 1 1 → ⊥
  pub kept : KeepsDepths (pair ∷ []) (Some 0 ∷ None ∷ []) (Some 0 ∷ None ∷ None ∷ [])
  pub lost : KeepsDepths (pair ∷ []) (Some 0 ∷ None ∷ []) (None ∷ None ∷ None ∷ []) → ⊥
  pub given : KeepsDepths (pair ∷ []) (Some 0 ∷ None ∷ []) (Some 0 ∷ None ∷ Some 1 ∷ []) → ⊥
