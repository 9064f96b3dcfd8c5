-- Worked lists of groups: two structs that refer to each other, a struct below one of them, and the same written anew.
use Rattle.std.specs.Prelude.{◌≡◌, ℕ, true, false, List, [], ◌∷◌, Some, None}
use Rattle.wasm_types.specs.trees.declared.index.CoreTypeId.{CoreTypeId}
use Rattle.wasm_types.specs.trees.declared.index.UnpackedIndex.{UnpackedIndex}
use Rattle.wasm_types.specs.trees.declared.index.UnpackedIndex.TheVariants.{Module, RecGroup, Id}
use Rattle.wasm_types.specs.trees.Types.{HeapOf, abstract, concrete, exact, ref, number, value, InnerOf, function, struct_of, ValueOf}
use Rattle.wasm_types.specs.trees.Types as tree
use Rattle.wasm_types.specs.trees.Trees.{opened}
use Rattle.wasm_types.specs.Entries.{Declared, first_of}
use Rattle.wasm_module_validator_type_storage.specs.trees.Groups.{Group, count, tree_of, group_at, group_numbers, group_ranges, declared_by_id, supertype_ids}
use Rattle.wasm_module_validator_type_storage.specs.trees.Formed.{IsGroupFormed, IsFormed, AreCanonical}
use Rattle.wasm_module_validator_type_storage.specs.trees.ByIds.{supertype_of, IdBelow}
use Rattle.wasm_module_validator_type_storage.specs.trees.BelowIds.{ValueBelowById, value_is_shared_by_id, top_heap_by_id}

-- the id of a number, as an index and alone
abbrev pub id : ℕ → UnpackedIndex
id n = Id (record { 0 = n })

abbrev pub id_of : ℕ → CoreTypeId
id_of n = record { 0 = n }

-- an open type with these supertypes
abbrev pub open_type : List UnpackedIndex → InnerOf UnpackedIndex → Declared
open_type supertypes inner = record {
  supertypes = supertypes;
  entry = record { is_final = false; supertype = first_of supertypes; shared = false; descriptor = None; describes = None; inner = inner };
}

-- a struct with one field, a reference to this type
abbrev pub struct_to : List UnpackedIndex → UnpackedIndex → Declared
struct_to supertypes i = open_type supertypes (struct_of (record { storage = value (ref true (concrete i)); mutable = false } ∷ []))

-- types in canonical form, and types that are added each time
abbrev pub canonical : List Declared → Group
canonical types = record { is_canonical = true; types = types }

abbrev pub as_written : List Declared → Group
as_written types = record { is_canonical = false; types = types }

-- two structs that refer to each other, and one below the second of them
abbrev pub pair : Group
pair = canonical (struct_to [] (RecGroup 1) ∷ struct_to [] (RecGroup 0) ∷ [])

abbrev pub lower : Group
lower = canonical (struct_to (id 1 ∷ []) (id 0) ∷ [])

abbrev pub both : List Group
both = lower ∷ pair ∷ []

-- two functions from nothing to nothing, each added as it is
abbrev pub routine : Group
routine = as_written (open_type [] (function [] []) ∷ [])

abbrev pub routines : List Group
routines = routine ∷ routine ∷ []

-- numbers of groups and ids
pub record NumbersWorked : Type 0 where
  pub counted : count both ≡ 3
  pub first : group_at both 0 ≡ Some pair
  pub second : group_at both 1 ≡ Some lower
  pub no_third : group_at both 2 ≡ None
  pub groups : group_numbers both ≡ 0 ∷ 0 ∷ 1 ∷ []
  pub ranges : group_ranges both ≡ (0, 2) ∷ (2, 3) ∷ []
  pub declared : declared_by_id both ≡ struct_to [] (id 1) ∷ struct_to [] (id 0) ∷ struct_to (id 1 ∷ []) (id 0) ∷ []
  pub supertypes : supertype_ids both ≡ None ∷ None ∷ Some (id_of 1) ∷ []
  pub of_module : supertype_ids (as_written (struct_to (Module 0 ∷ []) (Module 0) ∷ []) ∷ []) ≡ None ∷ []

-- the types that ids stand for
pub record TreesWorked : Type 0 where
  pub one_group : (tree_of both 0).group ≡ (tree_of both 1).group
  pub places : ((tree_of both 0).place ≡ 0) × ((tree_of both 1).place ≡ 1) × ((tree_of both 2).place ≡ 0)
  pub field : (opened (tree_of both 0)).inner ≡ struct_of (record { storage = value (ref true (concrete (tree_of both 1))); mutable = false } ∷ [])
  pub above : (opened (tree_of both 2)).supertype ≡ Some (tree_of both 1)
  pub top : (opened (tree_of both 1)).supertype ≡ None
  pub other_places : tree_of both 0 ≡ tree_of both 1 → ⊥
  pub other_groups : tree_of both 0 ≡ tree_of both 2 → ⊥
  -- equal types under two ids, where the group is not in canonical form
  pub as_written_twice : (tree_of routines 0 ≡ tree_of routines 1)

-- which groups are formed
pub record FormsWorked : Type 0 where
  pub all : IsFormed both
  pub all_canonical : AreCanonical both
  pub twice : IsFormed (pair ∷ pair ∷ []) → ⊥
  pub written_twice : IsFormed routines
  pub not_canonical : AreCanonical routines → ⊥
  pub unknown_id : IsGroupFormed 2 (canonical (struct_to [] (id 2) ∷ [])) → ⊥
  pub known_id : IsGroupFormed 3 (canonical (struct_to [] (id 2) ∷ []))
  pub unknown_place : IsGroupFormed 2 (canonical (struct_to [] (RecGroup 1) ∷ [])) → ⊥
  pub own_supertype : IsGroupFormed 2 (canonical (struct_to (RecGroup 0 ∷ []) (id 0) ∷ [])) → ⊥
  pub later_supertype : IsGroupFormed 2 (canonical (struct_to (RecGroup 1 ∷ []) (id 0) ∷ struct_to [] (id 0) ∷ [])) → ⊥
  pub earlier_supertype : IsGroupFormed 2 (canonical (struct_to [] (id 0) ∷ struct_to (RecGroup 0 ∷ []) (id 0) ∷ []))
  pub two_supertypes : IsGroupFormed 2 (canonical (struct_to (id 0 ∷ id 1 ∷ []) (id 0) ∷ [])) → ⊥
  pub module_index : IsGroupFormed 2 (canonical (struct_to [] (Module 0) ∷ [])) → ⊥
  pub module_index_as_written : IsGroupFormed 2 (as_written (struct_to [] (Module 0) ∷ []))

-- which ids are below which
pub record BelowWorked : Type 0 where
  pub supertype : supertype_of both (id_of 2) ≡ Some (id_of 1)
  pub none_past_the_end : supertype_of both (id_of 3) ≡ None
  pub itself : IdBelow both (id_of 0) (id_of 0)
  pub declared : IdBelow both (id_of 2) (id_of 1)
  pub upside_down : IdBelow both (id_of 1) (id_of 2) → ⊥
  pub unrelated : IdBelow both (id_of 2) (id_of 0) → ⊥
  -- equal types, and not one id
  pub as_written_twice : IdBelow routines (id_of 0) (id_of 1) → ⊥

-- a reference to this heap type, nullable or not
abbrev pub nullable : HeapOf UnpackedIndex → ValueOf UnpackedIndex
nullable h = ref true h

abbrev pub non_null : HeapOf UnpackedIndex → ValueOf UnpackedIndex
non_null h = ref false h

-- which value types over ids are below which
pub record ValuesWorked : Type 0 where
  pub numbers : ValueBelowById both (number tree.i32) (number tree.i32)
  pub other_numbers : ValueBelowById both (number tree.i32) (number tree.f32) → ⊥
  pub declared : ValueBelowById both (non_null (concrete (id 2))) (nullable (concrete (id 1)))
  pub upside_down : ValueBelowById both (nullable (concrete (id 1))) (nullable (concrete (id 2))) → ⊥
  pub null : ValueBelowById both (nullable (concrete (id 2))) (non_null (concrete (id 1))) → ⊥
  pub exactly : ValueBelowById both (nullable (exact (id 2))) (nullable (exact (id 2)))
  pub declared_exactly : ValueBelowById both (nullable (exact (id 2))) (nullable (exact (id 1))) → ⊥
  pub not_exactly : ValueBelowById both (nullable (concrete (id 2))) (nullable (exact (id 2))) → ⊥
  pub under : ValueBelowById both (nullable (concrete (id 2))) (nullable (abstract false tree.eq))
  pub not_under : ValueBelowById both (nullable (concrete (id 0))) (nullable (abstract false tree.func)) → ⊥
  pub not_under_shared : ValueBelowById both (nullable (concrete (id 0))) (nullable (abstract true tree.eq)) → ⊥
  pub over : ValueBelowById both (nullable (abstract false tree.none)) (nullable (exact (id 0)))
  pub not_over : ValueBelowById both (nullable (abstract false tree.i31)) (nullable (concrete (id 2))) → ⊥
  pub not_over_shared : ValueBelowById both (nullable (abstract true tree.none)) (nullable (concrete (id 2))) → ⊥
  pub shared : value_is_shared_by_id both (nullable (concrete (id 2))) ≡ false
  pub shared_numbers : value_is_shared_by_id both (number tree.v128) ≡ true
  pub top : top_heap_by_id both (exact (id 2)) ≡ abstract false tree.any
  pub top_of_abstract : top_heap_by_id both (abstract true tree.nofunc) ≡ abstract true tree.func
