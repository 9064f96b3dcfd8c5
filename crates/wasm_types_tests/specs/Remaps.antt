-- Types whose indices are replaced, worked by hand: which indices a type has and in which order, what is left of it without
-- them, and what a call may leave that replaces them, or is refused at one of them.
use Rattle.std.specs.Prelude.{◌≡◌, ℕ, ◌+◌, true, false, List, [], ◌∷◌, Some, Result, Ok, Err, map}
use Rattle.std.specs.List.{flat_map}
use Rattle.wasm_types.specs.trees.declared.index.UnpackedIndex.{UnpackedIndex}
use Rattle.wasm_types.specs.trees.declared.index.UnpackedIndex.TheVariants.{Module, RecGroup, Id}
use Rattle.wasm_types.specs.trees.Types as tree
use Rattle.wasm_types.specs.trees.Types.{HeapOf, ValueOf, StorageOf, FieldOf, InnerOf, EntryOf}
use Rattle.wasm_types.specs.values.Remap.{Remapped, value_indices, value_shape, storage_indices, storage_shape}
use Rattle.wasm_types.specs.fields.Remap.{field_indices, field_shape, inner_indices, inner_shape}
use Rattle.wasm_types.specs.Entries.{DeclaredOf}
use Rattle.wasm_types.specs.Remap.{entry_indices, entry_shape, declared_indices, declared_shape}

-- a reference by an index, one that may be null to exactly that type, and one that has no index
abbrev pub to : {R : Type 0} → R → ValueOf R
to r = tree.ref false (tree.concrete r)

abbrev pub to_exactly : {R : Type 0} → R → ValueOf R
to_exactly r = tree.ref true (tree.exact r)

abbrev pub to_any : {R : Type 0} → ValueOf R
to_any = tree.ref true (tree.abstract false tree.any)

-- a field of such a reference
abbrev pub field : {R : Type 0} → ValueOf R → FieldOf R
field v = record { storage = tree.value v; mutable = true }

-- a struct of two fields, shared, with a descriptor and a type that it describes, below another
abbrev pub entry : {R : Type 0} → R → R → R → R → R → EntryOf R
entry a b c d e = record { is_final = true; supertype = Some a; shared = true; descriptor = Some d; describes = Some e; inner = tree.struct_of (field (to b) ∷ field (to_exactly c) ∷ []) }

-- the same as a subtype declares it
abbrev pub declared : {R : Type 0} → R → R → R → R → R → DeclaredOf R
declared a b c d e = record { supertypes = a ∷ []; entry = entry a b c d e }

-- which indices, in order
pub record IndexRows : Type 0 where
  pub of_a_number : value_indices {R = ℕ} (tree.number tree.i32) ≡ []
  pub of_an_abstract_type : value_indices {R = ℕ} to_any ≡ []
  pub of_a_reference : value_indices {R = ℕ} (to 3) ≡ 3 ∷ []
  pub of_an_exact_reference : value_indices {R = ℕ} (to_exactly 3) ≡ 3 ∷ []
  pub of_packed_integers : flat_map (storage_indices {R = ℕ}) (tree.i8 ∷ tree.i16 ∷ []) ≡ []
  pub of_what_is_stored : storage_indices {R = ℕ} (tree.value (to 3)) ≡ 3 ∷ []
  pub of_a_field : field_indices {R = ℕ} (field (to 3)) ≡ 3 ∷ []
  pub of_a_function : inner_indices {R = ℕ} (tree.function (to 4 ∷ to_any ∷ to 5 ∷ []) (to 6 ∷ to 7 ∷ [])) ≡ 4 ∷ 5 ∷ 6 ∷ 7 ∷ []
  pub of_an_array : inner_indices {R = ℕ} (tree.array_of (field (to 3))) ≡ 3 ∷ []
  pub of_a_struct : inner_indices {R = ℕ} (tree.struct_of (field (to 3) ∷ field (to_exactly 4) ∷ [])) ≡ 3 ∷ 4 ∷ []
  pub of_a_continuation : inner_indices {R = ℕ} (tree.continuation 3) ≡ 3 ∷ []
  pub of_an_entry : entry_indices {R = ℕ} (entry 1 2 3 4 5) ≡ 2 ∷ 3 ∷ 4 ∷ 5 ∷ []
  pub of_a_subtype : declared_indices {R = ℕ} (declared 1 2 3 4 5) ≡ 1 ∷ 2 ∷ 3 ∷ 4 ∷ 5 ∷ []
  pub of_two_supertypes : declared_indices {R = ℕ} (record (declared 1 2 3 4 5) { supertypes = 1 ∷ 6 ∷ [] }) ≡ 1 ∷ 6 ∷ 2 ∷ 3 ∷ 4 ∷ 5 ∷ []

-- what is left without them
pub record ShapeRows : Type 0 where
  pub of_a_number : value_shape {R = ℕ} (tree.number tree.i32) ≡ tree.number tree.i32
  pub of_an_abstract_type : value_shape {R = ℕ} to_any ≡ to_any
  pub of_a_reference : value_shape {R = ℕ} (to 3) ≡ to tt
  pub of_an_exact_reference : value_shape {R = ℕ} (to_exactly 3) ≡ to_exactly tt
  pub of_packed_integers : map (storage_shape {R = ℕ}) (tree.i8 ∷ tree.i16 ∷ []) ≡ tree.i8 ∷ tree.i16 ∷ []
  pub of_what_is_stored : storage_shape {R = ℕ} (tree.value (to 3)) ≡ tree.value (to tt)
  pub of_a_field : field_shape {R = ℕ} (field (to 3)) ≡ field (to tt)
  pub of_a_function : inner_shape {R = ℕ} (tree.function (to 4 ∷ to_any ∷ []) (to_exactly 6 ∷ [])) ≡ tree.function (to tt ∷ to_any ∷ []) (to_exactly tt ∷ [])
  pub of_an_array : inner_shape {R = ℕ} (tree.array_of (field (to 3))) ≡ tree.array_of (field (to tt))
  pub of_a_struct : inner_shape {R = ℕ} (tree.struct_of (field (to 3) ∷ field (to_exactly 4) ∷ [])) ≡ tree.struct_of (field (to tt) ∷ field (to_exactly tt) ∷ [])
  pub of_a_continuation : inner_shape {R = ℕ} (tree.continuation 3) ≡ tree.continuation tt
  pub of_an_entry : entry_shape {R = ℕ} (entry 1 2 3 4 5) ≡ entry tt tt tt tt tt
  pub of_a_subtype : declared_shape {R = ℕ} (declared 1 2 3 4 5) ≡ declared tt tt tt tt tt

-- indices of a module go up by one, indices of a group are refused with 7, and there is no other answer
abbrev pub goes_up : UnpackedIndex → Result UnpackedIndex ℕ → Type 0
goes_up (Module n) (Ok j) = j ≡ Module (n + 1)
goes_up (Module n) (Err e) = ⊥
goes_up (RecGroup n) (Ok j) = ⊥
goes_up (RecGroup n) (Err e) = e ≡ 7
goes_up (Id i) r = ⊥

-- what a call leaves of a value type
abbrev pub Leaves : Result (Unit {0}) ℕ → ValueOf UnpackedIndex → ValueOf UnpackedIndex → Type 0
Leaves result before after = Remapped value_shape value_indices goes_up result before after

-- and of a function without results
abbrev pub LeavesAll : Result (Unit {0}) ℕ → List (ValueOf UnpackedIndex) → List (ValueOf UnpackedIndex) → Type 0
LeavesAll result before after = Remapped inner_shape inner_indices goes_up result (tree.function before []) (tree.function after [])

pub record RemapRows : Type 0 where
  pub replaced : Leaves (Ok tt) (to (Module 3)) (to (Module 4))
  pub not_replaced : Leaves (Ok tt) (to (Module 3)) (to (Module 3)) → ⊥
  pub lost_null : Leaves (Ok tt) (to_exactly (Module 3)) (tree.ref false (tree.exact (Module 4))) → ⊥
  pub not_exactly : Leaves (Ok tt) (to_exactly (Module 3)) (tree.ref true (tree.concrete (Module 4))) → ⊥
  pub without_index : Leaves (Ok tt) to_any to_any
  pub for_another : Leaves (Ok tt) to_any (tree.ref true (tree.abstract false tree.eq)) → ⊥
  pub refused : Leaves (Err 7) (to (RecGroup 2)) (to (RecGroup 2))
  pub refused_otherwise : Leaves (Err 8) (to (RecGroup 2)) (to (RecGroup 2)) → ⊥
  pub refused_for_nothing : Leaves (Err 7) to_any to_any → ⊥
  pub not_refused : Leaves (Ok tt) (to (RecGroup 2)) (to (RecGroup 2)) → ⊥
  pub all : LeavesAll (Ok tt) (to (Module 3) ∷ to (Module 5) ∷ []) (to (Module 4) ∷ to (Module 6) ∷ [])
  pub one_of_two : LeavesAll (Ok tt) (to (Module 3) ∷ to (Module 5) ∷ []) (to (Module 4) ∷ to (Module 5) ∷ []) → ⊥
  pub up_to_the_refused : LeavesAll (Err 7) (to (Module 3) ∷ to (RecGroup 2) ∷ to (Module 5) ∷ []) (to (Module 4) ∷ to (RecGroup 2) ∷ to (Module 5) ∷ [])
  pub nothing_before_it : LeavesAll (Err 7) (to (Module 3) ∷ to (RecGroup 2) ∷ []) (to (Module 3) ∷ to (RecGroup 2) ∷ []) → ⊥
  pub one_behind_it : LeavesAll (Err 7) (to (RecGroup 2) ∷ to (Module 5) ∷ []) (to (RecGroup 2) ∷ to (Module 6) ∷ []) → ⊥
