-- Matching of composite types over ids: one link between a type and a supertype that it declares (WebAssembly 3.0, validation,
-- matching, composite types). On groups in canonical form it is what `Matches` says of the types that the ids stand for.
use Rattle.std.specs.Prelude.{◌≡◌, IsTrue, List, [], ◌∷◌}
use Rattle.std.specs.List.{AllZip}
use Rattle.wasm_types.specs.trees.declared.index.CoreTypeId.{CoreTypeId}
use Rattle.wasm_types.specs.trees.declared.index.UnpackedIndex.{UnpackedIndex}
use Rattle.wasm_types.specs.trees.Types.{ValueOf, StorageOf, i8, i16, value, FieldOf, InnerOf, function, array_of, struct_of, continuation, EntryOf}
use Rattle.wasm_types.specs.trees.Each.{EachEntry}
use Rattle.wasm_module_validator_type_storage.specs.trees.Groups.{Group, count}
use Rattle.wasm_module_validator_type_storage.specs.trees.ByIds.{IdBelow}
use Rattle.wasm_module_validator_type_storage.specs.trees.BelowIds.{IsIdBelow, id_named, entry_by_id, ValueBelowById}

module _ (groups : List Group) where
  -- the same packed type, or a value type below another
  abbrev pub StorageMatchesById : StorageOf UnpackedIndex → StorageOf UnpackedIndex → Type 0
  StorageMatchesById i8 i8 = Unit {0}
  StorageMatchesById i16 i16 = Unit {0}
  StorageMatchesById (value v) (value w) = ValueBelowById groups v w
  StorageMatchesById i8 _ = ⊥
  StorageMatchesById i16 _ = ⊥
  StorageMatchesById (value v) _ = ⊥

  -- equal mutability, and as the storage type; a mutable field both ways
  abbrev pub FieldMatchesById : FieldOf UnpackedIndex → FieldOf UnpackedIndex → Type 0
  FieldMatchesById x y =
      (x.mutable ≡ y.mutable) × StorageMatchesById x.storage y.storage × (IsTrue x.mutable → StorageMatchesById y.storage x.storage)

  -- at least the other's fields, place by place
  abbrev pub FieldsMatchById : List (FieldOf UnpackedIndex) → List (FieldOf UnpackedIndex) → Type 0
  FieldsMatchById xs [] = Unit {0}
  FieldsMatchById [] (y ∷ ys) = ⊥
  FieldsMatchById (x ∷ xs) (y ∷ ys) = FieldMatchesById x y × FieldsMatchById xs ys

  -- as many value types, place by place below the other's
  abbrev pub ResultsMatchById : List (ValueOf UnpackedIndex) → List (ValueOf UnpackedIndex) → Type 0
  ResultsMatchById = AllZip (ValueBelowById groups)

  -- the same constructor; a function takes what the other takes, and gives what the other gives
  abbrev pub InnerMatchesById : InnerOf UnpackedIndex → InnerOf UnpackedIndex → Type 0
  InnerMatchesById (function ps rs) (function qs ss) = ResultsMatchById qs ps × ResultsMatchById rs ss
  InnerMatchesById (array_of x) (array_of y) = FieldMatchesById x y
  InnerMatchesById (struct_of xs) (struct_of ys) = FieldsMatchById xs ys
  InnerMatchesById (continuation f) (continuation g) = IdBelow groups (id_named f) (id_named g)
  InnerMatchesById (function ps rs) _ = ⊥
  InnerMatchesById (array_of x) _ = ⊥
  InnerMatchesById (struct_of xs) _ = ⊥
  InnerMatchesById (continuation f) _ = ⊥

  -- finality and supertypes don't count here
  abbrev pub EntryMatchesById : EntryOf UnpackedIndex → EntryOf UnpackedIndex → Type 0
  EntryMatchesById x y = (x.shared ≡ y.shared) × InnerMatchesById x.inner y.inner

  -- the types of two ids
  abbrev pub MatchesById : CoreTypeId → CoreTypeId → Type 0
  MatchesById a b = EntryMatchesById (entry_by_id groups a) (entry_by_id groups b)

  -- each index of a type is an id of the list
  abbrev pub HasKnownIds : EntryOf UnpackedIndex → Type 0
  HasKnownIds x = EachEntry (IsIdBelow (count groups)) x
