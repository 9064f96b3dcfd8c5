-- Valid composite types over ids (WebAssembly 3.0, validation, types, composite types). On groups in canonical form it is what
-- `IsValidComposite` says of the types that the ids stand for.
use Rattle.std.specs.Prelude.{ℕ, ◌<◌, Bool, IsTrue, List, [], ◌∷◌, length}
use Rattle.wasm_types.specs.settings.Features.{SharedEverythingThreads, MultiValue, Gc, GcTypes, StackSwitching, needs_canonical_types}
use Rattle.wasm_types.specs.trees.declared.index.UnpackedIndex.{UnpackedIndex}
use Rattle.wasm_types.specs.trees.Types.{ValueOf, StorageOf, i8, i16, value, FieldOf, InnerOf, function, array_of, struct_of, continuation, EntryOf}
use Rattle.wasm_types.specs.trees.Each.{EachInner}
use Rattle.wasm_types.specs.trees.Gates.{Has, ValueIsAllowed}
use Rattle.wasm_module_validator_type_storage.specs.trees.Groups.{Group, count}
use Rattle.wasm_module_validator_type_storage.specs.trees.BelowIds.{IsIdBelow, id_named, entry_by_id, value_is_shared_by_id}

-- a function type
abbrev pub IsFunction : {R : Type 0} → InnerOf R → Type 0
IsFunction (function ps rs) = Unit {0}
IsFunction (array_of x) = ⊥
IsFunction (struct_of xs) = ⊥
IsFunction (continuation f) = ⊥

-- where these features ask for canonical forms, the fact holds
abbrev pub WhereCanonical : ℕ → Type 0 → Type 0
WhereCanonical bits P = IsTrue (needs_canonical_types bits) → P

module _ (groups : List Group) (bits : ℕ) where
  -- a value type as a part of a composite type, which is shared or not
  abbrev pub IsPartValid : Bool → ValueOf UnpackedIndex → Type 0
  IsPartValid s v = ValueIsAllowed bits v × (IsTrue s → IsTrue (value_is_shared_by_id groups v))

  abbrev pub ArePartsValid : Bool → List (ValueOf UnpackedIndex) → Type 0
  ArePartsValid s [] = Unit {0}
  ArePartsValid s (v ∷ vs) = IsPartValid s v × ArePartsValid s vs

  -- a packed type is always valid, a value type as a part
  abbrev pub IsStorageValid : Bool → StorageOf UnpackedIndex → Type 0
  IsStorageValid s i8 = Unit {0}
  IsStorageValid s i16 = Unit {0}
  IsStorageValid s (value v) = IsPartValid s v

  abbrev pub AreFieldsValid : Bool → List (FieldOf UnpackedIndex) → Type 0
  AreFieldsValid s [] = Unit {0}
  AreFieldsValid s (x ∷ xs) = IsStorageValid s x.storage × AreFieldsValid s xs

  -- a composite type by its constructor, with the features that it needs
  abbrev pub IsInnerValid : Bool → InnerOf UnpackedIndex → Type 0
  IsInnerValid s (function ps rs) = ArePartsValid s ps × ArePartsValid s rs × (1 < length rs → Has bits MultiValue)
  IsInnerValid s (array_of x) = Has bits Gc × Has bits GcTypes × IsStorageValid s x.storage
  IsInnerValid s (struct_of xs) = Has bits Gc × Has bits GcTypes × AreFieldsValid s xs
  IsInnerValid s (continuation f) = Has bits StackSwitching × Has bits GcTypes × IsFunction (entry_by_id groups (id_named f)).inner

  -- a composite type, shared or not
  abbrev pub IsCompositeValid : EntryOf UnpackedIndex → Type 0
  IsCompositeValid x = (IsTrue x.shared → Has bits SharedEverythingThreads) × IsInnerValid x.shared x.inner

  -- where types are in canonical form, each index of the type is an id of the list
  abbrev pub HasIds : InnerOf UnpackedIndex → Type 0
  HasIds x = WhereCanonical bits (EachInner (IsIdBelow (count groups)) x)
