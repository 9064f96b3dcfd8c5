-- Subtyping of value types over ids (WebAssembly 3.0, validation, matching). On groups in canonical form it is what `Below`
-- says of the types that the ids stand for; on others an id is below what it declares alone, and equal trees do not count.
use Rattle.std.specs.Prelude.{◌≡◌, ℕ, ◌<◌, Bool, true, List, [], get_or}
use Rattle.wasm_types.specs.trees.declared.index.CoreTypeId.{CoreTypeId}
use Rattle.wasm_types.specs.trees.declared.index.UnpackedIndex.{UnpackedIndex}
use Rattle.wasm_types.specs.trees.declared.index.UnpackedIndex.TheVariants.{Module, RecGroup, Id}
use Rattle.wasm_types.specs.trees.Indices.{number_of}
use Rattle.wasm_types.specs.trees.Types.{Abstract, HeapOf, abstract, concrete, exact, ValueOf, number, ref, EntryOf}
use Rattle.wasm_types.specs.trees.Trees.{past_the_end}
use Rattle.wasm_types.specs.trees.AbstractOrder.{AbstractBelow, top_of}
use Rattle.wasm_types.specs.trees.Below.{abstract_above, bottom_of, NullBelow}
use Rattle.wasm_types.specs.Entries.{Declared}
use Rattle.wasm_module_validator_type_storage.specs.trees.Groups.{Group, declared_by_id}
use Rattle.wasm_module_validator_type_storage.specs.trees.ByIds.{IdBelow}

-- an index that is an id below n
abbrev pub IsIdBelow : ℕ → UnpackedIndex → Type 0
IsIdBelow n (Module m) = ⊥
IsIdBelow n (RecGroup p) = ⊥
IsIdBelow n (Id i) = i.0 < n

-- the id that an index names
abbrev pub id_named : UnpackedIndex → CoreTypeId
id_named i = record { 0 = number_of i }

-- what stands past the last id: a final function type from nothing to nothing
abbrev pub undeclared : Declared
undeclared = record { supertypes = []; entry = past_the_end }

module _ (groups : List Group) where
  -- the subtype of an id, over ids
  abbrev pub entry_by_id : CoreTypeId → EntryOf UnpackedIndex
  entry_by_id i = (get_or (declared_by_id groups) i.0 undeclared).entry

  -- the sharedness of a heap type and of a value type
  abbrev pub heap_is_shared_by_id : HeapOf UnpackedIndex → Bool
  heap_is_shared_by_id (abstract s a) = s
  heap_is_shared_by_id (concrete i) = (entry_by_id (id_named i)).shared
  heap_is_shared_by_id (exact i) = (entry_by_id (id_named i)).shared

  abbrev pub value_is_shared_by_id : ValueOf UnpackedIndex → Bool
  value_is_shared_by_id (number n) = true
  value_is_shared_by_id (ref n h) = heap_is_shared_by_id h

  -- the top of the hierarchy of a heap type, of the same sharedness
  abbrev pub top_by_id : HeapOf UnpackedIndex → Abstract
  top_by_id (abstract s a) = top_of a
  top_by_id (concrete i) = top_of (abstract_above (entry_by_id (id_named i)).inner)
  top_by_id (exact i) = top_of (abstract_above (entry_by_id (id_named i)).inner)

  abbrev pub top_heap_by_id : HeapOf UnpackedIndex → HeapOf UnpackedIndex
  top_heap_by_id h = abstract (heap_is_shared_by_id h) (top_by_id h)

  -- the type of an id is of this sharedness, and of a constructor below the abstract type
  abbrev pub IsUnder : Bool → Abstract → CoreTypeId → Type 0
  IsUnder s a i = ((entry_by_id i).shared ≡ s) × AbstractBelow (abstract_above (entry_by_id i).inner) a

  -- the abstract type is the bottom type of this id's type, of the same sharedness
  abbrev pub IsOver : Bool → Abstract → CoreTypeId → Type 0
  IsOver s a i = (s ≡ (entry_by_id i).shared) × (a ≡ bottom_of (entry_by_id i).inner)

  -- an id, or one above it by declaration, is below an abstract type
  abbrev pub IdBelowAbstract : CoreTypeId → Bool → Abstract → Type 0
  IdBelowAbstract i s a = (j : CoreTypeId) × IdBelow groups i j × IsUnder s a j

  -- an abstract type is the bottom type of an id and of all above it by declaration
  abbrev pub AbstractBelowId : CoreTypeId → Bool → Abstract → Type 0
  AbstractBelowId i s a = (j : CoreTypeId) → IdBelow groups i j → IsOver s a j

  -- one heap type is below another
  abbrev pub HeapBelowById : HeapOf UnpackedIndex → HeapOf UnpackedIndex → Type 0
  HeapBelowById (abstract s a) (abstract r b) = (s ≡ r) × AbstractBelow a b
  HeapBelowById (abstract s a) (concrete j) = AbstractBelowId (id_named j) s a
  HeapBelowById (abstract s a) (exact j) = AbstractBelowId (id_named j) s a
  HeapBelowById (concrete i) (abstract r b) = IdBelowAbstract (id_named i) r b
  HeapBelowById (concrete i) (concrete j) = IdBelow groups (id_named i) (id_named j)
  HeapBelowById (concrete i) (exact j) = ⊥
  HeapBelowById (exact i) (abstract r b) = IdBelowAbstract (id_named i) r b
  HeapBelowById (exact i) (concrete j) = IdBelow groups (id_named i) (id_named j)
  HeapBelowById (exact i) (exact j) = id_named i ≡ id_named j

  -- one value type is below another
  abbrev pub ValueBelowById : ValueOf UnpackedIndex → ValueOf UnpackedIndex → Type 0
  ValueBelowById (number n) (number m) = n ≡ m
  ValueBelowById (number n) (ref m k) = ⊥
  ValueBelowById (ref n h) (number m) = ⊥
  ValueBelowById (ref n h) (ref m k) = NullBelow n m × HeapBelowById h k
