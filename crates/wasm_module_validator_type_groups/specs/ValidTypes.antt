-- Valid types over ids (WebAssembly 3.0, validation, types, sub types; descriptors by the proposal on custom descriptors). On
-- groups in canonical form it is what `IsValidType` says of the types that the ids stand for.
use Rattle.std.proofs.Common.{zero, suc}
use Rattle.std.specs.Prelude.{◌≡◌, ◌⊎◌, ℕ, ◌<◌, true, false, List, Option, Some, None}
use Rattle.wasm_types.specs.settings.Features.{Gc, CustomDescriptors}
use Rattle.wasm_types.specs.trees.declared.index.CoreTypeId.{CoreTypeId}
use Rattle.wasm_types.specs.trees.declared.index.UnpackedIndex.{UnpackedIndex}
use Rattle.wasm_types.specs.trees.declared.index.UnpackedIndex.TheVariants.{Id}
use Rattle.wasm_types.specs.trees.Types.{InnerOf, function, array_of, struct_of, continuation, EntryOf}
use Rattle.wasm_types.specs.trees.Gates.{Has}
use Rattle.wasm_module_validator_type_storage.specs.trees.Groups.{Group, count}
use Rattle.wasm_module_validator_type_storage.specs.trees.ByIds.{supertype_of}
use Rattle.wasm_module_validator_type_storage.specs.trees.BelowIds.{id_named, entry_by_id}
use Rattle.wasm_module_validator_canonical_types.specs.matches.MatchesById.{EntryMatchesById, HasKnownIds}
use Rattle.wasm_module_validator_type_groups.specs.composites.Composites.{IsCompositeValid}

-- a type that is open or has a supertype needs the features of garbage collection
abbrev pub IsSubtypingAllowed : ℕ → EntryOf UnpackedIndex → Type 0
IsSubtypingAllowed bits x = ((x.is_final ≡ true) × (x.supertype ≡ None)) ⊎ Has bits Gc

-- there is one
abbrev pub IsPresent : {A : Type 0} → Option A → Type 0
IsPresent None = ⊥
IsPresent (Some a) = Unit {0}

-- a struct type
abbrev pub IsStruct : {R : Type 0} → InnerOf R → Type 0
IsStruct (function ps rs) = ⊥
IsStruct (array_of x) = ⊥
IsStruct (struct_of xs) = Unit {0}
IsStruct (continuation f) = ⊥

-- it has a descriptor, or describes a type
abbrev pub IsJoined : EntryOf UnpackedIndex → Type 0
IsJoined x = IsPresent x.descriptor ⊎ IsPresent x.describes

-- only a struct does, and by a feature of its own
abbrev pub AreDescriptorsAllowed : ℕ → EntryOf UnpackedIndex → Type 0
AreDescriptorsAllowed bits x = IsJoined x → Has bits CustomDescriptors × IsStruct x.inner

module _ (groups : List Group) where
  -- each index of each type is an id of the list
  abbrev pub HaveKnownIds : Type 0
  HaveKnownIds = (i : CoreTypeId) → i.0 < count groups → HasKnownIds groups (entry_by_id groups i)

  -- a declared supertype is open, and the type matches it
  abbrev pub IsAboveValid : EntryOf UnpackedIndex → Option CoreTypeId → Type 0
  IsAboveValid x None = Unit {0}
  IsAboveValid x (Some u) = ((entry_by_id groups u).is_final ≡ false) × EntryMatchesById groups x (entry_by_id groups u)

  -- at most n types are declared one above the other, from this one on
  abbrev pub IsDepthWithin : ℕ → Option CoreTypeId → Type 0
  IsDepthWithin n None = Unit {0}
  IsDepthWithin zero (Some u) = ⊥
  IsDepthWithin (suc n) (Some u) = IsDepthWithin n (supertype_of groups u)

  -- the types that are joined to a type and to its supertype: there is none, or the first is declared right below the second
  abbrev pub GoAlong : Option UnpackedIndex → Option UnpackedIndex → Type 0
  GoAlong None None = Unit {0}
  GoAlong (Some d) (Some e) = supertype_of groups (id_named d) ≡ Some (id_named e)
  GoAlong None (Some e) = ⊥
  GoAlong (Some d) None = ⊥

  -- so it is of descriptors, and of what is described
  abbrev pub DescriptorsGoAlong : EntryOf UnpackedIndex → Option CoreTypeId → Type 0
  DescriptorsGoAlong x None = Unit {0}
  DescriptorsGoAlong x (Some u) = GoAlong x.descriptor (entry_by_id groups u).descriptor
      × GoAlong x.describes (entry_by_id groups u).describes

  -- the descriptor of a type describes it, and is final where it is
  abbrev pub IsDescribedBy : CoreTypeId → Option UnpackedIndex → Type 0
  IsDescribedBy id None = Unit {0}
  IsDescribedBy id (Some d) =
      ((entry_by_id groups (id_named d)).describes ≡ Some (Id id)) × ((entry_by_id groups id).is_final ≡ (entry_by_id groups (id_named d)).is_final)

  -- what a type describes has it as its descriptor
  abbrev pub Describes : CoreTypeId → Option UnpackedIndex → Type 0
  Describes id None = Unit {0}
  Describes id (Some e) = (entry_by_id groups (id_named e)).descriptor ≡ Some (Id id)

  -- the type of an id is valid under these features, with at most so many supertypes one above the other
  pub record IsTypeValid (bits most : ℕ) (id : CoreTypeId) : Type 0 where
    pub subtyping : IsSubtypingAllowed bits (entry_by_id groups id)
    pub composite : IsCompositeValid groups bits (entry_by_id groups id)
    pub above : IsAboveValid (entry_by_id groups id) (supertype_of groups id)
    pub depth : IsDepthWithin most (supertype_of groups id)
    pub descriptors : AreDescriptorsAllowed bits (entry_by_id groups id)
    pub along : DescriptorsGoAlong (entry_by_id groups id) (supertype_of groups id)
    pub described : IsDescribedBy id (entry_by_id groups id).descriptor
    pub describes : Describes id (entry_by_id groups id).describes

  -- the types of n ids are, from the first on
  abbrev pub AreTypesValid : ℕ → ℕ → ℕ → ℕ → Type 0
  AreTypesValid bits most first zero = Unit {0}
  AreTypesValid bits most first (suc n) = IsTypeValid bits most (record { 0 = first }) × AreTypesValid bits most (suc first) n
