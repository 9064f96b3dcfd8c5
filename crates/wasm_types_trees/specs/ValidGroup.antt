-- Which groups of types are valid (WebAssembly 3.0, validation, types, recursive types), under a set of features by its
-- bits. A group is judged as it is written, over the indices of its module, and then as what it unfolds to.
use Rattle.std.specs.Prelude.{◌≡◌, ℕ, zero, suc, ◌+◌, ◌-◌, ◌<◌, ◌≤◌, nat_lt, if◌then◌else◌, Bool, true, false, IsTrue, List, [], ◌∷◌, ◌++◌, length}
use Rattle.std.specs.Prelude.{map, get_or, All, Option, Some, None, ◌⊎◌}
use Rattle.wasm_types_settings.specs.Settings.{Settings}
use Rattle.wasm_types_settings.specs.Features.{MultiValue, SharedEverythingThreads, Gc, GcTypes, StackSwitching, CustomDescriptors}
use Rattle.wasm_types_trees.specs.Types.{ValueOf, StorageOf, i8, i16, value, FieldOf, InnerOf, function, array_of, struct_of, continuation, SubtypeOf}
use Rattle.wasm_types_trees.specs.Types.{EntryOf, entry_of_subtype, entry_map}
use Rattle.wasm_types_trees.specs.Each.{EachOption, EachEntry}
use Rattle.wasm_types_trees.specs.Trees.{GroupTree, TypeTree, group_tree, opened}
use Rattle.wasm_types_trees.specs.Unfold.{GroupReference, Local, Earlier, unfolded}
use Rattle.wasm_types_trees.specs.Below.{expanded, supertype, value_is_shared}
use Rattle.wasm_types_trees.specs.Matches.{Matches}
use Rattle.wasm_types_trees.specs.Gates.{Has, ValueIsAllowed}

-- ---- a group as it is written

-- standard: syntax-rectype: rectype, as it is written (differs: a type alone is told from a group of one)
-- whether it is written as a group, and its subtypes over the indices of the module
pub record Written : Type 0 where
  pub is_explicit : Bool
  pub types : List (SubtypeOf ℕ)

-- standard: part of IsWithinSupertypes
-- the most supertypes that a subtype may declare (validation, types, recursive types)
abbrev pub max_supertypes : ℕ
max_supertypes = 1

-- standard: valid-subtype: at most one supertype
-- a subtype declares no more of them
abbrev pub IsWithinSupertypes : SubtypeOf ℕ → Type 0
IsWithinSupertypes x = length x.supertypes ≤ max_supertypes

-- its subtypes with one supertype at most: all of them, where the group is valid
abbrev pub written_entries : Written → List (EntryOf ℕ)
written_entries g = map entry_of_subtype g.types

-- standard: aux-roll-rectype: roll, what an index of the group means
-- what an index means in a group whose first type has the index `start`
abbrev pub reference_at : ℕ → ℕ → GroupReference
reference_at start i = if nat_lt i start then Earlier i else Local (i - start)

-- the type of an index, and past the end a type of no group
abbrev pub type_at : List TypeTree → ℕ → TypeTree
type_at space i = get_or space i (record { group = group_tree []; place = i })

-- standard: aux-roll-rectype: roll, over the types before the group
-- the tree of a group that is written behind the types of `space`
abbrev pub written_tree : List TypeTree → Written → GroupTree
written_tree space g = unfolded (type_at space) (map (entry_map (reference_at (length space))) (written_entries g))

-- what an index means where the types are known by ids, those of the index space so far in order: the canonical form
abbrev pub canonical_at : List ℕ → ℕ → GroupReference
canonical_at ids i = if nat_lt i (length ids) then Earlier (get_or ids i 0) else Local (i - length ids)

-- n types of a group, from a place on
unfoldable pub types_from : GroupTree → ℕ → ℕ → List TypeTree
types_from g place zero = []
types_from g place (suc n) = record { group = g; place = place } ∷ types_from g (suc place) n

-- standard: aux-roll-deftype: roll, the defined types of a recursive type
-- the types that a written group adds to the index space
abbrev pub types_of : List TypeTree → Written → List TypeTree
types_of space g = types_from (written_tree space g) 0 (length g.types)

-- standard: valid-subtype: the supertype has a lower index
-- standard: valid-heaptype: typeuse: the type index is known (differs: without gc, to types before the group alone)
-- Of the subtype with the index `own`: its supertype and what it describes have lower indices; each index is below `end`,
-- and where the group's indices begin at `start` it reaches its own group by the features of garbage collection alone.
pub record IsWellReferenced (bits start end own : ℕ) (x : EntryOf ℕ) : Type 0 where
  pub supertype : EachOption (λ i. i < own) x.supertype
  pub describes : EachOption (λ i. i < own) x.describes
  pub known : EachEntry (λ i. i < end) x
  pub outside : EachEntry (λ i. start ≤ i → Has bits Gc) x

-- standard: valid-rectype: cons: the indices of each subtype
-- the same of each subtype, in order
abbrev pub AreWellReferenced : ℕ → ℕ → ℕ → ℕ → List (EntryOf ℕ) → Type 0
AreWellReferenced bits start end own [] = Unit {0}
AreWellReferenced bits start end own (x ∷ xs) = IsWellReferenced bits start end own x × AreWellReferenced bits start end (suc own) xs

-- ---- a composite type (validation, types, composite types)

-- standard: valid-valtype: as a part of a composite type (differs: in a shared type it has to be shared)
-- a value type as a part of a composite type, which is shared or not
abbrev pub IsValidPart : ℕ → Bool → ValueOf TypeTree → Type 0
IsValidPart bits s v = ValueIsAllowed bits v × (IsTrue s → IsTrue (value_is_shared v))

-- standard: valid-resulttype: resulttype
-- the same of each value type of a list
abbrev pub AreValidParts : ℕ → Bool → List (ValueOf TypeTree) → Type 0
AreValidParts bits s [] = Unit {0}
AreValidParts bits s (v ∷ vs) = IsValidPart bits s v × AreValidParts bits s vs

-- standard: valid-storagetype: val, pack
-- standard: valid-packtype: packtype
-- a packed type is always valid, a value type as a part
abbrev pub IsValidStorage : ℕ → Bool → StorageOf TypeTree → Type 0
IsValidStorage bits s i8 = Unit {0}
IsValidStorage bits s i16 = Unit {0}
IsValidStorage bits s (value v) = IsValidPart bits s v

-- standard: valid-fieldtype: fieldtype, each
-- the same of each field
abbrev pub AreValidFields : ℕ → Bool → List (FieldOf TypeTree) → Type 0
AreValidFields bits s [] = Unit {0}
AreValidFields bits s (x ∷ xs) = IsValidStorage bits s x.storage × AreValidFields bits s xs

-- standard: proposal-stack-switching: a continuation is of a function type
-- a continuation is made of a function type alone (the proposal on stack switching)
abbrev pub IsFunction : InnerOf TypeTree → Type 0
IsFunction (function ps rs) = Unit {0}
IsFunction _ = ⊥

-- standard: proposal-custom-descriptors: a type with a descriptor is a struct
-- what a type with a descriptor has to be
abbrev pub IsStruct : InnerOf TypeTree → Type 0
IsStruct (struct_of xs) = Unit {0}
IsStruct _ = ⊥

-- standard: valid-comptype: struct, array, func (differs: by the features of releases; continuations too)
-- a composite type by its constructor, with the features that it needs; several results need one of their own
abbrev pub IsValidInner : ℕ → Bool → InnerOf TypeTree → Type 0
IsValidInner bits s (function ps rs) =
    AreValidParts bits s ps × AreValidParts bits s rs × (1 < length rs → Has bits MultiValue)
IsValidInner bits s (array_of x) = Has bits Gc × Has bits GcTypes × IsValidStorage bits s x.storage
IsValidInner bits s (struct_of xs) = Has bits Gc × Has bits GcTypes × AreValidFields bits s xs
IsValidInner bits s (continuation f) = Has bits StackSwitching × Has bits GcTypes × IsFunction (expanded f)

-- standard: valid-comptype: comptype (differs: shared types too)
-- a composite type, shared or not
abbrev pub IsValidComposite : ℕ → EntryOf TypeTree → Type 0
IsValidComposite bits x = (IsTrue x.shared → Has bits SharedEverythingThreads) × IsValidInner bits x.shared x.inner

-- ---- a subtype (validation, types, sub types)

-- standard: part of IsJoined
-- there is one
abbrev pub IsSome : Option TypeTree → Type 0
IsSome None = ⊥
IsSome (Some t) = Unit {0}

-- standard: impl: depth of subtyping
-- at most n types are declared one above the other, from this one on
abbrev pub IsWithinDepth : ℕ → Option TypeTree → Type 0
IsWithinDepth n None = Unit {0}
IsWithinDepth zero (Some t) = ⊥
IsWithinDepth (suc n) (Some t) = IsWithinDepth n (supertype t)

-- standard: valid-subtype: the supertype is open, and the subtype's composite type matches its
-- what is asked of a declared supertype: it is open, and the subtype matches it
abbrev pub IsValidSupertype : EntryOf TypeTree → Option TypeTree → Type 0
IsValidSupertype x None = Unit {0}
IsValidSupertype x (Some u) = ((opened u).is_final ≡ false) × Matches x (opened u)

-- standard: changes: subtyping needs gc
-- a subtype that is open or has a supertype needs the features of garbage collection
abbrev pub NeedsNoSubtyping : EntryOf TypeTree → Type 0
NeedsNoSubtyping x = (x.is_final ≡ true) × (x.supertype ≡ None)

-- ---- descriptors (the proposal on custom descriptors)

-- standard: part of DescriptorsGoAlong
-- The types that are joined to a subtype by one clause and to its supertype by the same: there is none, or the first is
-- declared right below the second.
abbrev pub GoAlong : Option TypeTree → Option TypeTree → Type 0
GoAlong None None = Unit {0}
GoAlong (Some d) (Some e) = supertype d ≡ Some e
GoAlong None (Some e) = ⊥
GoAlong (Some d) None = ⊥

-- standard: proposal-custom-descriptors: descriptors of a subtype and of its supertype
-- the descriptor of a subtype goes along with that of its supertype, and so does what the two describe
abbrev pub DescriptorsGoAlong : EntryOf TypeTree → Option TypeTree → Type 0
DescriptorsGoAlong x None = Unit {0}
DescriptorsGoAlong x (Some u) = GoAlong x.descriptor (opened u).descriptor × GoAlong x.describes (opened u).describes

-- standard: proposal-custom-descriptors: the descriptor describes the type
-- the descriptor of t describes t, and is final where t is
abbrev pub IsDescribedBy : TypeTree → Option TypeTree → Type 0
IsDescribedBy t None = Unit {0}
IsDescribedBy t (Some d) = ((opened d).describes ≡ Some t) × ((opened t).is_final ≡ (opened d).is_final)

-- standard: proposal-custom-descriptors: what a type describes has it as its descriptor
-- what t describes has t as its descriptor
abbrev pub Describes : TypeTree → Option TypeTree → Type 0
Describes t None = Unit {0}
Describes t (Some e) = (opened e).descriptor ≡ Some t

-- standard: proposal-custom-descriptors: a type has a descriptor or describes a type
-- only a struct has a descriptor or describes a type
abbrev pub IsJoined : EntryOf TypeTree → Type 0
IsJoined x = IsSome x.descriptor ⊎ IsSome x.describes

-- ---- a group

-- standard: valid-subtype: subtype (differs: a depth of subtyping within the limit)
-- standard: valid-deftype: deftype
-- a type is valid, by its tree alone, where these features are allowed and these limits hold
pub record IsValidType (z : Settings) (t : TypeTree) : Type 0 where
  pub subtyping : NeedsNoSubtyping (opened t) ⊎ Has z.features Gc
  pub composite : IsValidComposite z.features (opened t)
  pub above : IsValidSupertype (opened t) (supertype t)
  pub depth : IsWithinDepth z.limits.subtyping_depth (supertype t)
  pub descriptors : IsJoined (opened t) → Has z.features CustomDescriptors × IsStruct (expanded t)
  pub along : DescriptorsGoAlong (opened t) (supertype t)
  pub described : IsDescribedBy t (opened t).descriptor
  pub describes : Describes t (opened t).describes

-- standard: valid-rectype: cons: each subtype
-- the same of each type of a list
abbrev pub AreValidTypes : Settings → List TypeTree → Type 0
AreValidTypes z [] = Unit {0}
AreValidTypes z (t ∷ ts) = IsValidType z t × AreValidTypes z ts

-- standard: valid-rectype: empty, cons (differs: a group that is written as a group needs gc)
-- a group that is written behind the types of `space` is valid
pub record IsValidGroup (z : Settings) (space : List TypeTree) (g : Written) : Type 0 where
  pub explicit : IsTrue g.is_explicit → Has z.features Gc
  pub supertypes : All IsWithinSupertypes g.types
  pub references : AreWellReferenced z.features (length space) (length space + length g.types) (length space) (written_entries g)
  pub types : AreValidTypes z (types_of space g)

-- standard: valid-type: types of a module, one after the other
-- groups are valid one after the other, each behind the types of those before it, and leave these types
pub data AreValidGroups : Settings → List TypeTree → List Written → List TypeTree → Type 0 where
  done : {z : Settings} {space : List TypeTree} → AreValidGroups z space [] space
  next : {z : Settings} {space after : List TypeTree} {g : Written} {gs : List Written}
      → IsValidGroup z space g → AreValidGroups z (space ++ types_of space g) gs after → AreValidGroups z space (g ∷ gs) after
