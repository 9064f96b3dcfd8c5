-- Canonical forms of groups: an index of a type that stands before the group is the id that the type has, and one of the group
-- itself is its place there (WebAssembly 3.0, validation, types, rolling).
use Rattle.std.proofs.Common.{suc}
use Rattle.std.specs.Prelude.{ℕ, ◌-◌, ◌<◌, ◌≤◌, ◌^◌, nat_lt, if◌then◌else◌, Bool, IsTrue, List, [], ◌∷◌, length, map, get_or}
use Rattle.wasm_types.specs.trees.declared.index.CoreTypeId.{CoreTypeId}
use Rattle.wasm_types.specs.trees.declared.index.UnpackedIndex.{UnpackedIndex}
use Rattle.wasm_types.specs.trees.declared.index.UnpackedIndex.TheVariants.{Module, RecGroup, Id}
use Rattle.wasm_types.specs.trees.Each.{EachOption, EachEntry}
use Rattle.wasm_types.specs.Entries.{Declared}
use Rattle.wasm_types.specs.Remap.{declared_map}

-- what an index means behind types with these ids
abbrev pub canonical_index : List CoreTypeId → UnpackedIndex → UnpackedIndex
canonical_index ids (Module n) = if nat_lt n (length ids) then Id (get_or ids n (record { 0 = 0 })) else RecGroup (n - length ids)
canonical_index ids (RecGroup p) = RecGroup p
canonical_index ids (Id i) = Id i

-- what a type declares, in canonical form
abbrev pub canonical_type : List CoreTypeId → Declared → Declared
canonical_type ids = declared_map (canonical_index ids)

abbrev pub canonical_types : List CoreTypeId → List Declared → List Declared
canonical_types ids ds = map (canonical_type ids) ds

-- each id fits the 20 bits of an index
abbrev pub IdFits : CoreTypeId → Type 0
IdFits i = i.0 < 2 ^ 20

-- ---- which indices a group may have

-- an index of a module is below `end`, and from `start` on only where types may refer to their own group; others are in
-- canonical form already
abbrev pub IsIndexAllowed : Bool → ℕ → ℕ → UnpackedIndex → Type 0
IsIndexAllowed gc start end (Module n) = (n < end) × (start ≤ n → IsTrue gc)
IsIndexAllowed gc start end (RecGroup p) = Unit {0}
IsIndexAllowed gc start end (Id i) = Unit {0}

-- an index of a module is below that of the own type
abbrev pub IsIndexBefore : ℕ → UnpackedIndex → Type 0
IsIndexBefore own (Module n) = n < own
IsIndexBefore own (RecGroup p) = Unit {0}
IsIndexBefore own (Id i) = Unit {0}

-- the same of each index of a list
abbrev pub EachIn : (UnpackedIndex → Type 0) → List UnpackedIndex → Type 0
EachIn P [] = Unit {0}
EachIn P (i ∷ is) = P i × EachIn P is

-- the type with the index `own`: its supertypes and what it describes stand before it, and each index is allowed
pub record IsTypeAllowed (gc : Bool) (start end own : ℕ) (d : Declared) : Type 0 where
  pub supertypes : EachIn (IsIndexBefore own) d.supertypes
  pub describes : EachOption (IsIndexBefore own) d.entry.describes
  pub listed : EachIn (IsIndexAllowed gc start end) d.supertypes
  pub parts : EachEntry (IsIndexAllowed gc start end) d.entry

abbrev pub AreTypesAllowed : Bool → ℕ → ℕ → ℕ → List Declared → Type 0
AreTypesAllowed gc start end own [] = Unit {0}
AreTypesAllowed gc start end own (d ∷ ds) = IsTypeAllowed gc start end own d × AreTypesAllowed gc start end (suc own) ds
