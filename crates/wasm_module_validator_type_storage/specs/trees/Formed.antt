-- Which lists of groups are formed: references lead to what stands before and to the group itself, and a group in canonical
-- form stands once.
use Rattle.std.proofs.Common.{suc}
use Rattle.std.specs.Prelude.{◌≡◌, ℕ, ◌<◌, ◌≤◌, Bool, false, IsTrue, List, [], ◌∷◌, length, Some}
use Rattle.wasm_types.specs.trees.declared.index.UnpackedIndex.{UnpackedIndex}
use Rattle.wasm_types.specs.trees.declared.index.UnpackedIndex.TheVariants.{Module, RecGroup, Id}
use Rattle.wasm_types.specs.trees.Each.{EachOption, EachEntry}
use Rattle.wasm_types.specs.trees.Trees.{GroupTree}
use Rattle.wasm_types.specs.Entries.{Declared, first_of}
use Rattle.wasm_module_validator_type_storage.specs.trees.Groups.{Group, count, tree_of, group_at, group_tree_at}

-- an index of a group, in canonical form (true) or not: a place below `places`, an id below `known`, and of a module only
-- where the group is not in canonical form
abbrev pub IsIndexWithin : Bool → ℕ → ℕ → UnpackedIndex → Type 0
IsIndexWithin canonical known places (Module n) = canonical ≡ false
IsIndexWithin canonical known places (RecGroup p) = p < places
IsIndexWithin canonical known places (Id i) = i.0 < known

-- the subtype at the place `own` of a group of `places` types: one supertype at most, which stands before it (WebAssembly
-- 3.0, validation, types, sub types)
pub record IsTypeFormed (canonical : Bool) (known places own : ℕ) (d : Declared) : Type 0 where
  pub one : length d.supertypes ≤ 1
  pub first : d.entry.supertype ≡ first_of d.supertypes
  pub above : EachOption (IsIndexWithin canonical known own) d.entry.supertype
  pub within : EachEntry (IsIndexWithin canonical known places) d.entry

-- the same of each subtype, from the place `own` on
abbrev pub AreTypesFormed : Bool → ℕ → ℕ → ℕ → List Declared → Type 0
AreTypesFormed canonical known places own [] = Unit {0}
AreTypesFormed canonical known places own (d ∷ ds) = IsTypeFormed canonical known places own d
    × AreTypesFormed canonical known places (suc own) ds

-- a group, where the ids below `known` have types
abbrev pub IsGroupFormed : ℕ → Group → Type 0
IsGroupFormed known g = AreTypesFormed g.is_canonical known (length g.types) 0 g.types

-- no number has the group
abbrev pub IsMissing : List Group → Group → Type 0
IsMissing groups g = (k : ℕ) → group_at groups k ≡ Some g → ⊥

-- each group is formed behind those before it, and in canonical form it is none of them
abbrev pub IsFormed : List Group → Type 0
IsFormed [] = Unit {0}
IsFormed (g ∷ earlier) = IsGroupFormed (count earlier) g × (IsTrue g.is_canonical → IsMissing earlier g) × IsFormed earlier

-- all groups are in canonical form
abbrev pub AreCanonical : List Group → Type 0
AreCanonical [] = Unit {0}
AreCanonical (g ∷ earlier) = IsTrue g.is_canonical × AreCanonical earlier

-- no group has the tree
abbrev pub IsNewTree : List Group → GroupTree → Type 0
IsNewTree groups t = (k : ℕ) → group_tree_at groups k ≡ Some t → ⊥

-- each id keeps the type that it has
abbrev pub KeepsTypes : List Group → List Group → Type 0
KeepsTypes old new = (id : ℕ) → id < count old → tree_of new id ≡ tree_of old id
