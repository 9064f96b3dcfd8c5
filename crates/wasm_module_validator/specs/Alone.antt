-- When modules that are validated one after the other are accepted or refused as each is alone: while one list has room for the types of all of
-- them and then for each group that comes, whole, even if the list has it. If types are kept in canonical form, types that are the same count
-- once (WebAssembly 3.0, appendix, implementation limitations).
use Rattle.std.specs.Prelude.{◌≡◌, ◌+◌, ◌<◌, ◌≤◌, ◌^◌, ◌++◌, ℕ, true, false, List, [], ◌∷◌, length, Contains}
use Rattle.wasm_types.specs.settings.Settings.{Settings}
use Rattle.wasm_types.specs.settings.Features.{needs_canonical_types}
use Rattle.wasm_types.specs.trees.Trees.{TypeTree}
use Rattle.wasm_sections_parser.specs.Parsing.{one_of}
use Rattle.wasm_module_validator_type_list.specs.List.{max_types}
use Rattle.wasm_module_validator_type_storage.specs.trees.Groups.{Group, count}
use Rattle.wasm_module_validator_type_groups.specs.adding.Interned.{space_of, ids_from}
use Rattle.wasm_module_validator_type_groups.specs.composites.Composites.{WhereCanonical}
use Rattle.wasm_module_validator_section_order.specs.rules_in_order.Steps.{SoFar}
use Rattle.wasm_module_validator_drivers.specs.reading.Reading.{HasGroupIn, IsReadAs}
use Rattle.wasm_module_validator_rules.specs.Accepts.{AcceptsUnder, IsValidOutsideBodies, JudgesOutsideBodies}
use Rattle.wasm_module_validator_rules.specs.Spaces.{types_behind}
use Rattle.wasm_module_validator_rules.specs.Syntax.{ModuleTree}
use Rattle.wasm_module_validator_rules.specs.Valid.{Each}
use Rattle.wasm_module_validator.specs.declared.lists.Verdict.{Verdict}
use Rattle.wasm_module_validator.specs.declared.lists.Verdict.TheVariants.{Accepted, Refused}
use Rattle.wasm_module_validator.specs.Lists.{goes_on}

-- ---- room

-- the types that a list has, by their ids
abbrev pub all_types : List Group → List TypeTree
all_types groups = space_of groups (ids_from 0 (count groups))

-- none of them is there twice
abbrev pub AreDifferent : List TypeTree → Type 0
AreDifferent [] = Unit {0}
AreDifferent (t ∷ ts) = (Contains ts t → ⊥) × AreDifferent ts

-- each of these is one of those
abbrev pub AreAmong : List TypeTree → List TypeTree → Type 0
AreAmong some all = (t : TypeTree) → Contains some t → Contains all t

-- After these types there is room for so many: if types are kept in canonical form, after any of them that are different from one another;
-- otherwise after all of them, each as often as it is there.
pub record HasRoomAfter (z : Settings) (types : List TypeTree) (own : ℕ) : Type 0 where
  pub canonical : WhereCanonical z.features ((some : List TypeTree) → AreDifferent some → AreAmong some types → length some + own ≤ max_types)
  pub as_written : needs_canonical_types z.features ≡ false → length types + own ≤ max_types

-- There is room for each group of these inputs that its module's own limit allows: after these types, those of the inputs before, and those
-- that its module has before the group.
abbrev pub HasRoomForAll : Settings → List TypeTree → List (List ℕ) → Type 0
HasRoomForAll z types [] = Unit {0}
HasRoomForAll z types (x ∷ xs) =
    ((before : List TypeTree) (own : ℕ) → HasGroupIn z x before own → length before + own ≤ z.limits.types → HasRoomAfter z (types ++ before) own)
    × ((q : SoFar) → IsReadAs z x q → HasRoomForAll z (types ++ types_behind [] q.tree.types) xs)

-- so it is behind the groups that a list has
abbrev pub IsWithinTotal : Settings → List Group → List (List ℕ) → Type 0
IsWithinTotal z held xs = HasRoomForAll z (all_types held) xs

-- After so many types there are no more than the most, however often each of these inputs has the same: each group comes after the types of the
-- inputs before, and those that its module has before the group.
abbrev pub AreAtMost : ℕ → Settings → ℕ → List (List ℕ) → Type 0
AreAtMost most z n [] = Unit {0}
AreAtMost most z n (x ∷ xs) = ((before : List TypeTree) (own : ℕ) → HasGroupIn z x before own → n + length before + own ≤ most)
    × ((q : SoFar) → IsReadAs z x q → AreAtMost most z (n + length (types_behind [] q.tree.types)) xs)

-- After so many types there are no more than the most, with all those of each of these inputs in turn, in the terms of the rules alone: those of
-- whatever module it spells that is valid outside its bodies. An input that spells none ends the list, so nothing is asked of it and of others.
abbrev pub HaveFewTypes : ℕ → Settings → ℕ → List (List ℕ) → Type 0
HaveFewTypes most z n [] = Unit {0}
HaveFewTypes most z n (x ∷ xs) = (m : ModuleTree) → JudgesOutsideBodies z x m
    → (n + length (types_behind [] m.types) ≤ most) × HaveFewTypes most z (n + length (types_behind [] m.types)) xs

-- each input has fewer bytes than a number of 64 bits counts, as every slice has
abbrev pub AreCounted : List (List ℕ) → Type 0
AreCounted xs = Each (λ (x : List ℕ). length x < 2 ^ 64) xs

-- ---- verdicts

-- these bytes alone have this verdict: they are accepted exactly if they are a valid module, and if a function alone is refused, the rest is valid
abbrev pub IsAlone : Settings → List ℕ → Verdict → Type 0
IsAlone z bytes (Accepted types) = AcceptsUnder z bytes
IsAlone z bytes (Refused error true) = (AcceptsUnder z bytes → ⊥) × IsValidOutsideBodies z bytes
IsAlone z bytes (Refused error false) = (AcceptsUnder z bytes → ⊥) × (IsValidOutsideBodies z bytes → ⊥)

-- each has the verdict that it has alone, through the first that is refused before its end
abbrev pub AreAlone : Settings → List (List ℕ) → List Verdict → Type 0
AreAlone z [] [] = Unit {0}
AreAlone z [] (v ∷ vs) = ⊥
AreAlone z (x ∷ xs) [] = ⊥
AreAlone z (x ∷ xs) (v ∷ vs) = IsAlone z x v × one_of (goes_on v) (AreAlone z xs vs) (vs ≡ [])
