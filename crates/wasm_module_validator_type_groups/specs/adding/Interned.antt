-- What a list of types and a module hold of the groups that were added to them.
use Rattle.std.proofs.Common.{zero, suc}
use Rattle.std.specs.Prelude.{◌≡◌, ℕ, ◌+◌, ◌-◌, ◌<◌, Bool, true, false, List, [], ◌∷◌, ◌++◌, length, map, All}
use Rattle.wasm_types.specs.settings.Settings.{Settings}
use Rattle.wasm_types.specs.settings.Features.{needs_canonical_types}
use Rattle.wasm_types.specs.trees.declared.index.CoreTypeId.{CoreTypeId}
use Rattle.wasm_types.specs.trees.Trees.{TypeTree}
use Rattle.wasm_types.specs.trees.ValidGroup.{Written, IsValidType}
use Rattle.wasm_types.specs.declared.rec_group.RecGroup.{RecGroup}
use Rattle.wasm_types.specs.Entries.{Declared, declared_types}
use Rattle.wasm_module_validator_type_storage.specs.trees.Groups.{Group, count, tree_of}
use Rattle.wasm_module_validator_type_storage.specs.trees.Formed.{AreCanonical}
use Rattle.wasm_module_validator_canonical_types.specs.Canonical.{canonical_types}
use Rattle.wasm_module_validator_canonical_types.specs.laws.Statements.{written}
use Rattle.wasm_module_validator_type_groups.specs.composites.Composites.{WhereCanonical}
use Rattle.wasm_module_validator_type_groups.specs.ValidTypes.{AreTypesValid}
use Rattle.wasm_module_validator_type_list.specs.Lookups.{HasIds}
use Rattle.wasm_module_validator_type_list.specs.List.{Interns}

-- the types of a module, by the ids that they have in a list
abbrev pub space_of : List Group → List CoreTypeId → List TypeTree
space_of groups ids = map (λ (i : CoreTypeId). tree_of groups i.0) ids

-- each id has a type in the list
abbrev pub AreIdsKnown : List Group → List CoreTypeId → Type 0
AreIdsKnown groups ids = All (λ (i : CoreTypeId). i.0 < count groups) ids

-- a group as it is written, over the indices of its module
abbrev pub written_group : RecGroup → Written
written_group g = written g.is_explicit (declared_types g)

-- the types of a group as a list keeps them, behind types of these ids: in canonical form (true), or as they are written
abbrev pub kept_types : Bool → List CoreTypeId → List Declared → List Declared
kept_types true ids ds = canonical_types ids ds
kept_types false ids ds = ds

-- so the group, by the features that are allowed
abbrev pub kept_group : ℕ → List CoreTypeId → List Declared → Group
kept_group bits ids ds = record { is_canonical = needs_canonical_types bits; types = kept_types (needs_canonical_types bits) ids ds }

-- each type of a list is valid, and where the features ask for canonical forms each group is in canonical form
pub record IsChecked (z : Settings) (groups : List Group) : Type 0 where
  pub canonical : WhereCanonical z.features (AreCanonical groups)
  pub valid : (id : ℕ) → id < count groups → IsValidType z (tree_of groups id)

-- n ids one after the other
abbrev pub ids_from : ℕ → ℕ → List CoreTypeId
ids_from first zero = []
ids_from first (suc n) = record { 0 = first } ∷ ids_from (suc first) n

-- the group is in the list, with the number under which it was known or as the next, and the ids of its types stand behind
-- those that the module had
pub record AddsGroup (old new : List Group) (before after : List CoreTypeId) (g : Group) : Type 0 where
  pub is_new : Bool
  pub number : ℕ
  pub first : ℕ
  pub interned : Interns old new g is_new number
  pub ids : HasIds new number first (first + length g.types)
  pub added : after ≡ before ++ ids_from first (length g.types)

-- the types of the group of a number are valid, by their ids
abbrev pub AreGroupTypesValid : Settings → List Group → ℕ → Type 0
AreGroupTypesValid z groups k = (first end : ℕ) → HasIds groups k first end
    → AreTypesValid groups z.features z.limits.subtyping_depth first (end - first)
