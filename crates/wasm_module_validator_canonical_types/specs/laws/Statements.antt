-- Laws of canonical forms: what the functions of src/laws.rt promise.
use Rattle.std.specs.Prelude.{◌≡◌, ◌↔◌, ◌+◌, ◌<◌, ℕ, Bool, true, List, length, map, All}
use Rattle.wasm_types.specs.settings.Features.{has, Gc}
use Rattle.wasm_types.specs.trees.declared.index.CoreTypeId.{CoreTypeId}
use Rattle.wasm_types.specs.settings.Settings.{Settings}
use Rattle.wasm_types.specs.decoding.Decoder.{State, Done}
use Rattle.wasm_types.specs.trees.ValidGroup.{Written, written_entries, written_tree, AreWellReferenced}
use Rattle.wasm_types.specs.declared.rec_group.RecGroup.{RecGroup}
use Rattle.wasm_types.specs.Entries.{Declared, declared_types}
use Rattle.wasm_types.specs.Spells.{SpellsGroup}
use Rattle.wasm_types.specs.SpellsTypes.{group_value}
use Rattle.wasm_types.specs.DecodeTypes.{rec_group}
use Rattle.wasm_module_validator_type_storage.specs.trees.Groups.{Group, tree_of, tree_behind}
use Rattle.wasm_module_validator_type_storage.specs.trees.Formed.{IsGroupFormed}
use Rattle.wasm_module_validator_canonical_types.specs.Written.{AreModuleIndices, HaveOneSupertype, written_types}
use Rattle.wasm_module_validator_canonical_types.specs.Canonical.{canonical_types, AreTypesAllowed}

-- the group of these types as it is written
abbrev pub written : Bool → List Declared → Written
written explicit ds = record { is_explicit = explicit; types = written_types ds }

-- a group that bytes spell has indices of its module alone
abbrev pub GroupsReadHaveModuleIndices : Type 0
GroupsReadHaveModuleIndices = (z : Settings) (explicit : Bool) (ds : List Declared) (text : List ℕ) → SpellsGroup z explicit ds text → AreModuleIndices ds

-- so a group that the reader of groups answers
abbrev pub ReadGroupsHaveModuleIndices : Type 0
ReadGroupsHaveModuleIndices = (z : Settings) (before after : State) (g : RecGroup) → rec_group z before ≡ Done (group_value g) after → AreModuleIndices (declared_types g)

-- the indices are allowed exactly where the group is well referenced
abbrev pub AllowedIsWellReferenced : Type 0
AllowedIsWellReferenced = (bits start end own : ℕ) (explicit : Bool) (ds : List Declared) → AreModuleIndices ds → HaveOneSupertype ds
    → AreTypesAllowed (has Gc bits) start end own ds ↔ AreWellReferenced bits start end own (written_entries (written explicit ds))

-- the canonical form of a group unrolls, behind the groups of a list, to what the group is behind the types of its module
abbrev pub CanonicalGroupsUnfold : Type 0
CanonicalGroupsUnfold = (groups : List Group) (ids : List CoreTypeId) (explicit : Bool) (ds : List Declared) → AreModuleIndices ds → HaveOneSupertype ds
    → tree_behind groups (record { is_canonical = true; types = canonical_types ids ds })
    ≡ written_tree (map (λ (i : CoreTypeId). tree_of groups i.0) ids) (written explicit ds)

-- and it is formed behind them
abbrev pub CanonicalGroupsAreFormed : Type 0
CanonicalGroupsAreFormed = (known : ℕ) (gc : Bool) (ids : List CoreTypeId) (ds : List Declared) → All (λ (i : CoreTypeId). i.0 < known) ids
    → AreModuleIndices ds → HaveOneSupertype ds → AreTypesAllowed gc (length ids) (length ids + length ds) (length ids) ds
    → IsGroupFormed known (record { is_canonical = true; types = canonical_types ids ds })
