-- A module under validation, and the rules of its groups one after the other.
use Rattle.std.specs.Prelude.{◌≡◌, ◌↔◌, ℕ, List, [], ◌∷◌, ◌++◌}
use Rattle.wasm_types.specs.settings.Settings.{Settings}
use Rattle.wasm_types.specs.trees.Trees.{TypeTree}
use Rattle.wasm_types.specs.trees.ValidGroup.{Written, types_of, IsValidGroup, AreValidGroups}
use Rattle.wasm_module_validator_type_groups.specs.adding.Interned.{AreIdsKnown, IsChecked}
use Rattle.wasm_types.specs.settings.declared.Limits.{Limits}

-- what it is judged by: the bits of its features, and its limits
abbrev pub settings_of : ℕ → Limits → Settings
settings_of bits limits = record { features = bits; limits = limits }

-- groups are valid one after the other exactly where all but the last are, and the last is valid behind their types
abbrev pub GroupsAreAddedOneByOne : Type 0
GroupsAreAddedOneByOne = (z : Settings) (before after : List TypeTree) (gs : List Written) (g : Written)
    → AreValidGroups z before (gs ++ g ∷ []) after
    ↔ ((space : List TypeTree) × AreValidGroups z before gs space × IsValidGroup z space g × (after ≡ space ++ types_of space g))

-- a list with no types holds none that is not valid, and a module with no types has no id
abbrev pub NothingIsChecked : Type 0
NothingIsChecked = (z : Settings) → IsChecked z [] × AreIdsKnown [] []
