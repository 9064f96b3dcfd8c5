-- Laws of valid types over ids: what the functions of src/laws.rt promise.
use Rattle.std.specs.Prelude.{◌≡◌, ◌↔◌, ◌<◌, ℕ, List, length, Some}
use Rattle.wasm_types.specs.settings.Settings.{Settings}
use Rattle.wasm_types.specs.trees.declared.index.CoreTypeId.{CoreTypeId}
use Rattle.wasm_types.specs.trees.ValidGroup.{IsValidType, AreValidTypes, types_from}
use Rattle.wasm_module_validator_type_storage.specs.trees.Groups.{Group, count, tree_of, tree_behind, group_at}
use Rattle.wasm_module_validator_type_storage.specs.trees.Formed.{IsFormed, AreCanonical}
use Rattle.wasm_module_validator_type_list.specs.Lookups.{HasIds}
use Rattle.wasm_module_validator_type_groups.specs.ValidTypes.{IsTypeValid, AreTypesValid}

-- the type of an id is valid exactly where the type that the id stands for is
abbrev pub TypesAreValidAsTrees : Type 0
TypesAreValidAsTrees = (groups : List Group) → IsFormed groups → AreCanonical groups → (z : Settings) (id : CoreTypeId) → id.0 < count groups
    → IsTypeValid groups z.features z.limits.subtyping_depth id ↔ IsValidType z (tree_of groups id.0)

-- the types of a group are valid exactly where those of its tree are
abbrev pub GroupsAreValidAsTrees : Type 0
GroupsAreValidAsTrees = (groups : List Group) → IsFormed groups → AreCanonical groups → (z : Settings) (k : ℕ) (g : Group) (first end : ℕ) → group_at groups k ≡ Some g
    → HasIds groups k first end
    → AreTypesValid groups z.features z.limits.subtyping_depth first (length g.types) ↔ AreValidTypes z (types_from (tree_behind groups g) 0 (length g.types))
