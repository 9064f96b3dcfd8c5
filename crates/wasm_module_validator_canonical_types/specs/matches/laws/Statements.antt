-- Laws of matching over ids: what the functions of src/matches/laws.rt promise.
use Rattle.std.specs.Prelude.{◌↔◌, ◌<◌, List}
use Rattle.wasm_types.specs.trees.declared.index.CoreTypeId.{CoreTypeId}
use Rattle.wasm_types.specs.trees.Trees.{opened}
use Rattle.wasm_types.specs.trees.Matches.{Matches}
use Rattle.wasm_module_validator_type_storage.specs.trees.Groups.{Group, count, tree_of}
use Rattle.wasm_module_validator_type_storage.specs.trees.Formed.{IsFormed, AreCanonical}
use Rattle.wasm_module_validator_type_storage.specs.trees.BelowIds.{entry_by_id}
use Rattle.wasm_module_validator_canonical_types.specs.matches.MatchesById.{MatchesById, HasKnownIds}

-- where all groups are in canonical form, each type of the list refers to ids of the list alone
abbrev pub TypesHaveKnownIds : Type 0
TypesHaveKnownIds = (groups : List Group) → IsFormed groups → AreCanonical groups → (a : CoreTypeId) → a.0 < count groups
    → HasKnownIds groups (entry_by_id groups a)

-- and one id matches another exactly where its type does
abbrev pub IdsMatchAsTypes : Type 0
IdsMatchAsTypes = (groups : List Group) → IsFormed groups → AreCanonical groups → (a b : CoreTypeId) → a.0 < count groups → b.0 < count groups
    → MatchesById groups a b ↔ Matches (opened (tree_of groups a.0)) (opened (tree_of groups b.0))
