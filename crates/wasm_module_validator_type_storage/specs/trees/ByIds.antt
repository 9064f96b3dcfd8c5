-- Declared supertypes, by ids. On groups in canonical form it is what the trees of types say; on others an id is below
-- another by its own declarations alone, and equal trees do not count.
use Rattle.std.specs.Prelude.{◌≡◌, List, Option, Some, None, get_or}
use Rattle.wasm_types.specs.trees.declared.index.CoreTypeId.{CoreTypeId}
use Rattle.wasm_types.specs.trees.declared.index.UnpackedIndex.{UnpackedIndex}
use Rattle.wasm_types.specs.trees.Indices.{number_of}
use Rattle.wasm_types.specs.trees.Trees.{TypeTree}
use Rattle.wasm_module_validator_type_storage.specs.trees.Groups.{Group, tree_of, supertype_ids}

-- the supertype that the type of an id declares
abbrev pub supertype_of : List Group → CoreTypeId → Option CoreTypeId
supertype_of groups a = get_or (supertype_ids groups) a.0 None

-- an id is below itself, and below what the supertype that it declares is below (validation, matching, defined types)
pub data IdBelow (groups : List Group) : CoreTypeId → CoreTypeId → Type 0 where
  itself : {a : CoreTypeId} → IdBelow groups a a
  declared : {a b c : CoreTypeId} → supertype_of groups a ≡ Some b → IdBelow groups b c → IdBelow groups a c

-- the type that an id names
abbrev pub tree_named : List Group → UnpackedIndex → TypeTree
tree_named groups i = tree_of groups (number_of i)
