-- What an index of a group in canonical form means in a list: an id is one, and a place is that of the group.
use Rattle.std.specs.Prelude.{◌≡◌, ℕ, List}
use Rattle.wasm_types.specs.trees.declared.index.CoreTypeId.{CoreTypeId}
use Rattle.wasm_types.specs.trees.declared.index.UnpackedIndex.{UnpackedIndex}
use Rattle.wasm_types.specs.trees.declared.index.UnpackedIndex.TheVariants.{Module, RecGroup, Id}
use Rattle.wasm_module_validator_type_storage.specs.trees.Groups.{Group}
use Rattle.wasm_module_validator_type_list.specs.Lookups.{HasPlace, IsAtPlace}

-- the group of this number has what the index names
abbrev pub IsNamed : List Group → ℕ → UnpackedIndex → Type 0
IsNamed groups k (Module n) = ⊥
IsNamed groups k (RecGroup p) = HasPlace groups k p
IsNamed groups k (Id i) = Unit {0}

-- which id that is
abbrev pub IsIdOf : List Group → ℕ → UnpackedIndex → CoreTypeId → Type 0
IsIdOf groups k (Module n) id = ⊥
IsIdOf groups k (RecGroup p) id = IsAtPlace groups k p id
IsIdOf groups k (Id i) id = id ≡ i
