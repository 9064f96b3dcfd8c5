-- What the look-ups of a list of types answer.
use Rattle.std.specs.Prelude.{◌≡◌, ℕ, ◌+◌, ◌<◌, List, Some, slice_get}
use Rattle.wasm_types.specs.trees.declared.index.CoreTypeId.{CoreTypeId}
use Rattle.wasm_module_validator_type_storage.specs.trees.Groups.{Group, group_ranges}

-- the ids of the group of a number: from the first on, as many as it has types
abbrev pub HasIds : List Group → ℕ → ℕ → ℕ → Type 0
HasIds groups k first end = slice_get (group_ranges groups) k ≡ Some (first, end)

-- the group of this number has a type at the place
pub record HasPlace (groups : List Group) (k place : ℕ) : Type 0 where
  pub first : ℕ
  pub end : ℕ
  pub ids : HasIds groups k first end
  pub within : first + place < end

-- the id is that of the place of the group
pub record IsAtPlace (groups : List Group) (k place : ℕ) (id : CoreTypeId) : Type 0 where
  pub first : ℕ
  pub end : ℕ
  pub ids : HasIds groups k first end
  pub at : id.0 ≡ first + place
