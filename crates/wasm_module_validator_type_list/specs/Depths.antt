-- The depths of types below their supertypes: each id has a place for one, which nothing fills until it is set.
use Rattle.std.specs.Prelude.{◌≡◌, ℕ, ◌≤◌, nat_eq, if◌then◌else◌, List, [], length, slice_index_or, Option, Some, None}
use Rattle.wasm_module_validator_type_storage.specs.trees.Groups.{Group, count}
use Rattle.wasm_module_validator_type_list.specs.declared.known.Known.{Known}

-- the depth of an id, where one was set
abbrev pub depth_at : List (Option ℕ) → ℕ → Option ℕ
depth_at depths id = slice_index_or depths id None

-- the id has the depth, and all others have what they had
abbrev pub SetsDepth : List (Option ℕ) → List (Option ℕ) → ℕ → ℕ → Type 0
SetsDepth old new id depth = (k : ℕ) → depth_at new k ≡ (if nat_eq k id then Some depth else depth_at old k)

-- each id keeps its depth, and an id that these groups give to no type has none
pub record KeepsDepths (groups : List Group) (old new : List (Option ℕ)) : Type 0 where
  pub kept : (id : ℕ) → depth_at new id ≡ depth_at old id
  pub none : (id : ℕ) → count groups ≤ id → depth_at new id ≡ None

-- a list that takes more has a place for each of its types, and one that takes no more has none
abbrev pub HasPlaces : ℕ → Option Known → List (Option ℕ) → Type 0
HasPlaces n None depths = depths ≡ []
HasPlaces n (Some m) depths = length depths ≡ n
