-- The ids of a group: one after the other, in the order of its types.
use Rattle.std.specs.Prelude.{◌≡◌, ℕ, ◌+◌, ◌<◌, ◌≤◌, List, length, Some, slice_get}
use Rattle.wasm_module_validator_type_storage.specs.trees.Groups.{Group, count, tree_of, tree_behind, group_ranges}

-- the ids of the group of a number begin at the first and are as many as its types, and each has a place of the group's tree
pub record Unfolds (groups : List Group) (k : ℕ) (g : Group) : Type 0 where
  pub first : ℕ
  pub ids : slice_get (group_ranges groups) k ≡ Some (first, first + length g.types)
  pub known : first + length g.types ≤ count groups
  pub types : (p : ℕ) → p < length g.types → tree_of groups (first + p) ≡ record { group = tree_behind groups g; place = p }
