-- What the names of a type hold, by cases.
use Rattle.std.specs.Prelude.{ℕ, Bool, true, false, Option, Some, None, ◌==◌}
use Rattle.std.specs.Ordering.{nat_cmp, on, then_cmp, eq_of_both}
use Rattle.std.specs.declared.cmp.Ordering.{Ordering}
use Rattle.wasm_types_trees.specs.declared.index.CoreTypeId.{CoreTypeId}
use Rattle.wasm_types_trees.specs.declared.index.UnpackedIndex.{UnpackedIndex}
use Rattle.wasm_types_trees.specs.declared.index.UnpackedIndex.TheVariants.{Module, RecGroup, Id}

-- the number alone
abbrev pub number_of : UnpackedIndex → ℕ
number_of (Module n) = n
number_of (RecGroup n) = n
number_of (Id i) = i.0

-- which of the three it is
abbrev pub kind_of : UnpackedIndex → ℕ
kind_of (Module n) = 0
kind_of (RecGroup n) = 1
kind_of (Id i) = 2

-- whether it means the same in every module
abbrev pub is_canonical_index : UnpackedIndex → Bool
is_canonical_index (Module n) = false
is_canonical_index (RecGroup n) = true
is_canonical_index (Id i) = true

-- the index in the module, if it is one
abbrev pub module_index_of : UnpackedIndex → Option ℕ
module_index_of (Module n) = Some n
module_index_of (RecGroup n) = None
module_index_of (Id i) = None

-- the index in the recursion group, if it is one
abbrev pub rec_group_index_of : UnpackedIndex → Option ℕ
rec_group_index_of (Module n) = None
rec_group_index_of (RecGroup n) = Some n
rec_group_index_of (Id i) = None

-- the identity, if it is one
abbrev pub type_id_of : UnpackedIndex → Option CoreTypeId
type_id_of (Module n) = None
type_id_of (RecGroup n) = None
type_id_of (Id i) = Some i

-- equal kinds and equal numbers
abbrev pub index_eq : UnpackedIndex → UnpackedIndex → Bool
index_eq = eq_of_both (on kind_of ◌==◌) (on number_of ◌==◌)

-- by kind, and then by number
abbrev pub index_cmp : UnpackedIndex → UnpackedIndex → Ordering
index_cmp = then_cmp (on kind_of nat_cmp) (on number_of nat_cmp)
