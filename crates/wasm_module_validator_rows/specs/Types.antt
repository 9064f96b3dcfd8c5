-- What a row tells of a defined type, and which rows the types of a module have.
use Rattle.std.specs.Prelude.{◌+◌, ◌-◌, ◌^◌, ℕ, suc, if◌then◌else◌, List, [], ◌∷◌, ◌++◌, map, length, min, nat_lt, Option, option_map, slice_get}
use Rattle.wasm_types.specs.trees.declared.index.UnpackedIndex.{UnpackedIndex}
use Rattle.wasm_types.specs.trees.Types as tree
use Rattle.wasm_types.specs.trees.Types.{InnerOf}
use Rattle.wasm_types.specs.Entries.{Declared}
use Rattle.wasm_module_validator_type_storage.specs.trees.Groups.{Group, count, declared_by_id}
use Rattle.wasm_module_validator_rows.specs.declared.types.TypeRow.{TypeRow}
use Rattle.wasm_module_validator_rows.specs.declared.values.ValueRow.{ValueRow}
use Rattle.wasm_module_validator_rows.specs.Rows.{flag_of, no_type, id_number, some_id_number, told_value, told_field}
use Rattle.wasm_module_validator_rows.specs.Written.{counted}

-- ---- one row

-- a number, ending at the largest of 32 bits
abbrev pub short : ℕ → ℕ
short n = min n (2 ^ 32 - 1)

-- the kinds of types by their numbers
abbrev pub type_number : InnerOf UnpackedIndex → ℕ
type_number (tree.function ps rs) = 0
type_number (tree.struct_of fs) = 1
type_number (tree.array_of f) = 2
type_number (tree.continuation i) = 3

-- what a type is made of: parameters, and results behind them; fields; the element
abbrev pub told_values : InnerOf UnpackedIndex → List ValueRow
told_values (tree.function ps rs) = map told_value ps ++ map told_value rs
told_values (tree.struct_of fs) = map told_field fs
told_values (tree.array_of f) = told_field f ∷ []
told_values (tree.continuation i) = []

-- how many of these are parameters
abbrev pub param_count : InnerOf UnpackedIndex → ℕ
param_count (tree.function ps rs) = length ps
param_count (tree.struct_of fs) = 0
param_count (tree.array_of f) = 0
param_count (tree.continuation i) = 0

-- the function type of a continuation
abbrev pub function_number : InnerOf UnpackedIndex → ℕ
function_number (tree.function ps rs) = no_type
function_number (tree.struct_of fs) = no_type
function_number (tree.array_of f) = no_type
function_number (tree.continuation i) = id_number i

-- the first id of the group in which the type of an id stands, and the id behind its last
abbrev pub group_start : List Group → ℕ → ℕ
group_start [] id = 0
group_start (g ∷ earlier) id = if nat_lt id (count earlier) then group_start earlier id else count earlier

abbrev pub group_end : List Group → ℕ → ℕ
group_end [] id = 0
group_end (g ∷ earlier) id = if nat_lt id (count earlier) then group_end earlier id else count earlier + length g.types

-- the type of an id: 128 it is final, 4 it is shared
abbrev pub told_type : List Group → ℕ → Declared → TypeRow
told_type groups id d = record {
  kind = type_number d.entry.inner;
  flags = flag_of d.entry.is_final 128 + flag_of d.entry.shared 4;
  supertype = some_id_number d.entry.supertype;
  group_first = group_start groups id;
  group_count = short (group_end groups id) - group_start groups id;
  values = short (length (told_values d.entry.inner));
  params = short (param_count d.entry.inner);
  function = function_number d.entry.inner;
  descriptor = some_id_number d.entry.descriptor;
  describes = some_id_number d.entry.describes;
}

-- ---- all of a list of types

-- these types, of which the first has this id
abbrev pub told_from : List Group → ℕ → List Declared → List TypeRow
told_from groups id [] = []
told_from groups id (d ∷ ds) = told_type groups id d ∷ told_from groups (suc id) ds

-- a row for each type, by its id
abbrev pub type_rows : List Group → List TypeRow
type_rows groups = counted (told_from groups 0 (declared_by_id groups))

-- what the type of an id is made of, if there is one
abbrev pub value_rows : List Group → ℕ → Option (List ValueRow)
value_rows groups id = option_map (λ (d : Declared). told_values d.entry.inner) (slice_get (declared_by_id groups) id)
