-- Places that operators read and write: fields and elements (WebAssembly 3.0, validation, aggregate instructions), and for atomic
-- accesses globals and elements of tables too (the proposal on shared everything).
use Rattle.std.specs.Prelude.{ℕ, Bool, true, false, List, [], ◌∷◌, ◌&&◌, Option, Some, None, option_map, option_and_then, slice_get, if◌then◌else◌}
use Rattle.wasm_types.specs.trees.Types.{i32, number, ref, concrete, StorageOf, i8, i16, value, FieldOf}
use Rattle.wasm_types.specs.trees.Trees.{TypeTree}
use Rattle.wasm_operator_validator_rules.specs.Operands.{ValueType}
use Rattle.wasm_operator_validator_rules.specs.Context.{Context, defaultable, may_use, address_type}
use Rattle.wasm_operator_validator_rules.specs.Aggregates.{struct_named, array_named}

-- ---- what is stored (validation, types, field types)

-- standard: aux-unpack: unpack
-- the value type of what is stored: packed types are numbers as operands
abbrev pub unpacked : StorageOf TypeTree → ValueType
unpacked i8 = number i32
unpacked i16 = number i32
unpacked (value t) = t

abbrev pub is_packed : StorageOf TypeTree → Bool
is_packed i8 = true
is_packed i16 = true
is_packed (value t) = false

-- standard: valid-instr-aggr: numtype or vectype, of array.new_data and array.init_data
-- bytes can be read as it: a number, a vector or a packed type
abbrev pub is_of_bytes : StorageOf TypeTree → Bool
is_of_bytes i8 = true
is_of_bytes i16 = true
is_of_bytes (value (number n)) = true
is_of_bytes (value (ref n h)) = false

-- standard: valid-defaultable: default values of fields
-- it has a default value
abbrev pub has_default : FieldOf TypeTree → Bool
has_default x = defaultable (unpacked x.storage)

-- standard: part of has_default
abbrev pub have_defaults : List (FieldOf TypeTree) → Bool
have_defaults [] = true
have_defaults (x ∷ xs) = has_default x && have_defaults xs

-- standard: valid-instr-aggr: struct.new: the unpacked types of the fields
-- the operands of which a struct with these fields is made
abbrev pub operands_for : List (FieldOf TypeTree) → List ValueType
operands_for [] = []
operands_for (x ∷ xs) = unpacked x.storage ∷ operands_for xs

-- ---- places

-- the operands by which a place is reached, what is stored there, and whether it may be written
pub record Place : Type 0 where
  pub reached_by : List ValueType
  pub storage : StorageOf TypeTree
  pub mutable : Bool

-- standard: valid-instr-aggr: struct.get, struct.set: the field
abbrev pub field_place : Context → ℕ → ℕ → Option Place
field_place g x i = option_and_then
    (λ s. option_map (λ y. record { reached_by = ref true (concrete s.type) ∷ []; storage = y.storage; mutable = y.mutable }) (slice_get s.fields i))
    (struct_named g x)

-- standard: valid-instr-aggr: array.get, array.set: the element
abbrev pub element_place : Context → ℕ → Option Place
element_place g x = option_map
    (λ a. record { reached_by = ref true (concrete a.type) ∷ number i32 ∷ []; storage = a.element.storage; mutable = a.element.mutable })
    (array_named g x)

abbrev pub global_place : Context → ℕ → Option Place
global_place g x = option_and_then
    (λ v. if may_use g v.shared then Some (record { reached_by = []; storage = value v.content; mutable = v.mutable }) else None)
    (slice_get g.«module».globals x)

abbrev pub table_place : Context → ℕ → Option Place
table_place g x = option_and_then
    (λ t. if may_use g t.shared then Some (record { reached_by = address_type t.table64 ∷ []; storage = value t.element; mutable = true }) else None)
    (slice_get g.«module».tables x)
