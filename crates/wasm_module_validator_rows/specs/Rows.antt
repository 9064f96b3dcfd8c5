-- What a row tells of a value type or of a field, number by number.
use Rattle.std.specs.Prelude.{◌+◌, ◌^◌, ◌-◌, ℕ, Bool, if◌then◌else◌, Option, Some, None}
use Rattle.wasm_types.specs.trees.declared.index.UnpackedIndex.{UnpackedIndex}
use Rattle.wasm_types.specs.trees.declared.index.UnpackedIndex.TheVariants as index
use Rattle.wasm_types.specs.trees.Types as tree
use Rattle.wasm_types.specs.trees.Types.{Abstract, Number, HeapOf, ValueOf, StorageOf, FieldOf}
use Rattle.wasm_module_validator_rows.specs.declared.values.ValueRow.{ValueRow}

-- a bit, if something holds
abbrev pub flag_of : Bool → ℕ → ℕ
flag_of holds bit = if holds then bit else 0

-- no type, in the place of an id
abbrev pub no_type : ℕ
no_type = 2 ^ 32 - 1

-- the abstract heap types by their numbers
abbrev pub heap_number : Abstract → ℕ
heap_number tree.func = 0
heap_number tree.extern = 1
heap_number tree.any = 2
heap_number tree.none = 3
heap_number tree.noextern = 4
heap_number tree.nofunc = 5
heap_number tree.eq = 6
heap_number tree.struct = 7
heap_number tree.array = 8
heap_number tree.i31 = 9
heap_number tree.exn = 10
heap_number tree.noexn = 11
heap_number tree.cont = 12
heap_number tree.nocont = 13

-- the id by which a type is named, or that of no type
abbrev pub id_number : UnpackedIndex → ℕ
id_number (index.Id id) = id.0
id_number (index.Module x) = no_type
id_number (index.RecGroup x) = no_type

abbrev pub some_id_number : Option UnpackedIndex → ℕ
some_id_number None = no_type
some_id_number (Some i) = id_number i

-- of this kind, and nothing more to tell
abbrev pub plain : ℕ → ValueRow
plain n = record { kind = n; flags = 0; heap = 0; id = no_type }

-- a number or a vector
abbrev pub told_number : Number → ValueRow
told_number tree.i32 = plain 0
told_number tree.i64 = plain 1
told_number tree.f32 = plain 2
told_number tree.f64 = plain 3
told_number tree.v128 = plain 4

-- a reference: 2 it may be null, 4 it is shared, 8 it is exact
abbrev pub told_reference : Bool → HeapOf UnpackedIndex → ValueRow
told_reference null (tree.abstract s t) = record { kind = 5; flags = flag_of null 2 + flag_of s 4; heap = heap_number t; id = no_type }
told_reference null (tree.concrete i) = record { kind = 5; flags = flag_of null 2; heap = 14; id = id_number i }
told_reference null (tree.exact i) = record { kind = 5; flags = flag_of null 2 + 8; heap = 14; id = id_number i }

abbrev pub told_value : ValueOf UnpackedIndex → ValueRow
told_value (tree.number n) = told_number n
told_value (tree.ref null h) = told_reference null h

abbrev pub told_storage : StorageOf UnpackedIndex → ValueRow
told_storage tree.i8 = plain 6
told_storage tree.i16 = plain 7
told_storage (tree.value t) = told_value t

-- a row with this bit more
abbrev pub with_flag : ℕ → ValueRow → ValueRow
with_flag bit row = record { kind = row.kind; flags = row.flags + bit; heap = row.heap; id = row.id }

-- a field: 1 it may be written
abbrev pub told_field : FieldOf UnpackedIndex → ValueRow
told_field f = with_flag (flag_of f.mutable 1) (told_storage f.storage)
