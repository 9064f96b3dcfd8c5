-- Worked globals, tables and data segments, where an expression is a byte.
use Rattle.std.proofs.Common.{◌≡◌, [], ◌∷◌, refl, true, false, Some, None}
use Rattle.wasm_types.specs.decoding.declared.Refusal.TheVariants.{Other}
use Rattle.wasm_types.specs.decoding.Decoder.{Done, Short, Fault, byte}
use Rattle.wasm_types.specs.decoding.Leb.{unsigned}
use Rattle.wasm_types.specs.values.declared.value.ValType.TheVariants.{I32}
use Rattle.wasm_types.specs.values.declared.heap.AbstractHeapType.TheVariants as heap
use Rattle.wasm_types.specs.values.declared.heap.HeapType.TheVariants.{Abstract}
use Rattle.wasm_types.specs.values.Reference.{Reference}
use Rattle.wasm_types.specs.values.Decode.{reference, reference_after, reference_type}
use Rattle.wasm_types.specs.values.DecodeValues.{value_type_after, value_type}
use Rattle.wasm_types.specs.values.WorkedTypeLaws.{start_of, behind}
use Rattle.wasm_types.specs.externs.Decode as externs
use Rattle.wasm_types.specs.externs.Spells.{flags}
use Rattle.wasm_types.specs.externs.Decode.{limits_flags, size, written, table_after, table_type, global_type}
use Rattle.wasm_sections_items.specs.frames.Decode.{counted_bytes}
use Rattle.wasm_sections_items.specs.segments.Tables.{table_of as with_init, plain, behind_mark, initialised, table}
use Rattle.wasm_sections_items.specs.segments.Spells.{passive, active}
use Rattle.wasm_sections_items.specs.segments.Decode.{global_of, global, data_of, data_segment}

abbrev function : Reference
function = reference true (Abstract false heap.Func)

-- a type and an expression; no expression; a type that is refused
pub record GlobalRows : Type 0 where
  pub variable : global byte (start_of (0x7f ∷ 0x01 ∷ 0x05 ∷ [])) ≡ Done (global_of (externs.global_of I32 1) 5) (behind 3)
  pub no_expression : global byte (start_of (0x7f ∷ 0x01 ∷ [])) ≡ Short 2 1
  pub third_flag : global byte (start_of (0x7f ∷ 0x04 ∷ 0x05 ∷ [])) ≡ Fault Other 1

pub global_rows : GlobalRows
unfolding global global_type value_type value_type_after reference_after
global_rows = record { variable = refl; no_expression = refl; third_flag = refl }

-- each flag, padded too; a flag that there is not, and one of five bytes; bytes cut short
pub record DataRows : Type 0 where
  pub plain : data_segment byte (start_of (0x00 ∷ 0x05 ∷ 0x01 ∷ 0x06 ∷ [])) ≡ Done (data_of (active 0 5) (0x06 ∷ [])) (behind 4)
  pub unused : data_segment byte (start_of (0x01 ∷ 0x01 ∷ 0x06 ∷ [])) ≡ Done (data_of passive (0x06 ∷ [])) (behind 3)
  pub in_memory : data_segment byte (start_of (0x02 ∷ 0x03 ∷ 0x05 ∷ 0x00 ∷ [])) ≡ Done (data_of (active 3 5) []) (behind 4)
  pub padded : data_segment byte (start_of (0x81 ∷ 0x00 ∷ 0x00 ∷ [])) ≡ Done (data_of passive []) (behind 3)
  pub third_flag : data_segment byte (start_of (0x03 ∷ 0x00 ∷ [])) ≡ Fault Other 0
  pub padded_flag : data_segment byte (start_of (0x84 ∷ 0x00 ∷ [])) ≡ Fault Other 0
  pub cut_short : data_segment byte (start_of (0x01 ∷ 0x03 ∷ 0x06 ∷ [])) ≡ Short 2 2
  pub no_offset : data_segment byte (start_of (0x00 ∷ [])) ≡ Short 1 1

pub data_rows : DataRows
unfolding data_segment counted_bytes unsigned
data_rows = record { plain = refl; unused = refl; in_memory = refl; padded = refl; third_flag = refl; padded_flag = refl; cut_short = refl; no_offset = refl }

-- a type alone, with null references; a type and an expression; another byte behind the mark; the mark alone
pub record TableRows : Type 0 where
  pub nulls : table byte (start_of (0x70 ∷ 0x00 ∷ 0x0a ∷ [])) ≡ Done (with_init (externs.table_of function (flags false false false false) 10 None) None) (behind 3)
  pub initialised : table byte (start_of (0x40 ∷ 0x00 ∷ 0x70 ∷ 0x00 ∷ 0x0a ∷ 0x05 ∷ [])) ≡ Done (with_init (externs.table_of function (flags false false false false) 10 None) (Some 5)) (behind 6)
  pub another_byte : table byte (start_of (0x40 ∷ 0x01 ∷ 0x70 ∷ 0x00 ∷ 0x0a ∷ 0x05 ∷ [])) ≡ Fault Other 1
  pub mark : table byte (start_of (0x40 ∷ [])) ≡ Short 1 1
  pub no_expression : table byte (start_of (0x40 ∷ 0x00 ∷ 0x70 ∷ 0x00 ∷ 0x0a ∷ [])) ≡ Short 5 1
  pub number_type : table byte (start_of (0x7f ∷ 0x00 ∷ 0x0a ∷ [])) ≡ Fault Other 0
  pub nothing : table byte (start_of []) ≡ Short 0 1

pub table_rows : TableRows
unfolding table plain initialised behind_mark table_type table_after limits_flags size written unsigned reference_type reference_after
table_rows = record { nulls = refl; initialised = refl; another_byte = refl; mark = refl; no_expression = refl; number_type = refl; nothing = refl }
