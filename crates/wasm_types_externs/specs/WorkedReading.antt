-- Worked bytes of the types of tables, memories, globals and tags: what each flag asks for, and what is refused.
use Rattle.std.proofs.Common.{◌≡◌, ℕ, List, [], ◌∷◌, refl, Bool, true, false, Option, Some, None}
use Rattle.wasm_types_values.specs.decoding.declared.Refusal.TheVariants.{Other}
use Rattle.wasm_types_values.specs.decoding.Decoder.{Done, Short, Fault}
use Rattle.wasm_types_values.specs.decoding.Leb.{unsigned}
use Rattle.wasm_types_values.specs.declared.heap.AbstractHeapType.TheVariants as heap
use Rattle.wasm_types_values.specs.declared.heap.HeapType.TheVariants.{Abstract}
use Rattle.wasm_types_values.specs.declared.value.ValType.TheVariants.{I32}
use Rattle.wasm_types_values.specs.Reference.{Reference}
use Rattle.wasm_types_values.specs.Decode.{reference, reference_after, reference_type}
use Rattle.wasm_types_values.specs.DecodeValues.{value_type_after, value_type}
use Rattle.wasm_types_values.specs.WorkedTypeLaws.{start_of, behind}
use Rattle.wasm_types_externs.specs.declared.table.TableType.{TableType}
use Rattle.wasm_types_externs.specs.declared.memory.MemoryType.{MemoryType}
use Rattle.wasm_types_externs.specs.declared.global.GlobalType.{GlobalType}
use Rattle.wasm_types_externs.specs.Decode.{limits_flags, size, written, memory_after, memory_type, table_after, table_type, global_type, tag_of, tag_type}

-- ---- memories

abbrev memory : Bool → Bool → ℕ → Option ℕ → Option ℕ → MemoryType
memory wide shared low high page = record { memory64 = wide; shared = shared; initial = low; maximum = high; page_size_log2 = page }

abbrev IsMemory : List ℕ → MemoryType → ℕ → Type 0
IsMemory bytes m n = memory_type (start_of bytes) ≡ Done m (behind n)

-- no flag, and each flag alone; all of them; none of the other four; a number of 33 bits only where it is wide
pub record MemoryRows : Type 0 where
  pub none : IsMemory (0x00 ∷ 0x03 ∷ []) (memory false false 3 None None) 2
  pub maximum : IsMemory (0x01 ∷ 0x03 ∷ 0x04 ∷ []) (memory false false 3 (Some 4) None) 3
  pub no_maximum : memory_type (start_of (0x01 ∷ 0x03 ∷ [])) ≡ Short 2 1
  pub shared : IsMemory (0x02 ∷ 0x03 ∷ []) (memory false true 3 None None) 2
  pub wide : IsMemory (0x04 ∷ 0x80 ∷ 0x80 ∷ 0x80 ∷ 0x80 ∷ 0x10 ∷ []) (memory true false 4294967296 None None) 6
  pub not_wide : memory_type (start_of (0x00 ∷ 0x80 ∷ 0x80 ∷ 0x80 ∷ 0x80 ∷ 0x10 ∷ [])) ≡ Fault Other 5
  pub wide_maximum : IsMemory (0x05 ∷ 0x00 ∷ 0x80 ∷ 0x80 ∷ 0x80 ∷ 0x80 ∷ 0x10 ∷ []) (memory true false 0 (Some 4294967296) None) 7
  pub not_wide_maximum : memory_type (start_of (0x01 ∷ 0x00 ∷ 0x80 ∷ 0x80 ∷ 0x80 ∷ 0x80 ∷ 0x10 ∷ [])) ≡ Fault Other 6
  pub page_size : IsMemory (0x08 ∷ 0x03 ∷ 0x00 ∷ []) (memory false false 3 None (Some 0)) 3
  pub no_page_size : memory_type (start_of (0x08 ∷ 0x03 ∷ [])) ≡ Short 2 1
  pub all : IsMemory (0x0f ∷ 0x01 ∷ 0x02 ∷ 0x10 ∷ []) (memory true true 1 (Some 2) (Some 16)) 4
  pub fifth_flag : memory_type (start_of (0x10 ∷ 0x03 ∷ [])) ≡ Fault Other 0
  pub sixth_flag : memory_type (start_of (0x20 ∷ 0x03 ∷ [])) ≡ Fault Other 0
  pub seventh_flag : memory_type (start_of (0x40 ∷ 0x03 ∷ [])) ≡ Fault Other 0
  pub eighth_flag : memory_type (start_of (0x80 ∷ 0x03 ∷ [])) ≡ Fault Other 0
  pub nothing : memory_type (start_of []) ≡ Short 0 1

pub memory_rows : MemoryRows
unfolding memory_type memory_after limits_flags size written unsigned
memory_rows = record {
  none = refl;
  maximum = refl;
  no_maximum = refl;
  shared = refl;
  wide = refl;
  not_wide = refl;
  wide_maximum = refl;
  not_wide_maximum = refl;
  page_size = refl;
  no_page_size = refl;
  all = refl;
  fifth_flag = refl;
  sixth_flag = refl;
  seventh_flag = refl;
  eighth_flag =
      refl;
  nothing = refl;
}

-- ---- tables

abbrev function : Reference
function = reference true (Abstract false heap.Func)

abbrev table : Bool → Bool → ℕ → Option ℕ → TableType
table wide shared low high = record { element_type = function; table64 = wide; initial = low; maximum = high; shared = shared }

abbrev IsTable : List ℕ → TableType → ℕ → Type 0
IsTable bytes t n = table_type (start_of bytes) ≡ Done t (behind n)

-- no flag, and each flag alone; all of them; the fourth, which is none of a table
pub record TableRows : Type 0 where
  pub none : IsTable (0x70 ∷ 0x00 ∷ 0x0a ∷ []) (table false false 10 None) 3
  pub maximum : IsTable (0x70 ∷ 0x01 ∷ 0x0a ∷ 0x14 ∷ []) (table false false 10 (Some 20)) 4
  pub no_maximum : table_type (start_of (0x70 ∷ 0x01 ∷ 0x0a ∷ [])) ≡ Short 3 1
  pub shared : IsTable (0x70 ∷ 0x02 ∷ 0x0a ∷ []) (table false true 10 None) 3
  pub wide : IsTable (0x70 ∷ 0x04 ∷ 0x80 ∷ 0x80 ∷ 0x80 ∷ 0x80 ∷ 0x10 ∷ []) (table true false 4294967296 None) 7
  pub not_wide : table_type (start_of (0x70 ∷ 0x00 ∷ 0x80 ∷ 0x80 ∷ 0x80 ∷ 0x80 ∷ 0x10 ∷ [])) ≡ Fault Other 6
  pub all : IsTable (0x70 ∷ 0x07 ∷ 0x01 ∷ 0x02 ∷ []) (table true true 1 (Some 2)) 4
  pub page_size : table_type (start_of (0x70 ∷ 0x08 ∷ 0x0a ∷ 0x00 ∷ [])) ≡ Fault Other 1
  pub number_type : table_type (start_of (0x7f ∷ 0x00 ∷ 0x0a ∷ [])) ≡ Fault Other 0
  pub nothing : table_type (start_of []) ≡ Short 0 1

pub table_rows : TableRows
unfolding table_type table_after limits_flags size written unsigned reference_type reference_after
table_rows = record {
  none = refl;
  maximum = refl;
  no_maximum = refl;
  shared = refl;
  wide = refl;
  not_wide = refl;
  all = refl;
  page_size = refl;
  number_type = refl;
  nothing = refl;
}

-- ---- globals

abbrev global : Bool → Bool → GlobalType
global mutable shared = record { content_type = I32; mutable = mutable; shared = shared }

abbrev IsGlobal : List ℕ → GlobalType → ℕ → Type 0
IsGlobal bytes g n = global_type (start_of bytes) ≡ Done g (behind n)

-- each of the two flags; the third, which is none
pub record GlobalRows : Type 0 where
  pub none : IsGlobal (0x7f ∷ 0x00 ∷ []) (global false false) 2
  pub mutable : IsGlobal (0x7f ∷ 0x01 ∷ []) (global true false) 2
  pub shared : IsGlobal (0x7f ∷ 0x02 ∷ []) (global false true) 2
  pub both : IsGlobal (0x7f ∷ 0x03 ∷ []) (global true true) 2
  pub third_flag : global_type (start_of (0x7f ∷ 0x04 ∷ [])) ≡ Fault Other 1
  pub packed : global_type (start_of (0x78 ∷ 0x00 ∷ [])) ≡ Fault Other 0
  pub no_flags : global_type (start_of (0x7f ∷ [])) ≡ Short 1 1

pub global_rows : GlobalRows
unfolding global_type value_type value_type_after reference_after
global_rows = record { none = refl; mutable = refl; shared = refl; both = refl; third_flag = refl; packed = refl; no_flags = refl }

-- ---- tags

-- zero and an index; another byte; no index
pub record TagRows : Type 0 where
  pub exception : tag_type (start_of (0x00 ∷ 0x05 ∷ [])) ≡ Done (tag_of 5) (behind 2)
  pub another : tag_type (start_of (0x01 ∷ 0x05 ∷ [])) ≡ Fault Other 0
  pub no_index : tag_type (start_of (0x00 ∷ [])) ≡ Short 1 1

pub tag_rows : TagRows
unfolding tag_type unsigned
tag_rows = record { exception = refl; another = refl; no_index = refl }
