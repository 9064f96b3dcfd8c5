-- Which kinds of immediates stand behind a code, by prefix and group of operators (WebAssembly 3.0, appendix, index of
-- instructions).
use Rattle.std.specs.Prelude.{ℕ, List, Option, Some, None}
use Rattle.wasm_operators_immediates.specs.Kinds.{Kind}
use Rattle.wasm_operators_enums.specs.control.Table.{control_info, parametric_info, exception_info}
use Rattle.wasm_operators_enums.specs.memory.Table.{memory_info, const_info}
use Rattle.wasm_operators_enums.specs.numbers.Table.{numeric_info}
use Rattle.wasm_operators_enums.specs.control.Immediates.{control_immediates, parametric_immediates, exception_immediates}
use Rattle.wasm_operators_enums.specs.memory.Immediates.{memory_immediates, const_immediates}
use Rattle.wasm_operators_enums.specs.numbers.Immediates.{numeric_immediates}
use Rattle.wasm_operators_enums.proofs.ControlCodes.{control_list, parametric_list, exception_list}
use Rattle.wasm_operators_enums.proofs.MemoryCodes.{memory_list, const_list}
use Rattle.wasm_operators_enums.proofs.NumbersCodes.{numeric_list}
use Rattle.wasm_operators_enums.specs.memory.Table.{bulk_info}
use Rattle.wasm_operators_enums.specs.gc.Table.{gc_info, descriptor_info}
use Rattle.wasm_operators_enums.specs.threads.Table.{atomic_info, shared_info}
use Rattle.wasm_operators_enums.specs.control.Table.{continuation_info}
use Rattle.wasm_operators_enums.specs.memory.Immediates.{bulk_immediates}
use Rattle.wasm_operators_enums.specs.gc.Immediates.{gc_immediates, descriptor_immediates}
use Rattle.wasm_operators_enums.specs.threads.Immediates.{atomic_immediates, shared_immediates}
use Rattle.wasm_operators_enums.specs.control.Immediates.{continuation_immediates}
use Rattle.wasm_operators_enums.proofs.MemoryCodes.{bulk_list}
use Rattle.wasm_operators_enums.proofs.GcCodes.{gc_list, descriptor_list}
use Rattle.wasm_operators_enums.proofs.ThreadsCodes.{atomic_list, shared_list}
use Rattle.wasm_operators_enums.proofs.ControlCodes.{continuation_list}
use Rattle.wasm_operators_enums.specs.VectorsTable.{simd_info, simd_numeric_info}
use Rattle.wasm_operators_enums.specs.VectorsImmediates.{simd_immediates, simd_numeric_immediates}
use Rattle.wasm_operators_enums.proofs.VectorsCodes.{simd_list, simd_numeric_list}
use Rattle.wasm_operators_encoding.specs.Rows.{kinds_by, rows}

-- ---- codes that are bytes

-- control
abbrev pub control_kinds : ℕ → Option (List Kind)
control_kinds = kinds_by (rows control_info control_immediates None control_list)

-- drop and select
abbrev pub parametric_kinds : ℕ → Option (List Kind)
parametric_kinds = kinds_by (rows parametric_info parametric_immediates None parametric_list)

-- exceptions
abbrev pub exception_kinds : ℕ → Option (List Kind)
exception_kinds = kinds_by (rows exception_info exception_immediates None exception_list)

-- variables and memories
abbrev pub memory_kinds : ℕ → Option (List Kind)
memory_kinds = kinds_by (rows memory_info memory_immediates None memory_list)

-- constants
abbrev pub const_kinds : ℕ → Option (List Kind)
const_kinds = kinds_by (rows const_info const_immediates None const_list)

-- numbers
unfoldable pub numeric_kinds : ℕ → Option (List Kind)
numeric_kinds = kinds_by (rows numeric_info numeric_immediates None numeric_list)

-- tables and references
abbrev pub bulk_plain_kinds : ℕ → Option (List Kind)
bulk_plain_kinds = kinds_by (rows bulk_info bulk_immediates None bulk_list)

-- aggregates
abbrev pub gc_plain_kinds : ℕ → Option (List Kind)
gc_plain_kinds = kinds_by (rows gc_info gc_immediates None gc_list)

-- continuations
abbrev pub continuation_kinds : ℕ → Option (List Kind)
continuation_kinds = kinds_by (rows continuation_info continuation_immediates None continuation_list)

-- ---- codes behind 0xfb

-- aggregates
abbrev pub gc_kinds : ℕ → Option (List Kind)
gc_kinds = kinds_by (rows gc_info gc_immediates (Some 0xfb) gc_list)

-- descriptors
abbrev pub descriptor_kinds : ℕ → Option (List Kind)
descriptor_kinds = kinds_by (rows descriptor_info descriptor_immediates (Some 0xfb) descriptor_list)

-- ---- codes behind 0xfc

-- numbers
abbrev pub numeric_prefixed_kinds : ℕ → Option (List Kind)
numeric_prefixed_kinds = kinds_by (rows numeric_info numeric_immediates (Some 0xfc) numeric_list)

-- tables and bulk memory
abbrev pub bulk_kinds : ℕ → Option (List Kind)
bulk_kinds = kinds_by (rows bulk_info bulk_immediates (Some 0xfc) bulk_list)

-- ---- codes behind 0xfd

-- vectors: memories, lanes and constants
abbrev pub simd_kinds : ℕ → Option (List Kind)
simd_kinds = kinds_by (rows simd_info simd_immediates (Some 0xfd) simd_list)

-- vectors: numbers
unfoldable pub simd_numeric_kinds : ℕ → Option (List Kind)
simd_numeric_kinds = kinds_by (rows simd_numeric_info simd_numeric_immediates (Some 0xfd) simd_numeric_list)

-- ---- codes behind 0xfe

-- atomic memory accesses
abbrev pub atomic_kinds : ℕ → Option (List Kind)
atomic_kinds = kinds_by (rows atomic_info atomic_immediates (Some 0xfe) atomic_list)

-- atomic accesses of what is shared
abbrev pub shared_kinds : ℕ → Option (List Kind)
shared_kinds = kinds_by (rows shared_info shared_immediates (Some 0xfe) shared_list)
