-- The addresses of tables and memories, and the pages of a memory.
use Rattle.std.specs.Prelude.{ℕ, Bool, true, false, Option, Some, None}
use Rattle.wasm_types_values.specs.declared.value.ValType.{ValType}
use Rattle.wasm_types_values.specs.declared.value.ValType.TheVariants.{I32, I64}

-- whether of 64 bits (WebAssembly 3.0, structure, address types)
abbrev pub address_type : Bool → ValType
address_type true = I64
address_type false = I32

-- the logarithm of the bytes in a page, which are 65,536 unless it is written
abbrev pub page_bits : Option ℕ → ℕ
page_bits (Some n) = n
page_bits None = 16
