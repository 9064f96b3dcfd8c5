-- A reference type in 25 bits. From above: whether it refers by an index, whether to that type exactly, whether it may
-- be null, and 22 bits of the index; or, without an index, whether it is shared, at bit 20, and the number of an
-- abstract type.
use Rattle.std.specs.Prelude.{◌≡◌, ℕ, ◌+◌, ◌*◌, ◌/◌, ◌%◌, ◌<◌, ◌^◌, ◌==◌, nat_lt, Bool, true, false, if◌then◌else◌}
use Rattle.wasm_types_trees.specs.Indices.{number_of}
use Rattle.wasm_types_trees.specs.Bits.{packed, unpacked}
use Rattle.wasm_types_values.specs.declared.heap.AbstractHeapType.{AbstractHeapType}
use Rattle.wasm_types_values.specs.declared.heap.AbstractHeapType.TheVariants as heap
use Rattle.wasm_types_values.specs.declared.heap.HeapType.{HeapType}
use Rattle.wasm_types_values.specs.declared.heap.HeapType.TheVariants.{Abstract, Concrete, Exact}
use Rattle.wasm_types_values.specs.Reference.{Reference}

-- the number of each abstract type among 16, which is not its byte
abbrev pub code_of : AbstractHeapType → ℕ
code_of heap.Func = 5
code_of heap.Extern = 3
code_of heap.Any = 15
code_of heap.None = 0
code_of heap.NoExtern = 2
code_of heap.NoFunc = 4
code_of heap.Eq = 13
code_of heap.Struct = 9
code_of heap.Array = 12
code_of heap.I31 = 8
code_of heap.Exn = 1
code_of heap.NoExn = 14
code_of heap.Cont = 11
code_of heap.NoCont = 10

-- the abstract type of a number
abbrev pub type_of_code : ℕ → AbstractHeapType
type_of_code n = if n == 5 then heap.Func else if n == 3 then heap.Extern else if n == 15 then heap.Any else if n == 2 then heap.NoExtern else if n ==
    4 then heap.NoFunc else if n == 13 then heap.Eq else if n == 9 then heap.Struct else if n == 12 then heap.Array else if n == 8 then heap.I31 else if
    n == 1 then heap.Exn else if n == 14 then heap.NoExn else if n == 11 then heap.Cont else if n == 10 then heap.NoCont else heap.None

-- one bit
abbrev pub bit : Bool → ℕ
bit false = 0
bit true = 1

-- by an index, and exact
abbrev pub class_of : HeapType → ℕ
class_of (Abstract shared ty) = 0
class_of (Concrete i) = 2
class_of (Exact i) = 3

-- the 22 bits below: sharedness and abstract type, or the index
abbrev pub low_bits_of : HeapType → ℕ
low_bits_of (Abstract shared ty) = 0x10_0000 * bit shared + code_of ty
low_bits_of (Concrete i) = packed i
low_bits_of (Exact i) = packed i

-- all 25 bits
abbrev pub bits_of : Reference → ℕ
bits_of r = 0x80_0000 * class_of r.heap + 0x40_0000 * bit r.nullable + low_bits_of r.heap

-- the heap type that 25 bits hold
abbrev pub heap_of_bits : ℕ → HeapType
heap_of_bits bits = if nat_lt bits 0x100_0000 then Abstract (nat_lt 0xf_ffff (bits % 0x40_0000))
    (type_of_code (bits % 0x10_0000)) else if nat_lt bits
    0x180_0000 then Concrete (unpacked (bits % 0x40_0000)) else Exact (unpacked (bits % 0x40_0000))

-- the reference that they hold
abbrev pub reference_of : ℕ → Reference
reference_of bits = record { nullable = bits / 0x40_0000 % 2 == 1; heap = heap_of_bits bits }

-- the index, if any, has a number below 2^20
abbrev pub Fits : HeapType → Type 0
Fits (Abstract shared ty) = Unit {0}
Fits (Concrete i) = number_of i < 2 ^ 20
Fits (Exact i) = number_of i < 2 ^ 20

-- these bits are those of a reference
pub record AreBits (bits : ℕ) : Type 0 where
  pub fits : Fits (heap_of_bits bits)
  pub same : bits_of (reference_of bits) ≡ bits
