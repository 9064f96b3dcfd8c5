-- How the bytes of heap types and reference types are read.
use Rattle.std.specs.Prelude.{ℕ, ◌==◌, List, [], ◌∷◌, Option, Some, None, Bool, true, false, nat_lt, if◌then◌else◌, ℤ, pos, negsuc}
use Rattle.wasm_types_reader.specs.decoding.declared.Refusal.TheVariants.{Other}
use Rattle.wasm_types_reader.specs.decoding.Decoder.{Decoder, ◌>>=◌, pure, refuse, byte, look}
use Rattle.wasm_types_reader.specs.decoding.Lists.{refuse_at}
use Rattle.wasm_types_reader.specs.decoding.Leb.{u32, s33}
use Rattle.wasm_types_trees.specs.declared.index.UnpackedIndex.TheVariants.{Module}
use Rattle.wasm_types_values.specs.declared.heap.AbstractHeapType.{AbstractHeapType}
use Rattle.wasm_types_values.specs.declared.heap.AbstractHeapType.TheVariants as heap
use Rattle.wasm_types_values.specs.declared.heap.HeapType.{HeapType}
use Rattle.wasm_types_values.specs.declared.heap.HeapType.TheVariants.{Abstract, Concrete, Exact}
use Rattle.wasm_types_values.specs.Reference.{Reference}

-- what stands for a number in the list
abbrev pub find : {A : Type 0} → List (ℕ × A) → ℕ → Option A
find [] b = None
find (c ∷ cs) b = if b == c.0 then Some c.1 else find cs b

-- each abstract type by its byte
abbrev pub abstract_types : List (ℕ × AbstractHeapType)
abstract_types = (0x68, heap.Cont) ∷ (0x69, heap.Exn) ∷ (0x6a, heap.Array) ∷ (0x6b, heap.Struct) ∷ (0x6c, heap.I31) ∷ (0x6d, heap.Eq)
    ∷ (0x6e, heap.Any) ∷ (0x6f, heap.Extern) ∷ (0x70, heap.Func) ∷ (0x71, heap.None) ∷ (0x72, heap.NoExtern) ∷ (0x73, heap.NoFunc) ∷ (0x74, heap.NoExn)
    ∷ (0x75, heap.NoCont) ∷ []

-- the abstract type of a byte, if it has one
abbrev pub type_of_byte : ℕ → Option AbstractHeapType
type_of_byte b = find abstract_types b

-- f of the type, if the byte that was read has one
abbrev pub with_type : {A : Type 0} → Option AbstractHeapType → (AbstractHeapType → A) → Decoder A
with_type (Some ty) f = pure (f ty)
with_type None f = refuse Other 1

-- an abstract type behind the mark of a shared one
unfoldable pub abstract_heap_type : Decoder AbstractHeapType
abstract_heap_type = byte >>= λ b. with_type (type_of_byte b) (λ ty. ty)

-- a type of the module, by an index that begins at this offset: one past the limit is refused after it
abbrev pub concrete_from : ℕ → ℤ → Decoder HeapType
concrete_from place (pos n) = if nat_lt n 0x10_0000 then pure (Concrete (Module n)) else refuse Other 0
concrete_from place (negsuc n) = refuse_at Other place

-- exactly a type of the module, by an index that begins at this offset
abbrev pub exact_from : ℕ → ℕ → Decoder HeapType
exact_from place n = if nat_lt n 0x10_0000 then pure (Exact (Module n)) else refuse_at Other place

-- a type of the module, by its index with a sign
unfoldable pub concrete_heap_type : Decoder HeapType
concrete_heap_type s = (s33 >>= concrete_from s.place) s

-- exactly a type of the module, behind the mark of an exact type
unfoldable pub exact_heap_type : Decoder HeapType
exact_heap_type s = (u32 >>= exact_from s.place) s

-- what follows a first byte that begins no index
unfoldable pub heap_type_after : ℕ → Decoder HeapType
heap_type_after b =
    if b == 0x65 then (abstract_heap_type >>= λ ty. pure (Abstract true ty))
    else (if b == 0x62 then exact_heap_type else with_type (type_of_byte b) (Abstract false))

-- a number at least 0 is of one byte below 0x40, or of several
abbrev pub begins_index : ℕ → Bool
begins_index b = if nat_lt b 0x40 then true else nat_lt 0x7f b

-- a heap type by its first byte, which is looked at
abbrev pub heap_type_at : ℕ → Decoder HeapType
heap_type_at b = if begins_index b then concrete_heap_type else (byte >>= heap_type_after)

-- a heap type from its first byte on
unfoldable pub heap_type : Decoder HeapType
heap_type = look heap_type_at

-- a reference of its parts
abbrev pub reference : Bool → HeapType → Reference
reference nullable h = record { nullable = nullable; heap = h }

-- a reference behind the byte that makes it one
abbrev pub long_reference : Bool → Decoder Reference
long_reference nullable = heap_type >>= λ h. pure (reference nullable h)

-- a reference by its first byte: in full, or an abstract type alone, which is nullable
unfoldable pub reference_after : ℕ → Decoder Reference
reference_after b =
    if b == 0x64 then long_reference false
    else (if b == 0x63 then long_reference true
    else (if b == 0x65 then (abstract_heap_type >>= λ ty. pure (reference true (Abstract true ty)))
    else with_type (type_of_byte b) (λ ty. reference true (Abstract false ty))))

-- a reference from its first byte on
unfoldable pub reference_type : Decoder Reference
reference_type = byte >>= reference_after
