-- Laws: worked types. What these bytes are read as, what the functions answer of these types, and how they are written.
use Rattle.std.proofs.Common.{◌≡◌, ℕ, ◌++◌, List, [], ◌∷◌, refl, Bool, true, false, Some, None, lit<, arith}
use Rattle.std.specs.Prelude.{codes}
use Rattle.std.specs.Fmt.{decimal}
use Rattle.std.specs.declared.cmp.Ordering.TheVariants.{Less, Greater}
use Rattle.wasm_types_reader.specs.decoding.declared.Refusal.TheVariants.{Other}
use Rattle.wasm_types_reader.specs.decoding.Decoder.{State, Done, Short, Fault}
use Rattle.wasm_types_reader.specs.decoding.Leb.{unsigned, signed, last_bits}
use Rattle.wasm_types_reader.specs.settings.Settings.{no_features}
use Rattle.wasm_types_trees.specs.declared.index.UnpackedIndex.TheVariants.{Module, RecGroup}
use Rattle.wasm_types_values.specs.declared.heap.AbstractHeapType.{AbstractHeapType}
use Rattle.wasm_types_values.specs.declared.heap.AbstractHeapType.TheVariants as heap
use Rattle.wasm_types_values.specs.declared.heap.HeapType.{HeapType}
use Rattle.wasm_types_values.specs.declared.heap.HeapType.TheVariants.{Abstract, Concrete, Exact}
use Rattle.wasm_types_values.specs.declared.value.ValType.{ValType}
use Rattle.wasm_types_values.specs.declared.value.ValType.TheVariants.{I32, I64, F32, F64, V128, Ref}
use Rattle.wasm_types_values.specs.declared.value.StorageType.{StorageType}
use Rattle.wasm_types_values.specs.declared.value.StorageType.TheVariants.{I8, I16, Val}
use Rattle.wasm_types_values.specs.Reference.{Reference}
use Rattle.wasm_types_values.specs.Bits.{Fits}
use Rattle.wasm_types_values.specs.Kinds.{is_concrete, is_exact, IsOf, index_of, shared_of, reference_cmp}
use Rattle.wasm_types_values.specs.ValueKinds.{is_reference, reference_in, is_defaultable_type, is_packed_type, unpacked_type}
use Rattle.wasm_types_values.specs.Text.{reference_text, wat_text}
use Rattle.wasm_types_values.specs.ValueText.{value_text, storage_text}
use Rattle.wasm_types_values.specs.Decode.{abstract_heap_type, concrete_heap_type, exact_heap_type, heap_type_after, heap_type, reference, reference_after, reference_type}
use Rattle.wasm_types_values.specs.DecodeValues.{value_type_after, value_type, storage_type_after, storage_type}

-- a reader of these bytes
abbrev pub start_of : List ℕ → State
start_of bytes = record { rest = bytes; place = 0; settings = no_features; start = 0 }

-- behind so many bytes, the last of them
abbrev pub behind : ℕ → State
behind n = record { rest = []; place = n; settings = no_features; start = 0 }

-- ---- heap types

-- one byte alone is this abstract type
abbrev IsByteOf : ℕ → AbstractHeapType → Type 0
IsByteOf b ty = heap_type (start_of (b ∷ [])) ≡ Done (Abstract false ty) (behind 1)

abbrev IsRead : List ℕ → HeapType → ℕ → Type 0
IsRead bytes h n = heap_type (start_of bytes) ≡ Done h (behind n)

-- these bytes are refused at this offset
abbrev IsNoHeapType : List ℕ → ℕ → Type 0
IsNoHeapType bytes offset = heap_type (start_of bytes) ≡ Fault Other offset

abbrev pub AbstractBytesAreRead : Type 0
AbstractBytesAreRead = IsByteOf 0x68 heap.Cont × IsByteOf 0x69 heap.Exn × IsByteOf 0x6a heap.Array × IsByteOf 0x6b heap.Struct × IsByteOf 0x6c
    heap.I31 × IsByteOf 0x6d heap.Eq × IsByteOf 0x6e heap.Any
    × IsByteOf 0x6f heap.Extern × IsByteOf 0x70 heap.Func × IsByteOf 0x71 heap.None × IsByteOf 0x72 heap.NoExtern × IsByteOf 0x73 heap.NoFunc ×
    IsByteOf 0x74 heap.NoExn × IsByteOf 0x75 heap.NoCont
    × IsNoHeapType (0x67 ∷ []) 0 × IsNoHeapType (0x76 ∷ []) 0 × IsNoHeapType (0x7f ∷ []) 0 × IsNoHeapType (0x40 ∷ []) 0
    × IsRead (0x65 ∷ 0x70 ∷ []) (Abstract true heap.Func) 2 × IsNoHeapType (0x65 ∷ 0x40 ∷ []) 1

pub abstract_bytes : AbstractBytesAreRead
unfolding heap_type heap_type_after abstract_heap_type exact_heap_type concrete_heap_type
abstract_bytes = (refl, refl, refl, refl, refl, refl, refl, refl, refl, refl, refl, refl, refl, refl, refl, refl, refl, refl, refl, refl)

-- an index is a number with a sign, of one byte or more, below 2^20; behind 0x62 it has no sign
abbrev pub IndicesAreRead : Type 0
IndicesAreRead = IsRead (0x00 ∷ []) (Concrete (Module 0)) 1 × IsRead (0x80 ∷ 0x00 ∷ []) (Concrete (Module 0)) 2 × IsRead (0xff ∷ 0xff ∷ 0x3f ∷ []) (Concrete (Module 1048575)) 3
    × IsNoHeapType (0x80 ∷ 0x80 ∷ 0xc0 ∷ 0x00 ∷ []) 4 × IsNoHeapType (0xf0 ∷ 0x7f ∷ []) 0 × IsNoHeapType (0xff ∷ 0xff ∷ 0xff ∷ 0xff ∷ 0x0f ∷ []) 5
    × IsRead (0x62 ∷ 0xff ∷ 0xff ∷ 0x3f ∷ []) (Exact (Module 1048575)) 4 × IsNoHeapType (0x62 ∷ 0x80 ∷ 0x80 ∷ 0xc0 ∷ 0x00 ∷ []) 1 × (heap_type (start_of []) ≡ Short 0 1)

pub index_bytes : IndicesAreRead
unfolding heap_type heap_type_after abstract_heap_type exact_heap_type concrete_heap_type signed unsigned last_bits
index_bytes = (refl, refl, refl, refl, refl, refl, refl, refl, refl)

-- ---- reference types

abbrev IsReference : List ℕ → Bool → HeapType → ℕ → Type 0
IsReference bytes nullable h n = reference_type (start_of bytes) ≡ Done (reference nullable h) (behind n)

abbrev pub ReferencesAreRead : Type 0
ReferencesAreRead = IsReference (0x70 ∷ []) true (Abstract false heap.Func) 1 × IsReference (0x63 ∷ 0x70 ∷ []) true (Abstract false heap.Func) 2 ×
    IsReference (0x64 ∷ 0x70 ∷ []) false (Abstract false heap.Func) 2
    × IsReference (0x65 ∷ 0x6e ∷ []) true (Abstract true heap.Any) 2 × IsReference (0x64 ∷ 0xff ∷ 0xff ∷ 0x3f ∷ []) false (Concrete (Module 1048575)) 4
    × (reference_type (start_of (0x64 ∷ 0x80 ∷ 0x80 ∷ 0xc0 ∷ 0x00 ∷ [])) ≡ Fault Other 5) × (reference_type (start_of (0x62 ∷ [])) ≡ Fault Other 0) ×
    (reference_type (start_of (0x63 ∷ [])) ≡ Short 1 1)

pub reference_bytes : ReferencesAreRead
unfolding reference_type reference_after heap_type heap_type_after abstract_heap_type exact_heap_type concrete_heap_type signed unsigned last_bits
reference_bytes = (refl, refl, refl, refl, refl, refl, refl, refl)

-- ---- value types and storage types

abbrev IsValue : ℕ → ValType → Type 0
IsValue b v = value_type (start_of (b ∷ [])) ≡ Done v (behind 1)

abbrev IsStorage : ℕ → StorageType → Type 0
IsStorage b x = storage_type (start_of (b ∷ [])) ≡ Done x (behind 1)

abbrev pub ValuesAreRead : Type 0
ValuesAreRead = IsValue 0x7f I32 × IsValue 0x7e I64 × IsValue 0x7d F32 × IsValue 0x7c F64 × IsValue 0x7b V128 × IsValue 0x70 (Ref (reference true (Abstract false heap.Func)))
    × (value_type (start_of (0x7a ∷ [])) ≡ Fault Other 0) × (value_type (start_of (0x40 ∷ [])) ≡ Fault Other 0) ×
    (value_type (start_of (0x64 ∷ 0x69 ∷ [])) ≡ Done (Ref (reference false (Abstract false heap.Exn))) (behind 2))
    × IsStorage 0x78 I8 × IsStorage 0x77 I16 × IsStorage 0x7f (Val I32) × (storage_type (start_of (0x76 ∷ [])) ≡ Fault Other 0) ×
    (value_type (start_of (0x78 ∷ [])) ≡ Fault Other 0)

pub value_bytes : ValuesAreRead
unfolding value_type value_type_after storage_type storage_type_after reference_after heap_type heap_type_after abstract_heap_type exact_heap_type concrete_heap_type
value_bytes = (refl, refl, refl, refl, refl, refl, refl, refl, refl, refl, refl, refl, refl, refl)

-- ---- what the functions answer of them

abbrev some_func : Reference
some_func = reference true (Abstract false heap.Func)

abbrev third : HeapType
third = Concrete (Module 3)

abbrev pub KindsAreTold : Type 0
KindsAreTold = (is_concrete third ≡ true) × (is_concrete (Exact (Module 3)) ≡ true) × (is_concrete (Abstract false heap.Func) ≡ false) ×
    (is_exact (Exact (Module 3)) ≡ true) × (is_exact third ≡ false)
    × (index_of third ≡ Some (Module 3)) × (index_of (Abstract true heap.Any) ≡ None) × IsOf heap.Func (Abstract true heap.Func) ×
    (IsOf heap.Func (Abstract false heap.NoFunc) → ⊥) × (IsOf heap.Func third → ⊥)
    × (shared_of some_func ≡ Some (reference true (Abstract true heap.Func))) × (shared_of (reference true third) ≡ None) × Fits
    (Exact (Module 1048575)) × (Fits (Concrete (Module 1048576)) → ⊥)
    × (reference_cmp (reference false third) (reference true third) ≡ Less) × (reference_cmp (reference true third) some_func ≡ Greater)
    × (is_reference (Ref some_func) ≡ true) × (is_reference V128 ≡ false) × (reference_in (Ref some_func) ≡ Some some_func) × (reference_in I32 ≡ None)
    × (is_defaultable_type (Ref some_func) ≡ true) × (is_defaultable_type (Ref (reference false third)) ≡ false) × (is_defaultable_type V128 ≡ true)
    × (is_packed_type I16 ≡ true) × (is_packed_type (Val I32) ≡ false) × (unpacked_type I8 ≡ I32) × (unpacked_type (Val F64) ≡ F64)

pub kinds_told : KindsAreTold
kinds_told = (
  refl,
  refl,
  refl,
  refl,
  refl,
  refl,
  refl,
  refl,
  (λ e. cc),
  (λ h. h),
  refl,
  refl,
  lit< tt,
  (λ h. omega (arith, h)),
  refl,
  refl,
  refl,
  refl,
  refl,
  refl,
  refl,
  refl,
  refl,
  refl,
  refl,
  refl,
  refl,
)

-- ---- how they are written

abbrev pub TextsAreWritten : Type 0
TextsAreWritten = (reference_text some_func ≡ codes "funcref") × (reference_text (reference false (Abstract false heap.NoExn)) ≡ codes "(ref noexn)")
    × (reference_text (reference true (Abstract true heap.Eq)) ≡ codes "(ref null (shared eq))")
    × (reference_text (reference true (Exact (Module 7))) ≡ codes "(ref null (exact (module " ++ decimal 7 ++ codes ")" ++ codes "))") ×
    (reference_text (reference false (Concrete (RecGroup 2))) ≡ codes "(ref (recgroup " ++ decimal 2 ++ codes ")" ++ codes ")")
    × (wat_text (reference true third) ≡ codes "(ref null $type)") × (wat_text (reference false third) ≡ codes "(ref $type)") ×
    (value_text V128 ≡ codes "v128") × (storage_text I8 ≡ codes "i8") × (storage_text (Val I64) ≡ codes "i64")

pub texts_written : TextsAreWritten
texts_written = (refl, refl, refl, refl, refl, refl, refl, refl, refl, refl)
