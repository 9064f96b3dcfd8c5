-- The bytes of types (WebAssembly 3.0, binary format, types; shared, exact and continuation types by their proposals).
use Rattle.std.specs.Prelude.{◌≡◌, ℕ, ◌<◌, ◌^◌, ◌⊎◌, List, [], ◌∷◌, Bool, true, false, pos}
use Rattle.wasm_types_reader.specs.decoding.Leb.{IsUnsigned, IsSigned}
use Rattle.wasm_types_trees.specs.declared.index.UnpackedIndex.{UnpackedIndex}
use Rattle.wasm_types_trees.specs.declared.index.UnpackedIndex.TheVariants.{Module, RecGroup, Id}
use Rattle.wasm_types_trees.specs.Types as tree
use Rattle.wasm_types_trees.specs.Types.{Number, Abstract, HeapOf, ValueOf, StorageOf}

-- standard: binary-numtype: numtype
-- standard: binary-vectype: vectype
-- numtype and vectype: a byte each (binary format, types, number types and vector types)
abbrev pub number_byte : Number → ℕ
number_byte tree.i32 = 0x7f
number_byte tree.i64 = 0x7e
number_byte tree.f32 = 0x7d
number_byte tree.f64 = 0x7c
number_byte tree.v128 = 0x7b

-- standard: binary-heaptype: absheaptype (differs: cont and nocont too)
-- absheaptype: a byte each (binary format, types, heap types)
abbrev pub abstract_byte : Abstract → ℕ
abstract_byte tree.cont = 0x68
abstract_byte tree.exn = 0x69
abstract_byte tree.array = 0x6a
abstract_byte tree.struct = 0x6b
abstract_byte tree.i31 = 0x6c
abstract_byte tree.eq = 0x6d
abstract_byte tree.any = 0x6e
abstract_byte tree.extern = 0x6f
abstract_byte tree.func = 0x70
abstract_byte tree.none = 0x71
abstract_byte tree.noextern = 0x72
abstract_byte tree.nofunc = 0x73
abstract_byte tree.noexn = 0x74
abstract_byte tree.nocont = 0x75

-- standard: binary-heaptype: x:s33, an index that is not negative (differs: below 2^20)
-- a type of the module, below 2^20, as a number of 33 bits with a sign
abbrev pub SpellsIndex : UnpackedIndex → List ℕ → Type 0
SpellsIndex (Module n) text = IsSigned 33 (pos n) text × (n < 2 ^ 20)
SpellsIndex (RecGroup n) text = ⊥
SpellsIndex (Id i) text = ⊥

-- standard: binary-typeidx: typeidx (differs: in types, below 2^20)
-- the same without a sign
abbrev pub SpellsExactIndex : UnpackedIndex → List ℕ → Type 0
SpellsExactIndex (Module n) text = IsUnsigned 32 n text × (n < 2 ^ 20)
SpellsExactIndex (RecGroup n) text = ⊥
SpellsExactIndex (Id i) text = ⊥

-- standard: binary-heaptype: heaptype (differs: shared and exact types too)
-- heaptype (binary format, types, heap types): a shared type and an exact one each behind a mark, by their proposals
abbrev pub SpellsHeap : HeapOf UnpackedIndex → List ℕ → Type 0
SpellsHeap (tree.abstract false a) text = text ≡ abstract_byte a ∷ []
SpellsHeap (tree.abstract true a) text = text ≡ 0x65 ∷ abstract_byte a ∷ []
SpellsHeap (tree.concrete i) text = SpellsIndex i text
SpellsHeap (tree.exact i) text = (rest : List ℕ) × (text ≡ 0x62 ∷ rest) × SpellsExactIndex i rest

-- standard: binary-reftype: ref null ht, ref ht: the first byte
-- the byte before a heap type that makes it a reference, nullable (true) or not (binary format, types, reference types)
abbrev pub null_byte : Bool → ℕ
null_byte true = 0x63
null_byte false = 0x64

-- standard: binary-reftype: absheaptype, the short form
-- an abstract type alone is the nullable reference to it
abbrev pub IsShort : Bool → HeapOf UnpackedIndex → List ℕ → Type 0
IsShort true (tree.abstract s a) text = SpellsHeap (tree.abstract s a) text
IsShort true (tree.concrete i) text = ⊥
IsShort true (tree.exact i) text = ⊥
IsShort false h text = ⊥

-- standard: binary-reftype: ref null ht, ref ht
-- that byte, and the heap type
abbrev pub IsLong : Bool → HeapOf UnpackedIndex → List ℕ → Type 0
IsLong b h text = (rest : List ℕ) × (text ≡ null_byte b ∷ rest) × SpellsHeap h rest

-- standard: binary-reftype: reftype
-- reftype: the long form or the short one (binary format, types, reference types)
abbrev pub SpellsReference : Bool → HeapOf UnpackedIndex → List ℕ → Type 0
SpellsReference b h text = IsLong b h text ⊎ IsShort b h text

-- standard: binary-valtype: valtype
-- valtype (binary format, types, value types)
abbrev pub SpellsValue : ValueOf UnpackedIndex → List ℕ → Type 0
SpellsValue (tree.number n) text = text ≡ number_byte n ∷ []
SpellsValue (tree.ref b h) text = SpellsReference b h text

-- standard: binary-storagetype: storagetype
-- standard: binary-packtype: packtype
-- storagetype: a packed type or a value type
abbrev pub SpellsStorage : StorageOf UnpackedIndex → List ℕ → Type 0
SpellsStorage tree.i8 text = text ≡ 0x78 ∷ []
SpellsStorage tree.i16 text = text ≡ 0x77 ∷ []
SpellsStorage (tree.value v) text = SpellsValue v text
