-- What `==` and the order of types mean.
pub use Rattle.wasm_types_reader.specs.Laws.{reaches_self, reaches_then}
unfoldable pub use Rattle.wasm_types_reader.specs.Laws.{listed_within, repeated}
use Rattle.std.proofs.Common.{◌≡◌, ◌↔◌, ℕ, IsTrue}
use Rattle.std.specs.Ordering.{nat_cmp}
use Rattle.wasm_types_values.specs.declared.heap.AbstractHeapType.{AbstractHeapType}
use Rattle.wasm_types_values.specs.declared.heap.AbstractHeapType.TheVariants as heap
use Rattle.wasm_types_values.specs.declared.heap.HeapType.{HeapType}
use Rattle.wasm_types_values.specs.declared.value.ValType.{ValType}
use Rattle.wasm_types_values.specs.declared.value.StorageType.{StorageType}
use Rattle.wasm_types_values.specs.contracts.heap.AbstractHeapTypePartialEq.TheImpl as abstract_type
use Rattle.wasm_types_values.specs.contracts.heap.AbstractHeapTypeOrd.TheImpl as abstract_order
use Rattle.wasm_types_values.specs.contracts.heap.HeapTypePartialEq.TheImpl as heap_type
use Rattle.wasm_types_values.specs.contracts.value.ValTypePartialEq.TheImpl as value_type
use Rattle.wasm_types_values.specs.contracts.value.StorageTypePartialEq.TheImpl as storage_type
use Rattle.wasm_types_values.specs.Reference.{Reference}
use Rattle.wasm_types_values.specs.Kinds.{reference_eq}

-- `==` of each type holds of a type and itself alone
abbrev pub AbstractEqualityIsIdentity : Type 0
AbstractEqualityIsIdentity = (a b : AbstractHeapType) → IsTrue (abstract_type.ghosts.eq a b) ↔ (a ≡ b)

abbrev pub HeapEqualityIsIdentity : Type 0
HeapEqualityIsIdentity = (a b : HeapType) → IsTrue (heap_type.ghosts.eq a b) ↔ (a ≡ b)

abbrev pub ReferenceEqualityIsIdentity : Type 0
ReferenceEqualityIsIdentity = (a b : Reference) → IsTrue (reference_eq a b) ↔ (a ≡ b)

abbrev pub ValueEqualityIsIdentity : Type 0
ValueEqualityIsIdentity = (a b : ValType) → IsTrue (value_type.ghosts.eq a b) ↔ (a ≡ b)

abbrev pub StorageEqualityIsIdentity : Type 0
StorageEqualityIsIdentity = (a b : StorageType) → IsTrue (storage_type.ghosts.eq a b) ↔ (a ≡ b)

-- the place of each abstract type among them, and their order by it
abbrev pub place_of : AbstractHeapType → ℕ
place_of heap.Func = 0
place_of heap.Extern = 1
place_of heap.Any = 2
place_of heap.None = 3
place_of heap.NoExtern = 4
place_of heap.NoFunc = 5
place_of heap.Eq = 6
place_of heap.Struct = 7
place_of heap.Array = 8
place_of heap.I31 = 9
place_of heap.Exn = 10
place_of heap.NoExn = 11
place_of heap.Cont = 12
place_of heap.NoCont = 13

abbrev pub AbstractTypesAreOrderedAsDeclared : Type 0
AbstractTypesAreOrderedAsDeclared = (a b : AbstractHeapType) → abstract_order.ghosts.cmp a b ≡ nat_cmp (place_of a) (place_of b)
