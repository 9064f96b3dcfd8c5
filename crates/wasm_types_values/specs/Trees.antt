-- The plain trees of heap types.
use Rattle.wasm_types_trees.specs.declared.index.UnpackedIndex.{UnpackedIndex}
use Rattle.wasm_types_trees.specs.Types as tree
use Rattle.wasm_types_trees.specs.Types.{Abstract, HeapOf}
use Rattle.wasm_types_values.specs.declared.heap.AbstractHeapType.{AbstractHeapType}
use Rattle.wasm_types_values.specs.declared.heap.AbstractHeapType.TheVariants as heap
use Rattle.wasm_types_values.specs.declared.heap.HeapType.{HeapType}
use Rattle.wasm_types_values.specs.declared.heap.HeapType.TheVariants.{Abstract as AbstractType, Concrete, Exact}

-- an abstract type as a tree
abbrev pub abstract_of : AbstractHeapType → Abstract
abstract_of heap.Func = tree.func
abstract_of heap.Extern = tree.extern
abstract_of heap.Any = tree.any
abstract_of heap.None = tree.none
abstract_of heap.NoExtern = tree.noextern
abstract_of heap.NoFunc = tree.nofunc
abstract_of heap.Eq = tree.eq
abstract_of heap.Struct = tree.struct
abstract_of heap.Array = tree.array
abstract_of heap.I31 = tree.i31
abstract_of heap.Exn = tree.exn
abstract_of heap.NoExn = tree.noexn
abstract_of heap.Cont = tree.cont
abstract_of heap.NoCont = tree.nocont

-- a heap type as a tree
abbrev pub heap_of : HeapType → HeapOf UnpackedIndex
heap_of (AbstractType shared ty) = tree.abstract shared (abstract_of ty)
heap_of (Concrete i) = tree.concrete i
heap_of (Exact i) = tree.exact i
