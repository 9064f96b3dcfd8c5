-- Which bytes spell the types that the code has: those that spell their trees.
use Rattle.wasm_types_reader.specs.decoding.Decoder.{Grammar}
use Rattle.wasm_types_values.specs.declared.heap.HeapType.{HeapType}
use Rattle.wasm_types_values.specs.declared.value.ValType.{ValType}
use Rattle.wasm_types_values.specs.declared.value.StorageType.{StorageType}
use Rattle.wasm_types_values.specs.Reference.{Reference}
use Rattle.wasm_types_values.specs.Trees.{heap_of}
use Rattle.wasm_types_values.specs.Values.{value_of, storage_of}
use Rattle.wasm_types_values.specs.Spells.{SpellsHeap, SpellsReference, SpellsValue, SpellsStorage}

-- standard: part of SpellsHeap
-- a heap type
abbrev pub Spelled : Grammar HeapType
Spelled h text = SpellsHeap (heap_of h) text

-- standard: part of SpellsReference
-- a reference type
abbrev pub SpelledReference : Grammar Reference
SpelledReference r text = SpellsReference r.nullable (heap_of r.heap) text

-- standard: part of SpellsValue
-- a value type
abbrev pub SpelledValue : Grammar ValType
SpelledValue v text = SpellsValue (value_of v) text

-- a storage type
abbrev pub SpelledStorage : Grammar StorageType
SpelledStorage x text = SpellsStorage (storage_of x) text
