-- The plain trees of value types and of storage types.
use Rattle.wasm_types_trees.specs.declared.index.UnpackedIndex.{UnpackedIndex}
use Rattle.wasm_types_trees.specs.Types as tree
use Rattle.wasm_types_trees.specs.Types.{ValueOf, StorageOf}
use Rattle.wasm_types_values.specs.Trees.{heap_of}
use Rattle.wasm_types_values.specs.declared.value.ValType.{ValType}
use Rattle.wasm_types_values.specs.declared.value.ValType.TheVariants.{I32, I64, F32, F64, V128, Ref}
use Rattle.wasm_types_values.specs.declared.value.StorageType.{StorageType}
use Rattle.wasm_types_values.specs.declared.value.StorageType.TheVariants.{I8, I16, Val}

-- a value type as a tree
abbrev pub value_of : ValType → ValueOf UnpackedIndex
value_of I32 = tree.number tree.i32
value_of I64 = tree.number tree.i64
value_of F32 = tree.number tree.f32
value_of F64 = tree.number tree.f64
value_of V128 = tree.number tree.v128
value_of (Ref r) = tree.ref r.nullable (heap_of r.heap)

-- a storage type as a tree
abbrev pub storage_of : StorageType → StorageOf UnpackedIndex
storage_of I8 = tree.i8
storage_of I16 = tree.i16
storage_of (Val v) = tree.value (value_of v)
