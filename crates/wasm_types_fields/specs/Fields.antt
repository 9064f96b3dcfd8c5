-- Rules: the plain trees of a field, and of arrays, structs, functions and continuations.
use Rattle.std.specs.Prelude.{List, map}
use Rattle.wasm_types_values.specs.types_trees.declared.index.UnpackedIndex.{UnpackedIndex}
use Rattle.wasm_types_values.specs.types_trees.Types as tree
use Rattle.wasm_types_values.specs.types_trees.Types.{FieldOf, InnerOf}
use Rattle.wasm_types_values.specs.declared.value.ValType.{ValType}
use Rattle.wasm_types_values.specs.Values.{value_of, storage_of}
use Rattle.wasm_types_fields.specs.declared.field.FieldType.{FieldType}
use Rattle.wasm_types_fields.specs.declared.field.ArrayType.{ArrayType}
use Rattle.wasm_types_fields.specs.declared.field.StructType.{StructType}
use Rattle.wasm_types_fields.specs.declared.func.FuncType.{FuncType}
use Rattle.wasm_types_fields.specs.declared.cont.ContType.{ContType}

-- a field as a tree
abbrev pub field_of : FieldType → FieldOf UnpackedIndex
field_of x = record { storage = storage_of x.element_type; mutable = x.mutable }

-- an array as a tree
abbrev pub array_tree : ArrayType → InnerOf UnpackedIndex
array_tree a = tree.array_of (field_of a.0)

-- a struct as a tree
abbrev pub struct_tree : StructType → InnerOf UnpackedIndex
struct_tree s = tree.struct_of (map field_of s.fields.items)

-- a function of these parameters and results
abbrev pub signature_tree : List ValType → List ValType → InnerOf UnpackedIndex
signature_tree params results = tree.function (map value_of params) (map value_of results)

-- a function type as a tree
abbrev pub function_tree : FuncType → InnerOf UnpackedIndex
function_tree f = signature_tree f.params f.results

-- a continuation as a tree
abbrev pub continuation_tree : ContType → InnerOf UnpackedIndex
continuation_tree c = tree.continuation c.0
