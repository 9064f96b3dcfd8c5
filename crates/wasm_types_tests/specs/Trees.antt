-- Types as plain trees, and references as their bits, case by case (WebAssembly 3.0, structure, types).
use Rattle.std.specs.Prelude.{◌≡◌, Bool, true, false, List, [], ◌∷◌, map}
use Rattle.wasm_types.specs.trees.declared.index.UnpackedIndex.TheVariants.{Module, RecGroup, Id}
use Rattle.wasm_types.specs.trees.Types as tree
use Rattle.wasm_types.specs.values.declared.heap.AbstractHeapType.{AbstractHeapType}
use Rattle.wasm_types.specs.values.declared.heap.AbstractHeapType.TheVariants as heap
use Rattle.wasm_types.specs.values.declared.heap.HeapType.TheVariants.{Abstract, Concrete, Exact}
use Rattle.wasm_types.specs.values.declared.value.ValType.TheVariants.{I32, I64, F32, F64, V128, Ref}
use Rattle.wasm_types.specs.values.declared.value.StorageType.TheVariants.{I8, I16, Val}
use Rattle.wasm_types.specs.values.Reference.{Reference}
use Rattle.wasm_types.specs.values.Trees.{abstract_of, heap_of}
use Rattle.wasm_types.specs.values.Values.{value_of, storage_of}
use Rattle.wasm_types.specs.values.Kinds.{reference_eq}
use Rattle.wasm_types.specs.values.Bits.{bits_of, reference_of, AreBits}
use Rattle.wasm_types.specs.values.Constants.{references}
use Rattle.wasm_types.specs.fields.declared.field.FieldType.{FieldType}
use Rattle.wasm_types.specs.fields.declared.field.StructType.{StructType}
use Rattle.wasm_types.specs.fields.Fields.{field_of, array_tree, struct_tree, function_tree, continuation_tree}

-- a reference to a type that is not shared, nullable (true) or not
abbrev pub to : Bool → AbstractHeapType → Reference
to nullable ty = record { nullable = nullable; heap = Abstract false ty }

-- a reference to the fourth type of a module
abbrev pub to_fourth : Reference
to_fourth = record { nullable = false; heap = Concrete (Module 3) }

-- the abstract heap types
abbrev pub abstract_types : List AbstractHeapType
abstract_types = heap.Func ∷ heap.Extern ∷ heap.Any ∷ heap.Eq ∷ heap.Struct ∷ heap.Array ∷ heap.I31 ∷ heap.Exn ∷ heap.Cont ∷ heap.None ∷ heap.NoFunc
    ∷ heap.NoExtern ∷ heap.NoExn ∷ heap.NoCont ∷ []

-- a field of bytes that may be written, and one of integers that may not
abbrev pub octet : FieldType
octet = record { element_type = I8; mutable = true }

abbrev pub number : FieldType
number = record { element_type = Val I32; mutable = false }

-- each type as its tree
pub record TreeRows : Type 0 where
  pub abstracts : map abstract_of abstract_types ≡ tree.func ∷ tree.extern ∷ tree.any ∷ tree.eq ∷ tree.struct ∷ tree.array ∷ tree.i31 ∷ tree.exn
      ∷ tree.cont ∷ tree.none ∷ tree.nofunc ∷ tree.noextern ∷ tree.noexn ∷ tree.nocont ∷ []
  pub shared : heap_of (Abstract true heap.Eq) ≡ tree.abstract true tree.eq
  pub not_shared : heap_of (Abstract false heap.Eq) ≡ tree.abstract false tree.eq
  pub by_index : heap_of (Concrete (Module 3)) ≡ tree.concrete (Module 3)
  pub exactly : heap_of (Exact (RecGroup 3)) ≡ tree.exact (RecGroup 3)
  pub numbers : map value_of (I32 ∷ I64 ∷ F32 ∷ F64 ∷ V128 ∷ []) ≡ tree.number tree.i32 ∷ tree.number tree.i64 ∷ tree.number tree.f32 ∷ tree.number tree.f64
      ∷ tree.number tree.v128 ∷ []
  pub nullable : value_of (Ref (to true heap.Func)) ≡ tree.ref true (tree.abstract false tree.func)
  pub not_nullable : value_of (Ref to_fourth) ≡ tree.ref false (tree.concrete (Module 3))
  pub stored : map storage_of (I8 ∷ I16 ∷ Val I64 ∷ []) ≡ tree.i8 ∷ tree.i16 ∷ tree.value (tree.number tree.i64) ∷ []
  pub written : field_of octet ≡ record { storage = tree.i8; mutable = true }
  pub not_written : field_of number ≡ record { storage = tree.value (tree.number tree.i32); mutable = false }
  pub array : array_tree (record { 0 = octet }) ≡ tree.array_of (record { storage = tree.i8; mutable = true })
  pub struct : (s : StructType) → s.fields.items ≡ octet ∷ number ∷ [] → struct_tree s ≡ tree.struct_of (record { storage = tree.i8; mutable = true }
      ∷ record { storage = tree.value (tree.number tree.i32); mutable = false } ∷ [])
  pub function : function_tree (record { params = I32 ∷ F64 ∷ []; results = I64 ∷ [] }) ≡ tree.function (tree.number tree.i32 ∷ tree.number tree.f64 ∷ [])
      (tree.number tree.i64 ∷ [])
  pub continuation : continuation_tree (record { 0 = Module 5 }) ≡ tree.continuation (Module 5)

-- a reference in 25 bits and back, and `==` of references
pub record BitRows : Type 0 where
  pub codes : map (λ a. bits_of (to false a)) abstract_types ≡ 5 ∷ 3 ∷ 15 ∷ 13 ∷ 9 ∷ 12 ∷ 8 ∷ 1 ∷ 11 ∷ 0 ∷ 4 ∷ 2 ∷ 14 ∷ 10 ∷ []
  pub null : bits_of (to true heap.Func) ≡ 0x40_0005
  pub shared : bits_of (record { nullable = false; heap = Abstract true heap.Func }) ≡ 0x10_0005
  pub by_index : bits_of to_fourth ≡ 0x100_0003
  pub of_group : bits_of (record { nullable = true; heap = Concrete (RecGroup 3) }) ≡ 0x150_0003
  pub exactly : bits_of (record { nullable = true; heap = Exact (Id (record { 0 = 3 })) }) ≡ 0x1e0_0003
  pub codes_again : map (λ n. (reference_of n).heap) (5 ∷ 3 ∷ 15 ∷ 13 ∷ 9 ∷ 12 ∷ 8 ∷ 1 ∷ 11 ∷ 0 ∷ 4 ∷ 2 ∷ 14 ∷ 10 ∷ []) ≡ map (Abstract false) abstract_types
  pub null_again : reference_of 0x40_0005 ≡ to true heap.Func
  pub shared_again : reference_of 0x10_0005 ≡ record { nullable = false; heap = Abstract true heap.Func }
  pub by_index_again : reference_of 0x100_0003 ≡ to_fourth
  pub exactly_again : reference_of 0x1e0_0003 ≡ record { nullable = true; heap = Exact (Id (record { 0 = 3 })) }
  pub are_bits : AreBits 0x40_0005
  pub no_type : AreBits 6 → ⊥
  pub no_index : AreBits 0x130_0000 → ⊥
  pub equal : reference_eq to_fourth to_fourth ≡ true
  pub other_null : reference_eq (to true heap.Func) (to false heap.Func) ≡ false
  pub other_type : reference_eq (to true heap.Func) (to true heap.Any) ≡ false
  pub other_sharing : reference_eq (record { nullable = true; heap = Abstract true heap.Func }) (to true heap.Func) ≡ false
  pub other_index : reference_eq to_fourth (record { nullable = false; heap = Concrete (Module 4) }) ≡ false
  pub other_kind : reference_eq to_fourth (record { nullable = false; heap = Concrete (RecGroup 3) }) ≡ false
  pub other_class : reference_eq to_fourth (record { nullable = false; heap = Exact (Module 3) }) ≡ false
  pub constants : references true ≡ map (to true) abstract_types
  pub constants_without_null : references false ≡ map (to false) abstract_types
