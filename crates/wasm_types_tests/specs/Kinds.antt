-- What heap, reference, value, storage and composite types are, case by case, how references are ordered, and how types are written
-- (WebAssembly 3.0, structure and text format, types; shared and exact types by their proposals).
use Rattle.std.specs.Prelude.{◌≡◌, true, false, List, [], ◌∷◌, codes, Some, None, map}
use Rattle.std.specs.declared.cmp.Ordering.TheVariants.{Less, Equal, Greater}
use Rattle.wasm_types.specs.trees.declared.index.UnpackedIndex.TheVariants.{Module, RecGroup}
use Rattle.wasm_types.specs.values.declared.heap.AbstractHeapType.TheVariants as heap
use Rattle.wasm_types.specs.values.declared.heap.HeapType.TheVariants.{Abstract, Concrete, Exact}
use Rattle.wasm_types.specs.values.declared.value.ValType.{ValType}
use Rattle.wasm_types.specs.values.declared.value.ValType.TheVariants.{I32, I64, F32, F64, V128, Ref}
use Rattle.wasm_types.specs.values.declared.value.StorageType.TheVariants.{I8, I16, Val}
use Rattle.wasm_types.specs.values.Kinds.{is_concrete, is_exact, index_of, shared_of, reference_cmp}
use Rattle.wasm_types.specs.values.ValueKinds.{is_reference, reference_in, is_defaultable_type, is_packed_type, unpacked_type}
use Rattle.wasm_types.specs.values.Text.{reference_text, wat_text}
use Rattle.wasm_types.specs.values.ValueText.{value_text, storage_text}
use Rattle.wasm_types.specs.fields.declared.func.FuncType.{FuncType}
use Rattle.wasm_types.specs.fields.declared.field.ArrayType.{ArrayType}
use Rattle.wasm_types.specs.fields.declared.field.StructType.{StructType}
use Rattle.wasm_types.specs.fields.declared.cont.ContType.{ContType}
use Rattle.wasm_types.specs.declared.composite.CompositeInnerType.TheVariants.{Func, Array, Struct, Cont}
use Rattle.wasm_types.specs.Kinds.{func_in, array_in, struct_in, cont_in}
use Rattle.wasm_types_tests.specs.Trees.{to, to_fourth, abstract_types}

-- numbers and vectors, and a reference
abbrev pub values : List ValType
values = I32 ∷ I64 ∷ F32 ∷ F64 ∷ V128 ∷ Ref to_fourth ∷ []

pub record KindRows : Type 0 where
  pub references : map is_reference values ≡ false ∷ false ∷ false ∷ false ∷ false ∷ true ∷ []
  pub referred : map reference_in values ≡ None ∷ None ∷ None ∷ None ∷ None ∷ Some to_fourth ∷ []
  pub with_default : map is_defaultable_type values ≡ true ∷ true ∷ true ∷ true ∷ true ∷ false ∷ []
  pub null_by_default : is_defaultable_type (Ref (to true heap.Func)) ≡ true
  pub packed : map is_packed_type (I8 ∷ I16 ∷ Val I32 ∷ []) ≡ true ∷ true ∷ false ∷ []
  pub unpacked : map unpacked_type (I8 ∷ I16 ∷ Val F32 ∷ []) ≡ I32 ∷ I32 ∷ F32 ∷ []
  pub by_an_index : map is_concrete (Abstract false heap.Any ∷ Concrete (Module 3) ∷ Exact (Module 3) ∷ []) ≡ false ∷ true ∷ true ∷ []
  pub exactly : map is_exact (Abstract false heap.Any ∷ Concrete (Module 3) ∷ Exact (Module 3) ∷ []) ≡ false ∷ false ∷ true ∷ []
  pub the_index : map index_of (Abstract false heap.Any ∷ Concrete (Module 3) ∷ Exact (RecGroup 4) ∷ []) ≡ None ∷ Some (Module 3) ∷ Some (RecGroup 4) ∷ []
  pub shared : shared_of (to false heap.Any) ≡ Some (record { nullable = false; heap = Abstract true heap.Any })
  pub not_shared : shared_of (record { nullable = false; heap = Exact (Module 3) }) ≡ None
  pub of_a_function : (f : FuncType) → (func_in (Func f) ≡ Some f) × (array_in (Func f) ≡ None) × (struct_in (Func f) ≡ None) × (cont_in (Func f) ≡ None)
  pub of_an_array : (a : ArrayType) → (func_in (Array a) ≡ None) × (array_in (Array a) ≡ Some a) × (struct_in (Array a) ≡ None) × (cont_in (Array a) ≡ None)
  pub of_a_struct : (s : StructType) → (func_in (Struct s) ≡ None) × (array_in (Struct s) ≡ None) × (struct_in (Struct s) ≡ Some s) × (cont_in (Struct s) ≡ None)
  pub of_a_continuation : (c : ContType) → (func_in (Cont c) ≡ None) × (array_in (Cont c) ≡ None) × (struct_in (Cont c) ≡ None) × (cont_in (Cont c) ≡ Some c)

-- by class, null, sharing or kind of the index, and number, the first before the others
pub record OrderRows : Type 0 where
  pub same : reference_cmp to_fourth to_fourth ≡ Equal
  pub by_class : reference_cmp (to true heap.Any) to_fourth ≡ Less
  pub by_null : reference_cmp (to true heap.None) (to false heap.Any) ≡ Greater
  pub by_sharing : reference_cmp (record { nullable = false; heap = Abstract true heap.None }) (to false heap.Any) ≡ Greater
  pub by_type : reference_cmp (to false heap.None) (to false heap.Any) ≡ Less
  pub by_kind : reference_cmp to_fourth (record { nullable = false; heap = Concrete (RecGroup 2) }) ≡ Less
  pub by_index : reference_cmp to_fourth (record { nullable = false; heap = Concrete (Module 2) }) ≡ Greater

-- the words of the text format
pub record WordRows : Type 0 where
  pub names : map (λ a. reference_text (to false a)) abstract_types ≡ codes "(ref func)" ∷ codes "(ref extern)" ∷ codes "(ref any)" ∷ codes "(ref eq)"
      ∷ codes "(ref struct)" ∷ codes "(ref array)" ∷ codes "(ref i31)" ∷ codes "(ref exn)" ∷ codes "(ref cont)" ∷ codes "(ref none)" ∷ codes "(ref nofunc)"
      ∷ codes "(ref noextern)" ∷ codes "(ref noexn)" ∷ codes "(ref nocont)" ∷ []
  pub short_names : map (λ a. reference_text (to true a)) abstract_types ≡ codes "funcref" ∷ codes "externref" ∷ codes "anyref" ∷ codes "eqref"
      ∷ codes "structref" ∷ codes "arrayref" ∷ codes "i31ref" ∷ codes "exnref" ∷ codes "contref" ∷ codes "nullref" ∷ codes "nullfuncref"
      ∷ codes "nullexternref" ∷ codes "nullexnref" ∷ codes "nullcontref" ∷ []
  pub shared : reference_text (record { nullable = false; heap = Abstract true heap.Eq }) ≡ codes "(ref (shared eq))"
  pub any_index : wat_text (record { nullable = false; heap = Exact (Module 3) }) ≡ codes "(ref (exact $type))"
  pub any_null_index : wat_text (record { nullable = true; heap = Exact (Module 3) }) ≡ codes "(ref null (exact $type))"
  pub values : map value_text (I32 ∷ I64 ∷ F32 ∷ F64 ∷ V128 ∷ Ref (to true heap.Func) ∷ []) ≡ codes "i32" ∷ codes "i64" ∷ codes "f32" ∷ codes "f64" ∷ codes "v128"
      ∷ codes "funcref" ∷ []
  pub stored : map storage_text (I8 ∷ I16 ∷ Val F64 ∷ []) ≡ codes "i8" ∷ codes "i16" ∷ codes "f64" ∷ []
