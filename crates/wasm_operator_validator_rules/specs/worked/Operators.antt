-- Rows that hold and rows that do not.
use Rattle.std.specs.Prelude.{true, false, List, [], ◌∷◌}
use Rattle.wasm_types.specs.trees.Types.{i32, i64, f32, number, ref, concrete}
use Rattle.wasm_types.specs.trees.declared.index.UnpackedIndex.TheVariants as index
use Rattle.wasm_types.specs.values.declared.heap.AbstractHeapType.TheVariants as kind
use Rattle.wasm_types.specs.values.declared.heap.HeapType.TheVariants as heap
use Rattle.wasm_types.specs.values.declared.value.ValType.TheVariants as value
use Rattle.wasm_operators_enums.specs.declared.control.ControlOperator.TheVariants as control
use Rattle.wasm_operators_enums.specs.declared.memory.MemoryOperator.TheVariants as memory
use Rattle.wasm_operators_enums.specs.declared.bulk.BulkOperator.TheVariants as bulk
use Rattle.wasm_operators_enums.specs.declared.numeric.NumericOperator.TheVariants as numeric
use Rattle.wasm_operators_enums.specs.Op as op
use Rattle.wasm_operators_enums.specs.Op.{Op}
use Rattle.wasm_operator_validator_rules.specs.Operands.{Operand, bottom, some_reference, known}
use Rattle.wasm_operator_validator_rules.specs.Context.{Context, Initialised}
use Rattle.wasm_operator_validator_rules.specs.Row.{Row}
use Rattle.wasm_operator_validator_rules.specs.worked.Contexts.{somewhere, somewhere_shared, without_features, argument, any_function, any_external, widening}

abbrev pub i32_known : Operand
i32_known = known (number i32)

abbrev pub i64_known : Operand
i64_known = known (number i64)

-- every local is initialised, or none is
abbrev pub all : Initialised
all x = true

abbrev pub no_local : Initialised
no_local x = false

-- the operator has this row
abbrev pub Does : Op → List Operand → List Operand → Type 0
Does o popped pushed = Row somewhere all o popped pushed

-- it has not
abbrev pub DoesNot : Op → List Operand → List Operand → Type 0
DoesNot o popped pushed = Row somewhere all o popped pushed → ⊥

-- it has no row at all there
abbrev pub IsRefused : Context → Initialised → Op → Type 0
IsRefused g set o = (popped pushed : List Operand) → Row g set o popped pushed → ⊥

pub record ControlWorked : Type 0 where
  pub nop : Does (op.Control control.Nop) [] []
  pub nop_takes : DoesNot (op.Control control.Nop) (i32_known ∷ []) []
  pub unreachable : Does (op.Control control.Unreachable) (i32_known ∷ []) (bottom ∷ i64_known ∷ [])
  pub br : Does (op.Control (control.Br 0)) (i32_known ∷ i64_known ∷ []) []
  pub br_other : DoesNot (op.Control (control.Br 0)) (i64_known ∷ i32_known ∷ []) []
  pub br_unknown : IsRefused somewhere all (op.Control (control.Br 2))
  pub br_if : Does (op.Control (control.BrIf 1)) (i32_known ∷ i32_known ∷ []) (i32_known ∷ [])
  pub br_if_condition : DoesNot (op.Control (control.BrIf 1)) (i32_known ∷ i64_known ∷ []) (i32_known ∷ [])
  pub br_table : Does (op.Control (control.BrTable (record { targets = 0 ∷ 0 ∷ []; default = 0 }))) (i64_known ∷ i32_known ∷ []) []
  pub br_table_unequal : DoesNot (op.Control (control.BrTable (record { targets = 0 ∷ []; default = 1 }))) (i64_known ∷ i32_known ∷ []) []
  pub return : Does (op.Control control.Return) (i64_known ∷ i32_known ∷ []) []
  pub return_other : DoesNot (op.Control control.Return) (i64_known ∷ []) []
  pub call : Does (op.Control (control.Call 0)) (i32_known ∷ []) (i64_known ∷ [])
  pub call_backwards : DoesNot (op.Control (control.Call 0)) (i64_known ∷ []) (i32_known ∷ [])
  pub call_unknown : IsRefused somewhere all (op.Control (control.Call 2))
  pub call_not_shared : IsRefused somewhere_shared all (op.Control (control.Call 0))
  pub call_indirect : Does (op.Control (control.CallIndirect 0 0)) (i32_known ∷ i32_known ∷ []) (i64_known ∷ [])
  pub call_indirect_64 : Does (op.Control (control.CallIndirect 0 2)) (i32_known ∷ i64_known ∷ []) (i64_known ∷ [])
  pub call_indirect_no_functions : IsRefused somewhere all (op.Control (control.CallIndirect 0 1))
  pub return_call : IsRefused somewhere all (op.Control (control.ReturnCall 0))
  pub frame_end : IsRefused somewhere all (op.Control control.End)

pub record OperandsWorked : Type 0 where
  pub drop : Does (op.Parametric op.Drop) (some_reference ∷ []) []
  pub drop_none : DoesNot (op.Parametric op.Drop) [] []
  pub select : Does (op.Parametric op.Select) (i64_known ∷ i64_known ∷ i32_known ∷ []) (i64_known ∷ [])
  pub select_bottom : Does (op.Parametric op.Select) (bottom ∷ bottom ∷ i32_known ∷ []) (bottom ∷ [])
  pub select_unequal : DoesNot (op.Parametric op.Select) (i64_known ∷ i32_known ∷ i32_known ∷ []) (i64_known ∷ [])
  pub select_reference : DoesNot (op.Parametric op.Select) (known any_function ∷ known any_function ∷ i32_known ∷ []) (known any_function ∷ [])
  pub select_some_reference : DoesNot (op.Parametric op.Select) (some_reference ∷ some_reference ∷ i32_known ∷ []) (some_reference ∷ [])
  pub typed_select : Does (op.Parametric (op.TypedSelect value.F32)) (known (number f32) ∷ known (number f32) ∷ i32_known ∷ []) (known (number f32) ∷ [])
  pub typed_select_other : DoesNot (op.Parametric (op.TypedSelect value.F32)) (i32_known ∷ i32_known ∷ i32_known ∷ []) (i32_known ∷ [])
  pub typed_select_of_many : IsRefused somewhere all (op.Parametric (op.TypedSelectMulti (value.F32 ∷ value.F32 ∷ [])))

pub record VariablesWorked : Type 0 where
  pub get : Does (op.Memory (memory.LocalGet 1)) [] (i64_known ∷ [])
  pub get_other : DoesNot (op.Memory (memory.LocalGet 1)) [] (i32_known ∷ [])
  pub get_unset : IsRefused somewhere no_local (op.Memory (memory.LocalGet 1))
  pub get_unknown : IsRefused somewhere all (op.Memory (memory.LocalGet 3))
  pub get_not_shared : IsRefused somewhere_shared all (op.Memory (memory.LocalGet 2))
  pub get_number_shared : Row somewhere_shared all (op.Memory (memory.LocalGet 0)) [] (i32_known ∷ [])
  pub set : Row somewhere no_local (op.Memory (memory.LocalSet 0)) (i32_known ∷ []) []
  pub set_gives : DoesNot (op.Memory (memory.LocalSet 0)) (i32_known ∷ []) (i32_known ∷ [])
  pub tee : Does (op.Memory (memory.LocalTee 0)) (i32_known ∷ []) (i32_known ∷ [])
  pub tee_gives_none : DoesNot (op.Memory (memory.LocalTee 0)) (i32_known ∷ []) []
  pub global : Does (op.Memory (memory.GlobalGet 1)) [] (i64_known ∷ [])
  pub global_constant : IsRefused somewhere all (op.Memory (memory.GlobalSet 1))

pub record ReferencesWorked : Type 0 where
  pub is_null : Does (op.Bulk bulk.RefIsNull) (known any_external ∷ []) (i32_known ∷ [])
  pub is_null_of_some : Does (op.Bulk bulk.RefIsNull) (some_reference ∷ []) (i32_known ∷ [])
  pub is_null_of_number : DoesNot (op.Bulk bulk.RefIsNull) (i64_known ∷ []) (i32_known ∷ [])
  pub null : Does (op.Bulk (bulk.RefNull (heap.Abstract false kind.Extern))) [] (known any_external ∷ [])
  pub null_of_function : DoesNot (op.Bulk (bulk.RefNull (heap.Abstract false kind.Extern))) [] (known any_function ∷ [])
  pub null_unknown : IsRefused somewhere all (op.Bulk (bulk.RefNull (heap.Concrete (index.Module 2))))
  pub function : Does (op.Bulk (bulk.RefFunc 0)) [] (known (ref false (concrete widening)) ∷ [])
  pub function_nullable : DoesNot (op.Bulk (bulk.RefFunc 0)) [] (known (ref true (concrete widening)) ∷ [])
  pub function_unreferenced : IsRefused somewhere all (op.Bulk (bulk.RefFunc 1))
  pub init : Does (op.Bulk (bulk.TableInit 0 2)) (i64_known ∷ i32_known ∷ i32_known ∷ []) []
  pub init_other : IsRefused somewhere all (op.Bulk (bulk.TableInit 1 0))
  pub copy : Does (op.Bulk (bulk.TableCopy 0 2)) (i32_known ∷ i64_known ∷ i32_known ∷ []) []
  pub copy_other : IsRefused somewhere all (op.Bulk (bulk.TableCopy 0 1))

pub record FeaturesWorked : Type 0 where
  pub sum : Row without_features all (op.Numeric numeric.I32Add) (i32_known ∷ i32_known ∷ []) (i32_known ∷ [])
  pub call_ref : IsRefused without_features all (op.Control (control.CallRef 0))
  pub return_call_ref : IsRefused without_features all (op.Control (control.ReturnCallRef 0))
  pub as_non_null : IsRefused without_features all (op.Control control.RefAsNonNull)
  pub float_sum : IsRefused without_features all (op.Numeric numeric.F32Add)
  pub float_load : IsRefused without_features all (op.Memory (memory.F32Load (argument 2 2 0 0)))
  pub load : Row without_features all (op.Memory (memory.I32Load (argument 2 2 0 0))) (i32_known ∷ []) (i32_known ∷ [])
  pub float_truncation : IsRefused without_features all (op.Numeric numeric.I32TruncF32S)
  pub sign_extension : IsRefused without_features all (op.Numeric numeric.I32Extend8S)
  pub memory_copy : IsRefused without_features all (op.Bulk (bulk.MemoryCopy 0 0))
  pub typed_select : IsRefused without_features all (op.Parametric (op.TypedSelect value.I32))
