-- Instruction types by the table, and operators for which it has none.
use Rattle.std.specs.Prelude.{◌≡◌, ℤ, List, [], ◌∷◌, Some, None}
use Rattle.wasm_types.specs.trees.Types.{Number, i32, i64, f32, f64, number}
use Rattle.wasm_operators_enums.specs.declared.control.ControlOperator.TheVariants as control
use Rattle.wasm_operators_enums.specs.declared.memory.MemoryOperator.TheVariants as memory
use Rattle.wasm_operators_enums.specs.declared.constant.ConstOperator.TheVariants as const
use Rattle.wasm_operators_enums.specs.declared.bulk.BulkOperator.TheVariants as bulk
use Rattle.wasm_operators_enums.specs.declared.numeric.NumericOperator.TheVariants as numeric
use Rattle.wasm_operators_enums.specs.declared.atomic.AtomicOperator.TheVariants as atomic
use Rattle.wasm_operators_enums.specs.Op as op
use Rattle.wasm_operators_enums.specs.Op.{Op}
use Rattle.wasm_operator_validator_rules.specs.Context.{Context}
use Rattle.wasm_operator_validator_rules.specs.Numbers.{numbers}
use Rattle.wasm_operator_validator_rules.specs.InstructionTypes.{◌⟶◌, instruction_type}
use Rattle.wasm_operator_validator_rules.specs.worked.Contexts.{somewhere, somewhere_shared, argument, any_function, any_external}

-- the table says that it takes these numbers and gives these
abbrev pub IsOf : Context → Op → List Number → List Number → Type 0
IsOf g o ts us = instruction_type g o ≡ Some (numbers ts ⟶ numbers us)

abbrev pub HasNone : Context → Op → Type 0
HasNone g o = instruction_type g o ≡ None

pub record NumbersWorked : Type 0 where
  pub sum : IsOf somewhere (op.Numeric numeric.I32Add) (i32 ∷ i32 ∷ []) (i32 ∷ [])
  pub zero_test : IsOf somewhere (op.Numeric numeric.I64Eqz) (i64 ∷ []) (i32 ∷ [])
  pub comparison : IsOf somewhere (op.Numeric numeric.F64Lt) (f64 ∷ f64 ∷ []) (i32 ∷ [])
  pub square_root : IsOf somewhere (op.Numeric numeric.F32Sqrt) (f32 ∷ []) (f32 ∷ [])
  pub wrapping : IsOf somewhere (op.Numeric numeric.I32WrapI64) (i64 ∷ []) (i32 ∷ [])
  pub truncation : IsOf somewhere (op.Numeric numeric.I64TruncSatF32U) (f32 ∷ []) (i64 ∷ [])
  pub extension : IsOf somewhere (op.Numeric numeric.I64Extend32S) (i64 ∷ []) (i64 ∷ [])
  pub wide_sum : IsOf somewhere (op.Numeric numeric.I64Sub128) (i64 ∷ i64 ∷ i64 ∷ i64 ∷ []) (i64 ∷ i64 ∷ [])
  pub wide_product : IsOf somewhere (op.Numeric numeric.I64MulWideU) (i64 ∷ i64 ∷ []) (i64 ∷ i64 ∷ [])
  pub constant : (x : ℤ) → IsOf somewhere (op.Const (const.I64Const x)) [] (i64 ∷ [])

pub record AccessesWorked : Type 0 where
  pub load : IsOf somewhere (op.Memory (memory.I64Load8S (argument 0 0 3 0))) (i32 ∷ []) (i64 ∷ [])
  pub load_64 : IsOf somewhere (op.Memory (memory.F32Load (argument 1 2 3 1))) (i64 ∷ []) (f32 ∷ [])
  pub store : IsOf somewhere (op.Memory (memory.I32Store16 (argument 1 1 0 0))) (i32 ∷ i32 ∷ []) []
  pub over_aligned : HasNone somewhere (op.Memory (memory.I32Load (argument 3 2 0 0)))
  pub far : HasNone somewhere (op.Memory (memory.I32Load (argument 2 2 0x100000000 0)))
  pub near : IsOf somewhere (op.Memory (memory.I32Load (argument 2 2 0xffffffff 0))) (i32 ∷ []) (i32 ∷ [])
  pub far_64 : IsOf somewhere (op.Memory (memory.I32Load (argument 2 2 0x100000000 1))) (i64 ∷ []) (i32 ∷ [])
  pub unknown : HasNone somewhere (op.Memory (memory.I32Load (argument 2 2 0 3)))
  pub atomic_load : IsOf somewhere (op.Atomic (atomic.I64AtomicLoad16U (argument 1 1 0 0))) (i32 ∷ []) (i64 ∷ [])
  pub atomic_store : IsOf somewhere (op.Atomic (atomic.I32AtomicStore (argument 2 2 0 1))) (i64 ∷ i32 ∷ []) []
  pub under_aligned : HasNone somewhere (op.Atomic (atomic.I64AtomicLoad16U (argument 0 1 0 0)))
  pub exchange : IsOf somewhere (op.Atomic (atomic.I64AtomicRmw8XchgU (argument 0 0 0 0))) (i32 ∷ i64 ∷ []) (i64 ∷ [])
  pub compare_exchange : IsOf somewhere (op.Atomic (atomic.I32AtomicRmwCmpxchg (argument 2 2 0 0))) (i32 ∷ i32 ∷ i32 ∷ []) (i32 ∷ [])
  pub notify : IsOf somewhere (op.Atomic (atomic.MemoryAtomicNotify (argument 2 2 0 1))) (i64 ∷ i32 ∷ []) (i32 ∷ [])
  pub wait : IsOf somewhere (op.Atomic (atomic.MemoryAtomicWait64 (argument 3 3 0 0))) (i32 ∷ i64 ∷ i64 ∷ []) (i32 ∷ [])
  pub fence : IsOf somewhere (op.Atomic atomic.AtomicFence) [] []

pub record SpacesWorked : Type 0 where
  pub size : IsOf somewhere (op.Memory (memory.MemorySize 1)) [] (i64 ∷ [])
  pub grow : IsOf somewhere (op.Memory (memory.MemoryGrow 0)) (i32 ∷ []) (i32 ∷ [])
  pub grow_64 : IsOf somewhere (op.Memory (memory.MemoryGrow 1)) (i64 ∷ []) (i64 ∷ [])
  pub grow_unknown : HasNone somewhere (op.Memory (memory.MemoryGrow 3))
  pub size_unknown : HasNone somewhere (op.Memory (memory.MemorySize 3))
  pub copy : IsOf somewhere (op.Bulk (bulk.MemoryCopy 0 1)) (i32 ∷ i64 ∷ i32 ∷ []) []
  pub copy_64 : IsOf somewhere (op.Bulk (bulk.MemoryCopy 1 2)) (i64 ∷ i64 ∷ i64 ∷ []) []
  pub copy_unknown : HasNone somewhere (op.Bulk (bulk.MemoryCopy 0 3))
  pub fill : IsOf somewhere (op.Bulk (bulk.MemoryFill 1)) (i64 ∷ i32 ∷ i64 ∷ []) []
  pub fill_unknown : HasNone somewhere (op.Bulk (bulk.MemoryFill 3))
  pub discard : IsOf somewhere (op.Bulk (bulk.MemoryDiscard 0)) (i32 ∷ i32 ∷ []) []
  pub discard_64 : IsOf somewhere (op.Bulk (bulk.MemoryDiscard 1)) (i64 ∷ i64 ∷ []) []
  pub discard_unknown : HasNone somewhere (op.Bulk (bulk.MemoryDiscard 3))
  pub init : IsOf somewhere (op.Bulk (bulk.MemoryInit 1 1)) (i64 ∷ i32 ∷ i32 ∷ []) []
  pub init_unknown : HasNone somewhere (op.Bulk (bulk.MemoryInit 2 1))
  pub init_no_memory : HasNone somewhere (op.Bulk (bulk.MemoryInit 1 3))
  pub data_drop : IsOf somewhere (op.Bulk (bulk.DataDrop 1)) [] []
  pub data_drop_unknown : HasNone somewhere (op.Bulk (bulk.DataDrop 2))
  pub data_uncounted : HasNone (record somewhere { «module» = record somewhere.«module» { data_count = None } }) (op.Bulk (bulk.DataDrop 0))
  pub elem_drop : IsOf somewhere (op.Bulk (bulk.ElemDrop 1)) [] []
  pub elem_drop_unknown : HasNone somewhere (op.Bulk (bulk.ElemDrop 2))
  pub table_get : instruction_type somewhere (op.Bulk (bulk.TableGet 1)) ≡ Some (number i32 ∷ [] ⟶ any_external ∷ [])
  pub table_get_64 : instruction_type somewhere (op.Bulk (bulk.TableGet 2)) ≡ Some (number i64 ∷ [] ⟶ any_function ∷ [])
  pub table_get_unknown : HasNone somewhere (op.Bulk (bulk.TableGet 3))
  pub table_set : instruction_type somewhere (op.Bulk (bulk.TableSet 2)) ≡ Some (number i64 ∷ any_function ∷ [] ⟶ [])
  pub table_set_unknown : HasNone somewhere (op.Bulk (bulk.TableSet 3))
  pub table_grow : instruction_type somewhere (op.Bulk (bulk.TableGrow 2)) ≡ Some (any_function ∷ number i64 ∷ [] ⟶ number i64 ∷ [])
  pub table_grow_unknown : HasNone somewhere (op.Bulk (bulk.TableGrow 3))
  pub table_size : IsOf somewhere (op.Bulk (bulk.TableSize 0)) [] (i32 ∷ [])
  pub table_size_64 : IsOf somewhere (op.Bulk (bulk.TableSize 2)) [] (i64 ∷ [])
  pub table_fill : instruction_type somewhere (op.Bulk (bulk.TableFill 0)) ≡ Some (number i32 ∷ any_function ∷ number i32 ∷ [] ⟶ [])
  pub table_fill_64 : instruction_type somewhere (op.Bulk (bulk.TableFill 2)) ≡ Some (number i64 ∷ any_function ∷ number i64 ∷ [] ⟶ [])
  pub table_fill_unknown : HasNone somewhere (op.Bulk (bulk.TableFill 3))
  pub table_unknown : HasNone somewhere (op.Bulk (bulk.TableSize 3))
  pub global_get : IsOf somewhere (op.Memory (memory.GlobalGet 1)) [] (i64 ∷ [])
  pub global_set : IsOf somewhere (op.Memory (memory.GlobalSet 0)) (i32 ∷ []) []
  pub global_constant : HasNone somewhere (op.Memory (memory.GlobalSet 1))
  pub global_unknown : HasNone somewhere (op.Memory (memory.GlobalGet 3))
  pub shared_global : IsOf somewhere_shared (op.Memory (memory.GlobalGet 2)) [] (i32 ∷ [])
  pub global_not_shared : HasNone somewhere_shared (op.Memory (memory.GlobalGet 1))
  pub table_not_shared : HasNone somewhere_shared (op.Bulk (bulk.TableSize 0))
  pub none_of_its_own_row : HasNone somewhere (op.Memory (memory.LocalGet 0))
  pub none_of_control : HasNone somewhere (op.Control control.Nop)
