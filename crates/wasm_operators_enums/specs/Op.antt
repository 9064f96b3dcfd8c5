-- Operators as plain trees (WebAssembly 3.0, structure, instructions). A group that keeps nothing in memory is its own tree.
pub use Rattle.wasm_operators_enums.specs.control.Trees.{ParametricTree, Drop, Select, TypedSelect, TypedSelectMulti, parametric_of}
pub use Rattle.wasm_operators_enums.specs.control.Trees.{ExceptionTree, Try, Catch, Throw, Rethrow, ThrowRef, Delegate, CatchAll, TryTable, exception_of}
pub use Rattle.wasm_operators_enums.specs.control.Trees.{ContinuationTree, ContNew, ContBind, Suspend, Resume, ResumeThrow, ResumeThrowRef, Switch, continuation_of}
use Rattle.wasm_operators_enums.specs.declared.control.ControlOperator.{ControlOperator}
use Rattle.wasm_operators_enums.specs.declared.memory.MemoryOperator.{MemoryOperator}
use Rattle.wasm_operators_enums.specs.declared.constant.ConstOperator.{ConstOperator}
use Rattle.wasm_operators_enums.specs.declared.numeric.NumericOperator.{NumericOperator}
use Rattle.wasm_operators_enums.specs.declared.bulk.BulkOperator.{BulkOperator}
use Rattle.wasm_operators_enums.specs.declared.gc.GcOperator.{GcOperator}
use Rattle.wasm_operators_enums.specs.declared.gc.DescriptorOperator.{DescriptorOperator}
use Rattle.wasm_operators_enums.specs.declared.atomic.AtomicOperator.{AtomicOperator}
use Rattle.wasm_operators_enums.specs.declared.atomic.SharedOperator.{SharedOperator}
use Rattle.wasm_operators_enums.specs.declared.vector.SimdOperator.{SimdOperator}
use Rattle.wasm_operators_enums.specs.declared.vector_numeric.SimdNumericOperator.{SimdNumericOperator}
use Rattle.wasm_operators_enums.specs.declared.operator.Operator.{Operator}
use Rattle.wasm_operators_enums.specs.declared.operator.Operator.TheVariants as operator

-- an operator, by its group
pub data Op : Type 0 where
  Control : ControlOperator → Op
  Parametric : ParametricTree → Op
  Exception : ExceptionTree → Op
  Memory : MemoryOperator → Op
  Const : ConstOperator → Op
  Numeric : NumericOperator → Op
  Bulk : BulkOperator → Op
  Gc : GcOperator → Op
  Descriptor : DescriptorOperator → Op
  Simd : SimdOperator → Op
  SimdNumeric : SimdNumericOperator → Op
  Atomic : AtomicOperator → Op
  Shared : SharedOperator → Op
  Continuation : ContinuationTree → Op

-- ---- the trees of operators

-- the tree of an operator that the code holds
abbrev pub op_of : Operator → Op
op_of (operator.Control o) = Control o
op_of (operator.Parametric o) = Parametric (parametric_of o)
op_of (operator.Exception o) = Exception (exception_of o)
op_of (operator.Memory o) = Memory o
op_of (operator.Const o) = Const o
op_of (operator.Numeric o) = Numeric o
op_of (operator.Bulk o) = Bulk o
op_of (operator.Gc o) = Gc o
op_of (operator.Descriptor o) = Descriptor o
op_of (operator.Simd o) = Simd o
op_of (operator.SimdNumeric o) = SimdNumeric o
op_of (operator.Atomic o) = Atomic o
op_of (operator.Shared o) = Shared o
op_of (operator.Continuation o) = Continuation (continuation_of o)
