-- `==` of operators and of their groups holds exactly where the trees are equal.
use Rattle.std.proofs.Common.{◌≡◌, ◌↔◌, IsTrue}
use Rattle.wasm_operators_enums.specs.declared.control.ControlOperator.{ControlOperator}
use Rattle.wasm_operators_enums.specs.declared.control.ParametricOperator.{ParametricOperator}
use Rattle.wasm_operators_enums.specs.declared.exceptions.ExceptionOperator.{ExceptionOperator}
use Rattle.wasm_operators_enums.specs.declared.memory.MemoryOperator.{MemoryOperator}
use Rattle.wasm_operators_enums.specs.declared.constant.ConstOperator.{ConstOperator}
use Rattle.wasm_operators_enums.specs.declared.numeric.NumericOperator.{NumericOperator}
use Rattle.wasm_operators_enums.specs.declared.bulk.BulkOperator.{BulkOperator}
use Rattle.wasm_operators_enums.specs.declared.gc.GcOperator.{GcOperator}
use Rattle.wasm_operators_enums.specs.declared.gc.DescriptorOperator.{DescriptorOperator}
use Rattle.wasm_operators_enums.specs.declared.vector.SimdOperator.{SimdOperator}
use Rattle.wasm_operators_enums.specs.declared.vector_numeric.SimdNumericOperator.{SimdNumericOperator}
use Rattle.wasm_operators_enums.specs.declared.atomic.AtomicOperator.{AtomicOperator}
use Rattle.wasm_operators_enums.specs.declared.atomic.SharedOperator.{SharedOperator}
use Rattle.wasm_operators_enums.specs.declared.continuation.ContinuationOperator.{ContinuationOperator}
use Rattle.wasm_operators_enums.specs.contracts.control.ControlOperatorPartialEq.TheImpl as control
use Rattle.wasm_operators_enums.specs.contracts.control.ParametricOperatorPartialEq.TheImpl as parametric
use Rattle.wasm_operators_enums.specs.contracts.exceptions.ExceptionOperatorPartialEq.TheImpl as exception
use Rattle.wasm_operators_enums.specs.contracts.memory.MemoryOperatorPartialEq.TheImpl as memory
use Rattle.wasm_operators_enums.specs.contracts.constant.ConstOperatorPartialEq.TheImpl as const
use Rattle.wasm_operators_enums.specs.contracts.numeric.NumericOperatorPartialEq.TheImpl as numeric
use Rattle.wasm_operators_enums.specs.contracts.bulk.BulkOperatorPartialEq.TheImpl as bulk
use Rattle.wasm_operators_enums.specs.contracts.gc.GcOperatorPartialEq.TheImpl as gc
use Rattle.wasm_operators_enums.specs.contracts.gc.DescriptorOperatorPartialEq.TheImpl as descriptor
use Rattle.wasm_operators_enums.specs.contracts.vector.SimdOperatorPartialEq.TheImpl as simd
use Rattle.wasm_operators_enums.specs.contracts.vector_numeric.SimdNumericOperatorPartialEq.TheImpl as simd_numeric
use Rattle.wasm_operators_enums.specs.contracts.atomic.AtomicOperatorPartialEq.TheImpl as atomic
use Rattle.wasm_operators_enums.specs.contracts.atomic.SharedOperatorPartialEq.TheImpl as shared
use Rattle.wasm_operators_enums.specs.contracts.continuation.ContinuationOperatorPartialEq.TheImpl as continuation
use Rattle.wasm_operators_enums.specs.declared.operator.Operator.{Operator}
use Rattle.wasm_operators_enums.specs.contracts.operator.OperatorPartialEq.TheImpl as operator
use Rattle.wasm_operators_enums.specs.Op.{op_of, parametric_of, exception_of, continuation_of}

-- operators are equal where their trees are, whatever bytes a `br_table` was read from
abbrev pub EqualOperatorsHaveEqualTrees : Type 0
EqualOperatorsHaveEqualTrees = (a b : Operator) → IsTrue (operator.ghosts.eq a b) ↔ (op_of a ≡ op_of b)

-- ---- the groups

abbrev pub ControlEqualityIsIdentity : Type 0
ControlEqualityIsIdentity = (a b : ControlOperator) → IsTrue (control.ghosts.eq a b) ↔ (a ≡ b)

abbrev pub ParametricEqualityIsOfTrees : Type 0
ParametricEqualityIsOfTrees = (a b : ParametricOperator) → IsTrue (parametric.ghosts.eq a b) ↔ (parametric_of a ≡ parametric_of b)

abbrev pub ExceptionEqualityIsOfTrees : Type 0
ExceptionEqualityIsOfTrees = (a b : ExceptionOperator) → IsTrue (exception.ghosts.eq a b) ↔ (exception_of a ≡ exception_of b)

abbrev pub MemoryEqualityIsIdentity : Type 0
MemoryEqualityIsIdentity = (a b : MemoryOperator) → IsTrue (memory.ghosts.eq a b) ↔ (a ≡ b)

abbrev pub ConstEqualityIsIdentity : Type 0
ConstEqualityIsIdentity = (a b : ConstOperator) → IsTrue (const.ghosts.eq a b) ↔ (a ≡ b)

abbrev pub NumericEqualityIsIdentity : Type 0
NumericEqualityIsIdentity = (a b : NumericOperator) → IsTrue (numeric.ghosts.eq a b) ↔ (a ≡ b)

abbrev pub BulkEqualityIsIdentity : Type 0
BulkEqualityIsIdentity = (a b : BulkOperator) → IsTrue (bulk.ghosts.eq a b) ↔ (a ≡ b)

abbrev pub GcEqualityIsIdentity : Type 0
GcEqualityIsIdentity = (a b : GcOperator) → IsTrue (gc.ghosts.eq a b) ↔ (a ≡ b)

abbrev pub DescriptorEqualityIsIdentity : Type 0
DescriptorEqualityIsIdentity = (a b : DescriptorOperator) → IsTrue (descriptor.ghosts.eq a b) ↔ (a ≡ b)

abbrev pub SimdEqualityIsIdentity : Type 0
SimdEqualityIsIdentity = (a b : SimdOperator) → IsTrue (simd.ghosts.eq a b) ↔ (a ≡ b)

abbrev pub SimdNumericEqualityIsIdentity : Type 0
SimdNumericEqualityIsIdentity = (a b : SimdNumericOperator) → IsTrue (simd_numeric.ghosts.eq a b) ↔ (a ≡ b)

abbrev pub AtomicEqualityIsIdentity : Type 0
AtomicEqualityIsIdentity = (a b : AtomicOperator) → IsTrue (atomic.ghosts.eq a b) ↔ (a ≡ b)

abbrev pub SharedEqualityIsIdentity : Type 0
SharedEqualityIsIdentity = (a b : SharedOperator) → IsTrue (shared.ghosts.eq a b) ↔ (a ≡ b)

abbrev pub ContinuationEqualityIsOfTrees : Type 0
ContinuationEqualityIsOfTrees = (a b : ContinuationOperator) → IsTrue (continuation.ghosts.eq a b) ↔ (continuation_of a ≡ continuation_of b)
