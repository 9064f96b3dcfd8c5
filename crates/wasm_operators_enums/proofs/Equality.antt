-- `==` of operators, from that of the groups.
use Rattle.std.proofs.Common.{◌≡◌, true, sym, ap, true≢false}
use Rattle.wasm_types.specs.values.Laws.{HeapEqualityIsIdentity, ReferenceEqualityIsIdentity, ValueEqualityIsIdentity}
use Rattle.wasm_operators_immediates.proofs.Telling.{complete}
use Rattle.wasm_operators_enums.proofs.ControlEquality.{controls, parametrics, exceptions, continuations}
use Rattle.wasm_operators_enums.proofs.MemoryEquality.{memories, consts, bulks}
use Rattle.wasm_operators_enums.proofs.NumbersEquality.{numerics}
use Rattle.wasm_operators_enums.proofs.GcEquality.{gcs, descriptors}
use Rattle.wasm_operators_enums.proofs.ThreadsEquality.{atomics, shareds}
use Rattle.wasm_operators_enums.proofs.VectorsEquality.{simds, simd_numerics}
use Rattle.wasm_operators_enums.specs.contracts.control.ControlOperatorPartialEq.TheImpl as control_eq
use Rattle.wasm_operators_enums.specs.contracts.memory.MemoryOperatorPartialEq.TheImpl as memory_eq
use Rattle.wasm_operators_enums.specs.contracts.constant.ConstOperatorPartialEq.TheImpl as const_eq
use Rattle.wasm_operators_enums.specs.contracts.numeric.NumericOperatorPartialEq.TheImpl as numeric_eq
use Rattle.wasm_operators_enums.specs.contracts.bulk.BulkOperatorPartialEq.TheImpl as bulk_eq
use Rattle.wasm_operators_enums.specs.contracts.gc.GcOperatorPartialEq.TheImpl as gc_eq
use Rattle.wasm_operators_enums.specs.contracts.gc.DescriptorOperatorPartialEq.TheImpl as descriptor_eq
use Rattle.wasm_operators_enums.specs.contracts.vector.SimdOperatorPartialEq.TheImpl as simd_eq
use Rattle.wasm_operators_enums.specs.contracts.vector_numeric.SimdNumericOperatorPartialEq.TheImpl as simd_numeric_eq
use Rattle.wasm_operators_enums.specs.contracts.atomic.AtomicOperatorPartialEq.TheImpl as atomic_eq
use Rattle.wasm_operators_enums.specs.contracts.atomic.SharedOperatorPartialEq.TheImpl as shared_eq
use Rattle.wasm_operators_enums.specs.declared.operator.Operator.{Operator}
use Rattle.wasm_operators_enums.specs.declared.operator.Operator.TheVariants as operator
use Rattle.wasm_operators_enums.specs.contracts.operator.OperatorPartialEq.TheImpl as operator_eq
use Rattle.wasm_operators_enums.specs.Op as op
use Rattle.wasm_operators_enums.specs.Op.{op_of}
use Rattle.wasm_operators_enums.specs.EqualityLaws.{EqualOperatorsHaveEqualTrees}

module _ (same_heap : HeapEqualityIsIdentity) (same_reference : ReferenceEqualityIsIdentity) (same_value : ValueEqualityIsIdentity) where
  operator_sound : (x y : Operator) → operator_eq.ghosts.eq x y ≡ true → op_of x ≡ op_of y
  operator_sound (operator.Control a) (operator.Control b) h = ap op.Control ((controls same_value).sound a b h)
  operator_sound (operator.Parametric a) (operator.Parametric b) h = ap op.Parametric ((parametrics same_value).sound a b h)
  operator_sound (operator.Exception a) (operator.Exception b) h = ap op.Exception ((exceptions same_value).sound a b h)
  operator_sound (operator.Memory a) (operator.Memory b) h = ap op.Memory (memories.sound a b h)
  operator_sound (operator.Const a) (operator.Const b) h = ap op.Const (consts.sound a b h)
  operator_sound (operator.Numeric a) (operator.Numeric b) h = ap op.Numeric (numerics.sound a b h)
  operator_sound (operator.Bulk a) (operator.Bulk b) h = ap op.Bulk ((bulks same_heap).sound a b h)
  operator_sound (operator.Gc a) (operator.Gc b) h = ap op.Gc ((gcs same_heap same_reference).sound a b h)
  operator_sound (operator.Descriptor a) (operator.Descriptor b) h = ap op.Descriptor ((descriptors same_heap same_reference).sound a b h)
  operator_sound (operator.Simd a) (operator.Simd b) h = ap op.Simd (simds.sound a b h)
  operator_sound (operator.SimdNumeric a) (operator.SimdNumeric b) h = ap op.SimdNumeric (simd_numerics.sound a b h)
  operator_sound (operator.Atomic a) (operator.Atomic b) h = ap op.Atomic (atomics.sound a b h)
  operator_sound (operator.Shared a) (operator.Shared b) h = ap op.Shared (shareds.sound a b h)
  operator_sound (operator.Continuation a) (operator.Continuation b) h = ap op.Continuation (continuations.sound a b h)
  operator_sound x y h = absurd (true≢false (sym h))

  operator_complete : (x y : Operator) → op_of x ≡ op_of y → operator_eq.ghosts.eq x y ≡ true
  operator_complete (operator.Control a) (operator.Control b) e = complete control_eq.ghosts.eq (controls same_value) a b cc
  operator_complete (operator.Parametric a) (operator.Parametric b) e = (parametrics same_value).complete a b cc
  operator_complete (operator.Exception a) (operator.Exception b) e = (exceptions same_value).complete a b cc
  operator_complete (operator.Memory a) (operator.Memory b) e = complete memory_eq.ghosts.eq memories a b cc
  operator_complete (operator.Const a) (operator.Const b) e = complete const_eq.ghosts.eq consts a b cc
  operator_complete (operator.Numeric a) (operator.Numeric b) e = complete numeric_eq.ghosts.eq numerics a b cc
  operator_complete (operator.Bulk a) (operator.Bulk b) e = complete bulk_eq.ghosts.eq (bulks same_heap) a b cc
  operator_complete (operator.Gc a) (operator.Gc b) e = complete gc_eq.ghosts.eq (gcs same_heap same_reference) a b cc
  operator_complete (operator.Descriptor a) (operator.Descriptor b) e = complete descriptor_eq.ghosts.eq (descriptors same_heap same_reference) a b cc
  operator_complete (operator.Simd a) (operator.Simd b) e = complete simd_eq.ghosts.eq simds a b cc
  operator_complete (operator.SimdNumeric a) (operator.SimdNumeric b) e = complete simd_numeric_eq.ghosts.eq simd_numerics a b cc
  operator_complete (operator.Atomic a) (operator.Atomic b) e = complete atomic_eq.ghosts.eq atomics a b cc
  operator_complete (operator.Shared a) (operator.Shared b) e = complete shared_eq.ghosts.eq shareds a b cc
  operator_complete (operator.Continuation a) (operator.Continuation b) e = continuations.complete a b cc
  operator_complete x y e = cc

  pub operators : EqualOperatorsHaveEqualTrees
  operators x y = (λ h. operator_sound x y h, λ e. operator_complete x y e)
