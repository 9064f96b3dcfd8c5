-- Each operator has a float in its name or not, by computation. The first line of a group divides it into its operators, the second is
-- checked for each of the others.
use Rattle.std.proofs.Common.{◌≡◌, ◌||◌, codes, refl}
use Rattle.wasm_operators_enums.specs.declared.control.ControlOperator.{ControlOperator}
use Rattle.wasm_operators_enums.specs.declared.control.ControlOperator.TheVariants as control
use Rattle.wasm_operators_enums.specs.declared.memory.MemoryOperator.{MemoryOperator}
use Rattle.wasm_operators_enums.specs.declared.memory.MemoryOperator.TheVariants as memory
use Rattle.wasm_operators_enums.specs.declared.constant.ConstOperator.{ConstOperator}
use Rattle.wasm_operators_enums.specs.declared.constant.ConstOperator.TheVariants as const
use Rattle.wasm_operators_enums.specs.declared.numeric.NumericOperator.{NumericOperator}
use Rattle.wasm_operators_enums.specs.declared.numeric.NumericOperator.TheVariants as numeric
use Rattle.wasm_operators_enums.specs.declared.bulk.BulkOperator.{BulkOperator}
use Rattle.wasm_operators_enums.specs.declared.bulk.BulkOperator.TheVariants as bulk
use Rattle.wasm_operators_enums.specs.declared.gc.GcOperator.{GcOperator}
use Rattle.wasm_operators_enums.specs.declared.gc.GcOperator.TheVariants as gc
use Rattle.wasm_operators_enums.specs.declared.gc.DescriptorOperator.{DescriptorOperator}
use Rattle.wasm_operators_enums.specs.declared.gc.DescriptorOperator.TheVariants as descriptor
use Rattle.wasm_operators_enums.specs.declared.vector.SimdOperator.{SimdOperator}
use Rattle.wasm_operators_enums.specs.declared.vector.SimdOperator.TheVariants as simd
use Rattle.wasm_operators_enums.specs.declared.vector_numeric.SimdNumericOperator.{SimdNumericOperator}
use Rattle.wasm_operators_enums.specs.declared.vector_numeric.SimdNumericOperator.TheVariants as lanes
use Rattle.wasm_operators_enums.specs.declared.atomic.AtomicOperator.{AtomicOperator}
use Rattle.wasm_operators_enums.specs.declared.atomic.AtomicOperator.TheVariants as atomic
use Rattle.wasm_operators_enums.specs.declared.atomic.SharedOperator.{SharedOperator}
use Rattle.wasm_operators_enums.specs.declared.atomic.SharedOperator.TheVariants as shared
use Rattle.wasm_operators_enums.specs.Op as op
use Rattle.wasm_operators_enums.specs.Op.{Op, ParametricTree, ExceptionTree, ContinuationTree}
use Rattle.wasm_operators_enums.specs.Table.{info_of}
use Rattle.wasm_operator_validator_rules.specs.Row.{names_float}
use Rattle.wasm_operator_validator_rules.specs.NameLaws.{has_word, FloatsAreNamed}

abbrev Named : Op → Type 0
Named o = names_float o ≡ (has_word (codes "f32") (info_of o).name || has_word (codes "f64") (info_of o).name)

control_named : (o : ControlOperator) → Named (op.Control o)
control_named control.Nop = refl
control_named o = refl

parametric_named : (o : ParametricTree) → Named (op.Parametric o)
parametric_named op.Drop = refl
parametric_named o = refl

exception_named : (o : ExceptionTree) → Named (op.Exception o)
exception_named op.ThrowRef = refl
exception_named o = refl

memory_named : (o : MemoryOperator) → Named (op.Memory o)
memory_named (memory.LocalGet x) = refl
memory_named o = refl

constant_named : (o : ConstOperator) → Named (op.Const o)
constant_named (const.I32Const value) = refl
constant_named o = refl

numeric_named : (o : NumericOperator) → Named (op.Numeric o)
numeric_named numeric.I32Eqz = refl
numeric_named o = refl

bulk_named : (o : BulkOperator) → Named (op.Bulk o)
bulk_named bulk.RefIsNull = refl
bulk_named o = refl

gc_named : (o : GcOperator) → Named (op.Gc o)
gc_named gc.RefEq = refl
gc_named o = refl

descriptor_named : (o : DescriptorOperator) → Named (op.Descriptor o)
descriptor_named (descriptor.RefGetDesc x) = refl
descriptor_named o = refl

simd_named : (o : SimdOperator) → Named (op.Simd o)
simd_named (simd.V128Const value) = refl
simd_named o = refl

lanes_named : (o : SimdNumericOperator) → Named (op.SimdNumeric o)
lanes_named lanes.V128Not = refl
lanes_named o = refl

atomic_named : (o : AtomicOperator) → Named (op.Atomic o)
atomic_named atomic.AtomicFence = refl
atomic_named o = refl

shared_named : (o : SharedOperator) → Named (op.Shared o)
shared_named shared.RefI31Shared = refl
shared_named o = refl

continuation_named : (o : ContinuationTree) → Named (op.Continuation o)
continuation_named (op.ContNew x) = refl
continuation_named o = refl

pub floats_are_named : FloatsAreNamed
floats_are_named (op.Control o) = control_named o
floats_are_named (op.Parametric o) = parametric_named o
floats_are_named (op.Exception o) = exception_named o
floats_are_named (op.Memory o) = memory_named o
floats_are_named (op.Const o) = constant_named o
floats_are_named (op.Numeric o) = numeric_named o
floats_are_named (op.Bulk o) = bulk_named o
floats_are_named (op.Gc o) = gc_named o
floats_are_named (op.Descriptor o) = descriptor_named o
floats_are_named (op.Simd o) = simd_named o
floats_are_named (op.SimdNumeric o) = lanes_named o
floats_are_named (op.Atomic o) = atomic_named o
floats_are_named (op.Shared o) = shared_named o
floats_are_named (op.Continuation o) = continuation_named o
