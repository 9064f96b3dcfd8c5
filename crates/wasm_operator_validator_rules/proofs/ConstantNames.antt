-- Each operator that is constant has one of the names, by computation. What the last line of a group covers is never constant.
use Rattle.std.proofs.Common.{◌≡◌, ℕ, IsTrue, refl}
use Rattle.wasm_operators_enums.specs.declared.control.ControlOperator.{ControlOperator}
use Rattle.wasm_operators_enums.specs.declared.control.ControlOperator.TheVariants as control
use Rattle.wasm_operators_enums.specs.declared.memory.MemoryOperator.{MemoryOperator}
use Rattle.wasm_operators_enums.specs.declared.memory.MemoryOperator.TheVariants as memory
use Rattle.wasm_operators_enums.specs.declared.constant.ConstOperator.{ConstOperator}
use Rattle.wasm_operators_enums.specs.declared.constant.ConstOperator.TheVariants as const
use Rattle.wasm_operators_enums.specs.declared.numeric.NumericOperator.{NumericOperator}
use Rattle.wasm_operators_enums.specs.declared.numeric.NumericOperator.TheVariants as numeric
use Rattle.wasm_operators_enums.specs.declared.bulk.BulkOperator.{BulkOperator}
use Rattle.wasm_operators_enums.specs.declared.bulk.BulkOperator.TheVariants as bulk
use Rattle.wasm_operators_enums.specs.declared.gc.GcOperator.{GcOperator}
use Rattle.wasm_operators_enums.specs.declared.gc.GcOperator.TheVariants as gc
use Rattle.wasm_operators_enums.specs.declared.gc.DescriptorOperator.{DescriptorOperator}
use Rattle.wasm_operators_enums.specs.declared.gc.DescriptorOperator.TheVariants as descriptor
use Rattle.wasm_operators_enums.specs.declared.vector.SimdOperator.{SimdOperator}
use Rattle.wasm_operators_enums.specs.declared.vector.SimdOperator.TheVariants as simd
use Rattle.wasm_operators_enums.specs.declared.atomic.SharedOperator.{SharedOperator}
use Rattle.wasm_operators_enums.specs.declared.atomic.SharedOperator.TheVariants as shared
use Rattle.wasm_operators_enums.specs.Op as op
use Rattle.wasm_operators_enums.specs.Op.{Op}
use Rattle.wasm_operators_enums.specs.Table.{info_of}
use Rattle.wasm_operator_validator_rules.specs.Context.{Module}
use Rattle.wasm_operator_validator_rules.specs.constants.Constants.{IsEnd, IsConstantNumber, IsConstantObject, IsConstantDescribed}
use Rattle.wasm_operator_validator_rules.specs.constants.Constants.{IsConstantMemory, IsConstantReference, IsConstantShared, IsConstantVector}
use Rattle.wasm_operator_validator_rules.specs.NameLaws.{is_name_in, constant_names, ConstantsAreNamed}

abbrev Named : Op → Type 0
Named o = IsTrue (is_name_in constant_names (info_of o).name)

number_named : (o : ConstOperator) → Named (op.Const o)
number_named (const.I32Const value) = refl
number_named o = refl

end_named : (o : ControlOperator) → IsEnd o → Named (op.Control o)
end_named control.End h = refl
end_named o h = absurd h

sum_named : (bits : ℕ) (o : NumericOperator) → IsConstantNumber bits o → Named (op.Numeric o)
sum_named bits numeric.I32Add h = refl
sum_named bits numeric.I32Sub h = refl
sum_named bits numeric.I32Mul h = refl
sum_named bits numeric.I64Add h = refl
sum_named bits numeric.I64Sub h = refl
sum_named bits numeric.I64Mul h = refl
sum_named bits o h = absurd h

object_named : (bits : ℕ) (o : GcOperator) → IsConstantObject bits o → Named (op.Gc o)
object_named bits (gc.StructNew x) h = refl
object_named bits (gc.StructNewDefault x) h = refl
object_named bits (gc.ArrayNew x) h = refl
object_named bits (gc.ArrayNewDefault x) h = refl
object_named bits (gc.ArrayNewFixed x n) h = refl
object_named bits gc.RefI31 h = refl
object_named bits gc.AnyConvertExtern h = refl
object_named bits gc.ExternConvertAny h = refl
object_named bits o h = absurd h

described_named : (bits : ℕ) (o : DescriptorOperator) → IsConstantDescribed bits o → Named (op.Descriptor o)
described_named bits (descriptor.StructNewDesc x) h = refl
described_named bits (descriptor.StructNewDefaultDesc x) h = refl
described_named bits o h = absurd h

global_named : (bits : ℕ) (g : Module) (imported : ℕ) (o : MemoryOperator) → IsConstantMemory bits g imported o → Named (op.Memory o)
global_named bits g imported (memory.GlobalGet x) h = refl
global_named bits g imported o h = absurd h

reference_named : (o : BulkOperator) → IsConstantReference o → Named (op.Bulk o)
reference_named (bulk.RefNull heap) h = refl
reference_named (bulk.RefFunc x) h = refl
reference_named o h = absurd h

shared_named : (bits : ℕ) (o : SharedOperator) → IsConstantShared bits o → Named (op.Shared o)
shared_named bits shared.RefI31Shared h = refl
shared_named bits o h = absurd h

vector_named : (o : SimdOperator) → IsConstantVector o → Named (op.Simd o)
vector_named (simd.V128Const value) h = refl
vector_named o h = absurd h

pub constants_are_named : ConstantsAreNamed
constants_are_named bits g imported (op.Const o) h = number_named o
constants_are_named bits g imported (op.Numeric o) h = sum_named bits o h
constants_are_named bits g imported (op.Memory o) h = global_named bits g imported o h
constants_are_named bits g imported (op.Bulk o) h = reference_named o h
constants_are_named bits g imported (op.Gc o) h = object_named bits o h
constants_are_named bits g imported (op.Descriptor o) h = described_named bits o h
constants_are_named bits g imported (op.Shared o) h = shared_named bits o h
constants_are_named bits g imported (op.Control o) h = end_named o h
constants_are_named bits g imported (op.Simd o) h = vector_named o h
constants_are_named bits g imported o h = absurd h
