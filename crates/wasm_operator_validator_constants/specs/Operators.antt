-- Why an operator is refused in a constant.
use Rattle.std.specs.Prelude.{◌≡◌, ◌≤◌, ℕ, Bool, true, false, Option, Some, None, slice_get}
use Rattle.wasm_types.specs.decoding.declared.error.ErrorKind.TheVariants as kinds
-- for attributes that unfold it
unfoldable pub use Rattle.wasm_types.specs.settings.Features.{has}
use Rattle.wasm_types.specs.settings.Features.{Feature, ExtendedConst, Gc, SharedEverythingThreads, mask}
use Rattle.wasm_types.specs.settings.declared.WasmFeatures.{WasmFeatures}
use Rattle.wasm_operators_enums.specs.declared.control.ControlOperator.{ControlOperator}
use Rattle.wasm_operators_enums.specs.declared.control.ControlOperator.TheVariants as control
use Rattle.wasm_operators_enums.specs.declared.memory.MemoryOperator.{MemoryOperator}
use Rattle.wasm_operators_enums.specs.declared.memory.MemoryOperator.TheVariants as memory
use Rattle.wasm_operators_enums.specs.declared.bulk.BulkOperator.{BulkOperator}
use Rattle.wasm_operators_enums.specs.declared.bulk.BulkOperator.TheVariants as bulk
use Rattle.wasm_operators_enums.specs.declared.numeric.NumericOperator.{NumericOperator}
use Rattle.wasm_operators_enums.specs.declared.numeric.NumericOperator.TheVariants as numeric
use Rattle.wasm_operators_enums.specs.declared.atomic.SharedOperator.{SharedOperator}
use Rattle.wasm_operators_enums.specs.declared.atomic.SharedOperator.TheVariants as shared
use Rattle.wasm_operators_enums.specs.declared.gc.GcOperator.{GcOperator}
use Rattle.wasm_operators_enums.specs.declared.gc.GcOperator.TheVariants as gc
use Rattle.wasm_operators_enums.specs.declared.gc.DescriptorOperator.{DescriptorOperator}
use Rattle.wasm_operators_enums.specs.declared.gc.DescriptorOperator.TheVariants as descriptor
use Rattle.wasm_operators_enums.specs.Op as op
use Rattle.wasm_operators_enums.specs.Op.{Op}
use Rattle.wasm_operator_validator_rules.specs.Context.{Module, Global}
use Rattle.wasm_operators_enums.specs.declared.vector.SimdOperator.{SimdOperator}
use Rattle.wasm_operators_enums.specs.declared.vector.SimdOperator.TheVariants as simd
use Rattle.wasm_operator_validator_rules.specs.constants.Constants.{IsConstantOperator}
use Rattle.wasm_operator_validator_state.specs.Refusals.{kind_of}
use Rattle.wasm_operator_validator_constants.specs.declared.refusal.ConstantRefusal.{ConstantRefusal}
use Rattle.wasm_operator_validator_constants.specs.declared.refusal.ConstantRefusal.TheVariants as refusals

-- ---- the operators that may be constant, in two parts: those that read a global, and those that these functions list

-- the global that an operator reads
abbrev pub global_read : Op → Option ℕ
global_read (op.Memory (memory.GlobalGet x)) = Some x
global_read o = None

abbrev pub is_sum : NumericOperator → Bool
is_sum numeric.I32Add = true
is_sum numeric.I32Sub = true
is_sum numeric.I32Mul = true
is_sum numeric.I64Add = true
is_sum numeric.I64Sub = true
is_sum numeric.I64Mul = true
is_sum o = false

abbrev pub is_object : GcOperator → Bool
is_object (gc.StructNew x) = true
is_object (gc.StructNewDefault x) = true
is_object (gc.ArrayNew x) = true
is_object (gc.ArrayNewDefault x) = true
is_object (gc.ArrayNewFixed x n) = true
is_object gc.RefI31 = true
is_object gc.AnyConvertExtern = true
is_object gc.ExternConvertAny = true
is_object o = false

abbrev pub is_described : DescriptorOperator → Bool
is_described (descriptor.StructNewDesc x) = true
is_described (descriptor.StructNewDefaultDesc x) = true
is_described o = false

abbrev pub is_reference : BulkOperator → Bool
is_reference (bulk.RefNull h) = true
is_reference (bulk.RefFunc x) = true
is_reference o = false

abbrev pub is_shared_number : SharedOperator → Bool
is_shared_number shared.RefI31Shared = true
is_shared_number o = false

abbrev pub is_vector : SimdOperator → Bool
is_vector (simd.V128Const v) = true
is_vector o = false

abbrev pub ends_frame : ControlOperator → Bool
ends_frame control.End = true
ends_frame o = false

-- it is constant by some features
abbrev pub is_listed : Op → Bool
is_listed (op.Const o) = true
is_listed (op.Numeric o) = is_sum o
is_listed (op.Bulk o) = is_reference o
is_listed (op.Gc o) = is_object o
is_listed (op.Descriptor o) = is_described o
is_listed (op.Shared o) = is_shared_number o
is_listed (op.Control o) = ends_frame o
is_listed (op.Simd o) = is_vector o
is_listed o = false

-- it is then by these
abbrev pub is_allowed : ℕ → Op → Bool
is_allowed bits (op.Numeric o) = has ExtendedConst bits
is_allowed bits (op.Gc o) = has Gc bits
is_allowed bits (op.Descriptor o) = has Gc bits
is_allowed bits (op.Shared o) = has SharedEverythingThreads bits
is_allowed bits o = true

-- the feature that allows it, where one has to
abbrev pub allowing : Op → Feature
allowing (op.Numeric o) = ExtendedConst
allowing (op.Shared o) = SharedEverythingThreads
allowing o = Gc

-- ---- why it is refused

-- these bits are a feature's, and no others
abbrev pub IsOf : Feature → WasmFeatures → Type 0
IsOf x f = f.0 ≡ mask x

-- Why the global at an index may not be read: there is none; it is the module's own, without garbage collection; or else it may be
-- written.
abbrev pub RefusesGlobal : ℕ → Module → ℕ → ℕ → ConstantRefusal → Type 0
RefusesGlobal bits g count x (refusals.Invalid r) = (kind_of r ≡ kinds.Other) × (slice_get g.globals x ≡ None)
RefusesGlobal bits g count x (refusals.NonConstant name) = ⊥
RefusesGlobal bits g count x (refusals.NotEnabled f name) = ⊥
RefusesGlobal bits g count x (refusals.LocalGlobal f) = (v : Global) × (slice_get g.globals x ≡ Some v) × (count ≤ x)
    × (has Gc bits ≡ false) × IsOf Gc f
RefusesGlobal bits g count x refusals.MutableGlobal = (v : Global) × (slice_get g.globals x ≡ Some v) × (v.mutable ≡ true)
    × (count ≤ x → has Gc bits ≡ true)

-- Why another operator is refused: it is constant by no features, or by some, but not by these.
abbrev pub RefusesListed : ℕ → Op → ConstantRefusal → Type 0
RefusesListed bits o (refusals.Invalid r) = ⊥
RefusesListed bits o (refusals.NonConstant name) = (b : ℕ) (g : Module) (count : ℕ) → IsConstantOperator b g count o → ⊥
RefusesListed bits o (refusals.NotEnabled f name) = (is_listed o ≡ true) × (is_allowed bits o ≡ false) × IsOf (allowing o) f
RefusesListed bits o (refusals.LocalGlobal f) = ⊥
RefusesListed bits o refusals.MutableGlobal = ⊥

abbrev pub RefusesBy : ℕ → Module → ℕ → Op → Option ℕ → ConstantRefusal → Type 0
RefusesBy bits g count o (Some x) r = RefusesGlobal bits g count x r
RefusesBy bits g count o None r = RefusesListed bits o r

-- why an operator is refused
abbrev pub RefusesOperator : ℕ → Module → ℕ → Op → ConstantRefusal → Type 0
RefusesOperator bits g count o r = RefusesBy bits g count o (global_read o) r
