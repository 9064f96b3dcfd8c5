-- Worked constant operators: for each rule one that is constant and one that is not, and a feature that is asked.
use Rattle.std.specs.Prelude.{ℕ, ℤ, ◌-◌, Bool, true, false, [], ◌∷◌, None}
-- for attributes that unfold it
unfoldable pub use Rattle.wasm_types.specs.settings.Features.{has}
use Rattle.wasm_types.specs.settings.Features.{Feature, mask, ExtendedConst, Gc, SharedEverythingThreads}
use Rattle.wasm_types.specs.trees.Types.{i32, number}
use Rattle.wasm_types.specs.values.declared.heap.AbstractHeapType.TheVariants as kind
use Rattle.wasm_types.specs.values.declared.heap.HeapType.TheVariants as heap
use Rattle.wasm_operators_enums.specs.declared.control.ControlOperator.TheVariants as control
use Rattle.wasm_operators_immediates.specs.declared.memory.Ordering.TheVariants as ordering
use Rattle.wasm_operators_immediates.specs.declared.vector.V128.{V128}
use Rattle.wasm_operators_enums.specs.declared.memory.MemoryOperator.TheVariants as memory
use Rattle.wasm_operators_enums.specs.declared.constant.ConstOperator.TheVariants as const
use Rattle.wasm_operators_enums.specs.declared.bulk.BulkOperator.TheVariants as bulk
use Rattle.wasm_operators_enums.specs.declared.numeric.NumericOperator.TheVariants as numeric
use Rattle.wasm_operators_enums.specs.declared.atomic.SharedOperator.TheVariants as shared
use Rattle.wasm_operators_enums.specs.declared.gc.GcOperator.TheVariants as gc
use Rattle.wasm_operators_enums.specs.declared.gc.DescriptorOperator.TheVariants as descriptor
use Rattle.wasm_operators_enums.specs.declared.vector.SimdOperator.TheVariants as simd
use Rattle.wasm_operators_enums.specs.declared.vector_numeric.SimdNumericOperator.TheVariants as lanes
use Rattle.wasm_operators_enums.specs.Op as op
use Rattle.wasm_operators_enums.specs.Op.{Op}
use Rattle.wasm_operator_validator_rules.specs.Context.{Module, Global}
use Rattle.wasm_operator_validator_rules.specs.constants.Constants.{IsConstantOperator}

abbrev pub number_that : Bool → Global
number_that mutable = record { content = number i32; mutable = mutable; shared = false }

-- an imported global that stays, one that may be written, and one of the module's own that stays
abbrev pub some_module : Module
some_module = record {
  types = [];
  functions = [];
  tables = [];
  memories = [];
  globals = number_that false ∷ number_that true ∷ number_that false ∷ [];
  tags = [];
  elements = [];
  data_count = None;
  referenced = [];
  exact_functions = [];
}

abbrev pub every_feature : ℕ
every_feature = 0xfff_ffff

-- in that module, of whose globals two are imported
abbrev pub IsOne : ℕ → Op → Type 0
IsOne bits o = IsConstantOperator bits some_module 2 o

abbrev pub IsNone : Op → Type 0
IsNone o = IsOne every_feature o → ⊥

-- it is one by this feature, and without it is not
abbrev pub Needs : Feature → Op → Type 0
Needs f o = IsOne (mask f) o × (IsOne (every_feature - mask f) o → ⊥)

abbrev pub get : ℕ → Op
get x = op.Memory (memory.GlobalGet x)

pub record OperatorsWorked (x : ℤ) : Type 0 where
  pub number : IsOne 0 (op.Const (const.I32Const x))
  pub end : IsOne 0 (op.Control control.End)
  pub nop : IsNone (op.Control control.Nop)
  pub function : IsOne 0 (op.Bulk (bulk.RefFunc 0))
  pub null : IsOne 0 (op.Bulk (bulk.RefNull (heap.Abstract false kind.Func)))
  pub is_null : IsNone (op.Bulk bulk.RefIsNull)
  pub sum : Needs ExtendedConst (op.Numeric numeric.I32Add)
  pub difference : Needs ExtendedConst (op.Numeric numeric.I32Sub)
  pub product : Needs ExtendedConst (op.Numeric numeric.I32Mul)
  pub sum_64 : Needs ExtendedConst (op.Numeric numeric.I64Add)
  pub difference_64 : Needs ExtendedConst (op.Numeric numeric.I64Sub)
  pub product_64 : Needs ExtendedConst (op.Numeric numeric.I64Mul)
  pub quotient : IsNone (op.Numeric numeric.I32DivU)
  pub struct : Needs Gc (op.Gc (gc.StructNew 0))
  pub struct_of_defaults : Needs Gc (op.Gc (gc.StructNewDefault 0))
  pub filled : Needs Gc (op.Gc (gc.ArrayNew 0))
  pub array_of_defaults : Needs Gc (op.Gc (gc.ArrayNewDefault 0))
  pub array : Needs Gc (op.Gc (gc.ArrayNewFixed 0 2))
  pub small_number : Needs Gc (op.Gc gc.RefI31)
  pub converted : Needs Gc (op.Gc gc.AnyConvertExtern)
  pub converted_back : Needs Gc (op.Gc gc.ExternConvertAny)
  pub array_of_data : IsNone (op.Gc (gc.ArrayNewData 0 0))
  pub described : Needs Gc (op.Descriptor (descriptor.StructNewDesc 0))
  pub described_defaults : Needs Gc (op.Descriptor (descriptor.StructNewDefaultDesc 0))
  pub descriptor_got : IsNone (op.Descriptor (descriptor.RefGetDesc 0))
  pub shared_number : Needs SharedEverythingThreads (op.Shared shared.RefI31Shared)
  pub shared_got : IsNone (op.Shared (shared.TableAtomicGet ordering.SeqCst 0))

pub record GlobalsWorked : Type 0 where
  pub imported : IsOne 0 (get 0)
  pub variable : IsNone (get 1)
  pub own : Needs Gc (get 2)
  pub unknown : IsNone (get 3)
  pub local : IsNone (op.Memory (memory.LocalGet 0))

-- a constant of vectors, and what is none: an operator with an immediate, and one without
pub record VectorsWorked (value : V128) : Type 0 where
  pub constant : IsOne 0 (op.Simd (simd.V128Const value))
  pub lane : IsNone (op.Simd (simd.I8x16ExtractLaneS 0))
  pub sum : IsNone (op.SimdNumeric lanes.I32x4Add)
