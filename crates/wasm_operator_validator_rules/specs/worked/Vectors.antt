-- Operators on vectors: instruction types by the table, and rows that hold and rows that do not.
use Rattle.std.specs.Prelude.{◌≡◌, ◌+◌, ℕ, List, [], ◌∷◌, Some, None}
use Rattle.wasm_types.specs.settings.Features.{mask, Floats, Simd, RelaxedSimd}
use Rattle.wasm_types.specs.trees.Types.{Number, i32, i64, f32, f64, v128, number}
use Rattle.wasm_operators_immediates.specs.declared.vector.V128.{V128}
use Rattle.wasm_operators_enums.specs.declared.vector.SimdOperator.TheVariants as simd
use Rattle.wasm_operators_enums.specs.declared.vector_numeric.SimdNumericOperator.TheVariants as lanes
use Rattle.wasm_operators_enums.specs.Op as op
use Rattle.wasm_operator_validator_rules.specs.Operands.{Operand, known}
use Rattle.wasm_operator_validator_rules.specs.Context.{Context}
use Rattle.wasm_types.specs.settings.Features.{vectors_bit}
use Rattle.wasm_operator_validator_rules.specs.Row.{Row}
use Rattle.wasm_operator_validator_rules.specs.worked.Contexts.{somewhere, argument, all_bits}
use Rattle.wasm_operator_validator_rules.specs.worked.InstructionTypes.{IsOf, HasNone}
use Rattle.wasm_operator_validator_rules.specs.worked.Operators.{all, IsRefused, i32_known}

-- every feature, and the switch
abbrev pub judged : Context
judged = record somewhere { bits = all_bits + vectors_bit }

-- these features alone, and the switch
abbrev pub judged_by : ℕ → Context
judged_by bits = record somewhere { bits = bits + vectors_bit }

abbrev pub v128_known : Operand
v128_known = known (number v128)

pub record VectorTypesWorked (value : V128) : Type 0 where
  pub unary : IsOf judged (op.SimdNumeric lanes.F32x4Sqrt) (v128 ∷ []) (v128 ∷ [])
  pub bits : IsOf judged (op.SimdNumeric lanes.V128Not) (v128 ∷ []) (v128 ∷ [])
  pub binary : IsOf judged (op.SimdNumeric lanes.I32x4Add) (v128 ∷ v128 ∷ []) (v128 ∷ [])
  pub swizzle : IsOf judged (op.SimdNumeric lanes.I8x16Swizzle) (v128 ∷ v128 ∷ []) (v128 ∷ [])
  pub ternary : IsOf judged (op.SimdNumeric lanes.V128Bitselect) (v128 ∷ v128 ∷ v128 ∷ []) (v128 ∷ [])
  pub fused : IsOf judged (op.SimdNumeric lanes.F64x2RelaxedMadd) (v128 ∷ v128 ∷ v128 ∷ []) (v128 ∷ [])
  pub chosen : IsOf judged (op.SimdNumeric lanes.I16x8RelaxedLaneselect) (v128 ∷ v128 ∷ v128 ∷ []) (v128 ∷ [])
  pub compare : IsOf judged (op.SimdNumeric lanes.F64x2Lt) (v128 ∷ v128 ∷ []) (v128 ∷ [])
  pub test : IsOf judged (op.SimdNumeric lanes.V128AnyTrue) (v128 ∷ []) (i32 ∷ [])
  pub all_true : IsOf judged (op.SimdNumeric lanes.I64x2AllTrue) (v128 ∷ []) (i32 ∷ [])
  pub bitmask : IsOf judged (op.SimdNumeric lanes.I16x8Bitmask) (v128 ∷ []) (i32 ∷ [])
  pub shift : IsOf judged (op.SimdNumeric lanes.I64x2Shl) (v128 ∷ i32 ∷ []) (v128 ∷ [])
  pub convert : IsOf judged (op.SimdNumeric lanes.I32x4TruncSatF64x2SZero) (v128 ∷ []) (v128 ∷ [])
  pub extend : IsOf judged (op.SimdNumeric lanes.I64x2ExtendHighI32x4U) (v128 ∷ []) (v128 ∷ [])
  pub pairwise : IsOf judged (op.SimdNumeric lanes.I32x4ExtAddPairwiseI16x8S) (v128 ∷ []) (v128 ∷ [])
  pub narrow : IsOf judged (op.SimdNumeric lanes.I8x16NarrowI16x8U) (v128 ∷ v128 ∷ []) (v128 ∷ [])
  pub dot : IsOf judged (op.SimdNumeric lanes.I32x4DotI16x8S) (v128 ∷ v128 ∷ []) (v128 ∷ [])
  pub accumulate : IsOf judged (op.SimdNumeric lanes.I32x4RelaxedDotI8x16I7x16AddS) (v128 ∷ v128 ∷ v128 ∷ []) (v128 ∷ [])
  pub splat : IsOf judged (op.SimdNumeric lanes.I8x16Splat) (i32 ∷ []) (v128 ∷ [])
  pub splat_64 : IsOf judged (op.SimdNumeric lanes.I64x2Splat) (i64 ∷ []) (v128 ∷ [])
  pub splat_float : IsOf judged (op.SimdNumeric lanes.F64x2Splat) (f64 ∷ []) (v128 ∷ [])
  pub extract : IsOf judged (op.Simd (simd.I16x8ExtractLaneU 7)) (v128 ∷ []) (i32 ∷ [])
  pub extract_float : IsOf judged (op.Simd (simd.F32x4ExtractLane 3)) (v128 ∷ []) (f32 ∷ [])
  pub replace : IsOf judged (op.Simd (simd.I64x2ReplaceLane 1)) (v128 ∷ i64 ∷ []) (v128 ∷ [])
  pub replace_float : IsOf judged (op.Simd (simd.F64x2ReplaceLane 0)) (v128 ∷ f64 ∷ []) (v128 ∷ [])
  pub constant : IsOf judged (op.Simd (simd.V128Const value)) [] (v128 ∷ [])

pub record VectorAccessesWorked : Type 0 where
  pub load : IsOf judged (op.Simd (simd.V128Load (argument 4 4 0 0))) (i32 ∷ []) (v128 ∷ [])
  pub load_64 : IsOf judged (op.Simd (simd.V128Load (argument 0 4 0x100000000 1))) (i64 ∷ []) (v128 ∷ [])
  pub load_extended : IsOf judged (op.Simd (simd.V128Load16x4U (argument 3 3 0 0))) (i32 ∷ []) (v128 ∷ [])
  pub load_splat : IsOf judged (op.Simd (simd.V128Load8Splat (argument 0 0 0 0))) (i32 ∷ []) (v128 ∷ [])
  pub load_zero : IsOf judged (op.Simd (simd.V128Load64Zero (argument 3 3 0 0))) (i32 ∷ []) (v128 ∷ [])
  pub store : IsOf judged (op.Simd (simd.V128Store (argument 4 4 0 0))) (i32 ∷ v128 ∷ []) []
  pub load_lane : IsOf judged (op.Simd (simd.V128Load32Lane (argument 2 2 0 0) 3)) (i32 ∷ v128 ∷ []) (v128 ∷ [])
  pub store_lane : IsOf judged (op.Simd (simd.V128Store32Lane (argument 2 2 0 1) 3)) (i64 ∷ v128 ∷ []) []
  pub over_aligned : HasNone judged (op.Simd (simd.V128Load (argument 5 4 0 0)))
  pub lane_over_aligned : HasNone judged (op.Simd (simd.V128Load8Lane (argument 1 0 0 0) 0))
  pub far : HasNone judged (op.Simd (simd.V128Store (argument 4 4 0x100000000 0)))
  pub unknown : HasNone judged (op.Simd (simd.V128Load (argument 4 4 0 3)))

-- whatever the features: none of them is judged where the switch is off
pub record VectorsRefused (value : V128) : Type 0 where
  pub sum : HasNone somewhere (op.SimdNumeric lanes.I32x4Add)
  pub relaxed : HasNone somewhere (op.SimdNumeric lanes.F32x4RelaxedMin)
  pub load : HasNone somewhere (op.Simd (simd.V128Load (argument 4 4 0 0)))
  pub constant : HasNone somewhere (op.Simd (simd.V128Const value))

-- rows, and the features that they need besides
pub record VectorRowsWorked (value : V128) : Type 0 where
  pub sum : Row judged all (op.SimdNumeric lanes.I32x4Add) (v128_known ∷ v128_known ∷ []) (v128_known ∷ [])
  pub sum_of_numbers : Row judged all (op.SimdNumeric lanes.I32x4Add) (i32_known ∷ i32_known ∷ []) (v128_known ∷ []) → ⊥
  pub sum_gives : Row judged all (op.SimdNumeric lanes.I32x4Add) (v128_known ∷ v128_known ∷ []) (i32_known ∷ []) → ⊥
  pub test_gives : Row judged all (op.SimdNumeric lanes.I8x16AllTrue) (v128_known ∷ []) (v128_known ∷ []) → ⊥
  pub shift_by_vector : Row judged all (op.SimdNumeric lanes.I8x16Shl) (v128_known ∷ v128_known ∷ []) (v128_known ∷ []) → ⊥
  pub constant : Row judged all (op.Simd (simd.V128Const value)) [] (v128_known ∷ [])
  pub unswitched : IsRefused somewhere all (op.SimdNumeric lanes.I32x4Add)
  pub without_simd : IsRefused (judged_by (mask RelaxedSimd + mask Floats)) all (op.SimdNumeric lanes.I32x4Add)
  pub by_simd_alone : Row (judged_by (mask Simd)) all (op.SimdNumeric lanes.I32x4Add) (v128_known ∷ v128_known ∷ []) (v128_known ∷ [])
  pub without_floats : IsRefused (judged_by (mask Simd)) all (op.SimdNumeric lanes.F32x4Add)
  pub convert_without_floats : IsRefused (judged_by (mask Simd)) all (op.SimdNumeric lanes.I32x4TruncSatF32x4S)
  pub with_floats : Row (judged_by (mask Simd + mask Floats)) all (op.SimdNumeric lanes.F32x4Add) (v128_known ∷ v128_known ∷ []) (v128_known ∷ [])
  pub relaxed_without : IsRefused (judged_by (mask Simd + mask Floats)) all (op.SimdNumeric lanes.I8x16RelaxedSwizzle)
  pub relaxed_with : Row (judged_by (mask RelaxedSimd)) all (op.SimdNumeric lanes.I8x16RelaxedSwizzle) (v128_known ∷ v128_known ∷ []) (v128_known ∷ [])
