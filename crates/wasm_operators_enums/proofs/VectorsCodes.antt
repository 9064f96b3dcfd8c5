-- Operators on vectors are found by prefix and code, and made of their immediates.
use Rattle.std.proofs.Common.{List, [], ◌∷◌, map, refl}
use Rattle.wasm_operators_immediates.proofs.Codes.{Told, Made}
use Rattle.wasm_operators_immediates.specs.Immediates.{kind_of}
use Rattle.wasm_operators_immediates.proofs.Makers.{Maker, argument, bare, lanes, number, one, some_argument, some_vector, two, vector}
use Rattle.wasm_operators_enums.specs.VectorsTable.{simd_info, simd_numeric_info}
use Rattle.wasm_operators_enums.specs.VectorsImmediates.{simd_immediates, simd_numeric_immediates}
use Rattle.wasm_operators_enums.specs.declared.vector.SimdOperator.{SimdOperator}
use Rattle.wasm_operators_enums.specs.declared.vector.SimdOperator.TheVariants as simd
use Rattle.wasm_operators_enums.specs.declared.vector_numeric.SimdNumericOperator.{SimdNumericOperator}
use Rattle.wasm_operators_enums.specs.declared.vector_numeric.SimdNumericOperator.TheVariants as simd_numeric

-- ---- simd

abbrev pub simd_list : List (SimdOperator × Maker SimdOperator)
simd_list =
    (simd.V128Load some_argument, one argument simd.V128Load) ∷
    (simd.V128Load8x8S some_argument, one argument simd.V128Load8x8S) ∷
    (simd.V128Load8x8U some_argument, one argument simd.V128Load8x8U) ∷
    (simd.V128Load16x4S some_argument, one argument simd.V128Load16x4S) ∷
    (simd.V128Load16x4U some_argument, one argument simd.V128Load16x4U) ∷
    (simd.V128Load32x2S some_argument, one argument simd.V128Load32x2S) ∷
    (simd.V128Load32x2U some_argument, one argument simd.V128Load32x2U) ∷
    (simd.V128Load8Splat some_argument, one argument simd.V128Load8Splat) ∷
    (simd.V128Load16Splat some_argument, one argument simd.V128Load16Splat) ∷
    (simd.V128Load32Splat some_argument, one argument simd.V128Load32Splat) ∷
    (simd.V128Load64Splat some_argument, one argument simd.V128Load64Splat) ∷
    (simd.V128Store some_argument, one argument simd.V128Store) ∷
    (simd.V128Const some_vector, one vector simd.V128Const) ∷
    (simd.I8x16Shuffle [], one lanes simd.I8x16Shuffle) ∷
    (simd.I8x16ExtractLaneS 0, one number simd.I8x16ExtractLaneS) ∷
    (simd.I8x16ExtractLaneU 0, one number simd.I8x16ExtractLaneU) ∷
    (simd.I8x16ReplaceLane 0, one number simd.I8x16ReplaceLane) ∷
    (simd.I16x8ExtractLaneS 0, one number simd.I16x8ExtractLaneS) ∷
    (simd.I16x8ExtractLaneU 0, one number simd.I16x8ExtractLaneU) ∷
    (simd.I16x8ReplaceLane 0, one number simd.I16x8ReplaceLane) ∷
    (simd.I32x4ExtractLane 0, one number simd.I32x4ExtractLane) ∷
    (simd.I32x4ReplaceLane 0, one number simd.I32x4ReplaceLane) ∷
    (simd.I64x2ExtractLane 0, one number simd.I64x2ExtractLane) ∷
    (simd.I64x2ReplaceLane 0, one number simd.I64x2ReplaceLane) ∷
    (simd.F32x4ExtractLane 0, one number simd.F32x4ExtractLane) ∷
    (simd.F32x4ReplaceLane 0, one number simd.F32x4ReplaceLane) ∷
    (simd.F64x2ExtractLane 0, one number simd.F64x2ExtractLane) ∷
    (simd.F64x2ReplaceLane 0, one number simd.F64x2ReplaceLane) ∷
    (simd.V128Load8Lane some_argument 0, two argument number simd.V128Load8Lane) ∷
    (simd.V128Load16Lane some_argument 0, two argument number simd.V128Load16Lane) ∷
    (simd.V128Load32Lane some_argument 0, two argument number simd.V128Load32Lane) ∷
    (simd.V128Load64Lane some_argument 0, two argument number simd.V128Load64Lane) ∷
    (simd.V128Store8Lane some_argument 0, two argument number simd.V128Store8Lane) ∷
    (simd.V128Store16Lane some_argument 0, two argument number simd.V128Store16Lane) ∷
    (simd.V128Store32Lane some_argument 0, two argument number simd.V128Store32Lane) ∷
    (simd.V128Store64Lane some_argument 0, two argument number simd.V128Store64Lane) ∷
    (simd.V128Load32Zero some_argument, one argument simd.V128Load32Zero) ∷
    (simd.V128Load64Zero some_argument, one argument simd.V128Load64Zero) ∷ []

pub simd_told : (o : SimdOperator) → Told simd_info simd_immediates (map kind_of) simd_list o
simd_told (simd.V128Load memarg) = (refl, refl)
simd_told (simd.V128Load8x8S memarg) = (refl, refl)
simd_told (simd.V128Load8x8U memarg) = (refl, refl)
simd_told (simd.V128Load16x4S memarg) = (refl, refl)
simd_told (simd.V128Load16x4U memarg) = (refl, refl)
simd_told (simd.V128Load32x2S memarg) = (refl, refl)
simd_told (simd.V128Load32x2U memarg) = (refl, refl)
simd_told (simd.V128Load8Splat memarg) = (refl, refl)
simd_told (simd.V128Load16Splat memarg) = (refl, refl)
simd_told (simd.V128Load32Splat memarg) = (refl, refl)
simd_told (simd.V128Load64Splat memarg) = (refl, refl)
simd_told (simd.V128Store memarg) = (refl, refl)
simd_told (simd.V128Const value) = (refl, refl)
simd_told (simd.I8x16Shuffle lanes) = (refl, refl)
simd_told (simd.I8x16ExtractLaneS lane) = (refl, refl)
simd_told (simd.I8x16ExtractLaneU lane) = (refl, refl)
simd_told (simd.I8x16ReplaceLane lane) = (refl, refl)
simd_told (simd.I16x8ExtractLaneS lane) = (refl, refl)
simd_told (simd.I16x8ExtractLaneU lane) = (refl, refl)
simd_told (simd.I16x8ReplaceLane lane) = (refl, refl)
simd_told (simd.I32x4ExtractLane lane) = (refl, refl)
simd_told (simd.I32x4ReplaceLane lane) = (refl, refl)
simd_told (simd.I64x2ExtractLane lane) = (refl, refl)
simd_told (simd.I64x2ReplaceLane lane) = (refl, refl)
simd_told (simd.F32x4ExtractLane lane) = (refl, refl)
simd_told (simd.F32x4ReplaceLane lane) = (refl, refl)
simd_told (simd.F64x2ExtractLane lane) = (refl, refl)
simd_told (simd.F64x2ReplaceLane lane) = (refl, refl)
simd_told (simd.V128Load8Lane memarg lane) = (refl, refl)
simd_told (simd.V128Load16Lane memarg lane) = (refl, refl)
simd_told (simd.V128Load32Lane memarg lane) = (refl, refl)
simd_told (simd.V128Load64Lane memarg lane) = (refl, refl)
simd_told (simd.V128Store8Lane memarg lane) = (refl, refl)
simd_told (simd.V128Store16Lane memarg lane) = (refl, refl)
simd_told (simd.V128Store32Lane memarg lane) = (refl, refl)
simd_told (simd.V128Store64Lane memarg lane) = (refl, refl)
simd_told (simd.V128Load32Zero memarg) = (refl, refl)
simd_told (simd.V128Load64Zero memarg) = (refl, refl)

pub simd_made : (o : SimdOperator) → Made simd_info simd_immediates (map kind_of) simd_list o
simd_made (simd.V128Load memarg) = refl
simd_made (simd.V128Load8x8S memarg) = refl
simd_made (simd.V128Load8x8U memarg) = refl
simd_made (simd.V128Load16x4S memarg) = refl
simd_made (simd.V128Load16x4U memarg) = refl
simd_made (simd.V128Load32x2S memarg) = refl
simd_made (simd.V128Load32x2U memarg) = refl
simd_made (simd.V128Load8Splat memarg) = refl
simd_made (simd.V128Load16Splat memarg) = refl
simd_made (simd.V128Load32Splat memarg) = refl
simd_made (simd.V128Load64Splat memarg) = refl
simd_made (simd.V128Store memarg) = refl
simd_made (simd.V128Const value) = refl
simd_made (simd.I8x16Shuffle lanes) = refl
simd_made (simd.I8x16ExtractLaneS lane) = refl
simd_made (simd.I8x16ExtractLaneU lane) = refl
simd_made (simd.I8x16ReplaceLane lane) = refl
simd_made (simd.I16x8ExtractLaneS lane) = refl
simd_made (simd.I16x8ExtractLaneU lane) = refl
simd_made (simd.I16x8ReplaceLane lane) = refl
simd_made (simd.I32x4ExtractLane lane) = refl
simd_made (simd.I32x4ReplaceLane lane) = refl
simd_made (simd.I64x2ExtractLane lane) = refl
simd_made (simd.I64x2ReplaceLane lane) = refl
simd_made (simd.F32x4ExtractLane lane) = refl
simd_made (simd.F32x4ReplaceLane lane) = refl
simd_made (simd.F64x2ExtractLane lane) = refl
simd_made (simd.F64x2ReplaceLane lane) = refl
simd_made (simd.V128Load8Lane memarg lane) = refl
simd_made (simd.V128Load16Lane memarg lane) = refl
simd_made (simd.V128Load32Lane memarg lane) = refl
simd_made (simd.V128Load64Lane memarg lane) = refl
simd_made (simd.V128Store8Lane memarg lane) = refl
simd_made (simd.V128Store16Lane memarg lane) = refl
simd_made (simd.V128Store32Lane memarg lane) = refl
simd_made (simd.V128Store64Lane memarg lane) = refl
simd_made (simd.V128Load32Zero memarg) = refl
simd_made (simd.V128Load64Zero memarg) = refl

-- ---- simd numeric

abbrev pub simd_numeric_operators : List SimdNumericOperator
simd_numeric_operators =
    simd_numeric.I8x16Swizzle ∷ simd_numeric.I8x16Splat ∷ simd_numeric.I16x8Splat ∷ simd_numeric.I32x4Splat ∷
    simd_numeric.I64x2Splat ∷ simd_numeric.F32x4Splat ∷ simd_numeric.F64x2Splat ∷ simd_numeric.I8x16Eq ∷
    simd_numeric.I8x16Ne ∷ simd_numeric.I8x16LtS ∷ simd_numeric.I8x16LtU ∷ simd_numeric.I8x16GtS ∷
    simd_numeric.I8x16GtU ∷ simd_numeric.I8x16LeS ∷ simd_numeric.I8x16LeU ∷ simd_numeric.I8x16GeS ∷
    simd_numeric.I8x16GeU ∷ simd_numeric.I16x8Eq ∷ simd_numeric.I16x8Ne ∷ simd_numeric.I16x8LtS ∷
    simd_numeric.I16x8LtU ∷ simd_numeric.I16x8GtS ∷ simd_numeric.I16x8GtU ∷ simd_numeric.I16x8LeS ∷
    simd_numeric.I16x8LeU ∷ simd_numeric.I16x8GeS ∷ simd_numeric.I16x8GeU ∷ simd_numeric.I32x4Eq ∷
    simd_numeric.I32x4Ne ∷ simd_numeric.I32x4LtS ∷ simd_numeric.I32x4LtU ∷ simd_numeric.I32x4GtS ∷
    simd_numeric.I32x4GtU ∷ simd_numeric.I32x4LeS ∷ simd_numeric.I32x4LeU ∷ simd_numeric.I32x4GeS ∷
    simd_numeric.I32x4GeU ∷ simd_numeric.F32x4Eq ∷ simd_numeric.F32x4Ne ∷ simd_numeric.F32x4Lt ∷
    simd_numeric.F32x4Gt ∷ simd_numeric.F32x4Le ∷ simd_numeric.F32x4Ge ∷ simd_numeric.F64x2Eq ∷
    simd_numeric.F64x2Ne ∷ simd_numeric.F64x2Lt ∷ simd_numeric.F64x2Gt ∷ simd_numeric.F64x2Le ∷
    simd_numeric.F64x2Ge ∷ simd_numeric.V128Not ∷ simd_numeric.V128And ∷ simd_numeric.V128AndNot ∷
    simd_numeric.V128Or ∷ simd_numeric.V128Xor ∷ simd_numeric.V128Bitselect ∷ simd_numeric.V128AnyTrue ∷
    simd_numeric.F32x4DemoteF64x2Zero ∷ simd_numeric.F64x2PromoteLowF32x4 ∷ simd_numeric.I8x16Abs ∷
    simd_numeric.I8x16Neg ∷ simd_numeric.I8x16Popcnt ∷ simd_numeric.I8x16AllTrue ∷ simd_numeric.I8x16Bitmask ∷
    simd_numeric.I8x16NarrowI16x8S ∷ simd_numeric.I8x16NarrowI16x8U ∷ simd_numeric.F32x4Ceil ∷
    simd_numeric.F32x4Floor ∷ simd_numeric.F32x4Trunc ∷ simd_numeric.F32x4Nearest ∷ simd_numeric.I8x16Shl ∷
    simd_numeric.I8x16ShrS ∷ simd_numeric.I8x16ShrU ∷ simd_numeric.I8x16Add ∷ simd_numeric.I8x16AddSatS ∷
    simd_numeric.I8x16AddSatU ∷ simd_numeric.I8x16Sub ∷ simd_numeric.I8x16SubSatS ∷ simd_numeric.I8x16SubSatU ∷
    simd_numeric.F64x2Ceil ∷ simd_numeric.F64x2Floor ∷ simd_numeric.I8x16MinS ∷ simd_numeric.I8x16MinU ∷
    simd_numeric.I8x16MaxS ∷ simd_numeric.I8x16MaxU ∷ simd_numeric.F64x2Trunc ∷ simd_numeric.I8x16AvgrU ∷
    simd_numeric.I16x8ExtAddPairwiseI8x16S ∷ simd_numeric.I16x8ExtAddPairwiseI8x16U ∷
    simd_numeric.I32x4ExtAddPairwiseI16x8S ∷ simd_numeric.I32x4ExtAddPairwiseI16x8U ∷ simd_numeric.I16x8Abs ∷
    simd_numeric.I16x8Neg ∷ simd_numeric.I16x8Q15MulrSatS ∷ simd_numeric.I16x8AllTrue ∷ simd_numeric.I16x8Bitmask ∷
    simd_numeric.I16x8NarrowI32x4S ∷ simd_numeric.I16x8NarrowI32x4U ∷ simd_numeric.I16x8ExtendLowI8x16S ∷
    simd_numeric.I16x8ExtendHighI8x16S ∷ simd_numeric.I16x8ExtendLowI8x16U ∷ simd_numeric.I16x8ExtendHighI8x16U ∷
    simd_numeric.I16x8Shl ∷ simd_numeric.I16x8ShrS ∷ simd_numeric.I16x8ShrU ∷ simd_numeric.I16x8Add ∷
    simd_numeric.I16x8AddSatS ∷ simd_numeric.I16x8AddSatU ∷ simd_numeric.I16x8Sub ∷ simd_numeric.I16x8SubSatS ∷
    simd_numeric.I16x8SubSatU ∷ simd_numeric.F64x2Nearest ∷ simd_numeric.I16x8Mul ∷ simd_numeric.I16x8MinS ∷
    simd_numeric.I16x8MinU ∷ simd_numeric.I16x8MaxS ∷ simd_numeric.I16x8MaxU ∷ simd_numeric.I16x8AvgrU ∷
    simd_numeric.I16x8ExtMulLowI8x16S ∷ simd_numeric.I16x8ExtMulHighI8x16S ∷ simd_numeric.I16x8ExtMulLowI8x16U ∷
    simd_numeric.I16x8ExtMulHighI8x16U ∷ simd_numeric.I32x4Abs ∷ simd_numeric.I32x4Neg ∷ simd_numeric.I32x4AllTrue ∷
    simd_numeric.I32x4Bitmask ∷ simd_numeric.I32x4ExtendLowI16x8S ∷ simd_numeric.I32x4ExtendHighI16x8S ∷
    simd_numeric.I32x4ExtendLowI16x8U ∷ simd_numeric.I32x4ExtendHighI16x8U ∷ simd_numeric.I32x4Shl ∷
    simd_numeric.I32x4ShrS ∷ simd_numeric.I32x4ShrU ∷ simd_numeric.I32x4Add ∷ simd_numeric.I32x4Sub ∷
    simd_numeric.I32x4Mul ∷ simd_numeric.I32x4MinS ∷ simd_numeric.I32x4MinU ∷ simd_numeric.I32x4MaxS ∷
    simd_numeric.I32x4MaxU ∷ simd_numeric.I32x4DotI16x8S ∷ simd_numeric.I32x4ExtMulLowI16x8S ∷
    simd_numeric.I32x4ExtMulHighI16x8S ∷ simd_numeric.I32x4ExtMulLowI16x8U ∷ simd_numeric.I32x4ExtMulHighI16x8U ∷
    simd_numeric.I64x2Abs ∷ simd_numeric.I64x2Neg ∷ simd_numeric.I64x2AllTrue ∷ simd_numeric.I64x2Bitmask ∷
    simd_numeric.I64x2ExtendLowI32x4S ∷ simd_numeric.I64x2ExtendHighI32x4S ∷ simd_numeric.I64x2ExtendLowI32x4U ∷
    simd_numeric.I64x2ExtendHighI32x4U ∷ simd_numeric.I64x2Shl ∷ simd_numeric.I64x2ShrS ∷ simd_numeric.I64x2ShrU ∷
    simd_numeric.I64x2Add ∷ simd_numeric.I64x2Sub ∷ simd_numeric.I64x2Mul ∷ simd_numeric.I64x2Eq ∷
    simd_numeric.I64x2Ne ∷ simd_numeric.I64x2LtS ∷ simd_numeric.I64x2GtS ∷ simd_numeric.I64x2LeS ∷
    simd_numeric.I64x2GeS ∷ simd_numeric.I64x2ExtMulLowI32x4S ∷ simd_numeric.I64x2ExtMulHighI32x4S ∷
    simd_numeric.I64x2ExtMulLowI32x4U ∷ simd_numeric.I64x2ExtMulHighI32x4U ∷ simd_numeric.F32x4Abs ∷
    simd_numeric.F32x4Neg ∷ simd_numeric.F32x4Sqrt ∷ simd_numeric.F32x4Add ∷ simd_numeric.F32x4Sub ∷
    simd_numeric.F32x4Mul ∷ simd_numeric.F32x4Div ∷ simd_numeric.F32x4Min ∷ simd_numeric.F32x4Max ∷
    simd_numeric.F32x4PMin ∷ simd_numeric.F32x4PMax ∷ simd_numeric.F64x2Abs ∷ simd_numeric.F64x2Neg ∷
    simd_numeric.F64x2Sqrt ∷ simd_numeric.F64x2Add ∷ simd_numeric.F64x2Sub ∷ simd_numeric.F64x2Mul ∷
    simd_numeric.F64x2Div ∷ simd_numeric.F64x2Min ∷ simd_numeric.F64x2Max ∷ simd_numeric.F64x2PMin ∷
    simd_numeric.F64x2PMax ∷ simd_numeric.I32x4TruncSatF32x4S ∷ simd_numeric.I32x4TruncSatF32x4U ∷
    simd_numeric.F32x4ConvertI32x4S ∷ simd_numeric.F32x4ConvertI32x4U ∷ simd_numeric.I32x4TruncSatF64x2SZero ∷
    simd_numeric.I32x4TruncSatF64x2UZero ∷ simd_numeric.F64x2ConvertLowI32x4S ∷ simd_numeric.F64x2ConvertLowI32x4U ∷
    simd_numeric.I8x16RelaxedSwizzle ∷ simd_numeric.I32x4RelaxedTruncF32x4S ∷ simd_numeric.I32x4RelaxedTruncF32x4U ∷
    simd_numeric.I32x4RelaxedTruncF64x2SZero ∷ simd_numeric.I32x4RelaxedTruncF64x2UZero ∷
    simd_numeric.F32x4RelaxedMadd ∷ simd_numeric.F32x4RelaxedNmadd ∷ simd_numeric.F64x2RelaxedMadd ∷
    simd_numeric.F64x2RelaxedNmadd ∷ simd_numeric.I8x16RelaxedLaneselect ∷ simd_numeric.I16x8RelaxedLaneselect ∷
    simd_numeric.I32x4RelaxedLaneselect ∷ simd_numeric.I64x2RelaxedLaneselect ∷ simd_numeric.F32x4RelaxedMin ∷
    simd_numeric.F32x4RelaxedMax ∷ simd_numeric.F64x2RelaxedMin ∷ simd_numeric.F64x2RelaxedMax ∷
    simd_numeric.I16x8RelaxedQ15mulrS ∷ simd_numeric.I16x8RelaxedDotI8x16I7x16S ∷
    simd_numeric.I32x4RelaxedDotI8x16I7x16AddS ∷ []

abbrev pub simd_numeric_list : List (SimdNumericOperator × Maker SimdNumericOperator)
simd_numeric_list = map (λ (o : SimdNumericOperator). (o, bare o)) simd_numeric_operators

pub simd_numeric_told : (o : SimdNumericOperator) → Told simd_numeric_info simd_numeric_immediates (map kind_of) simd_numeric_list o
simd_numeric_told simd_numeric.I8x16Swizzle = (refl, refl)
simd_numeric_told simd_numeric.I8x16Splat = (refl, refl)
simd_numeric_told simd_numeric.I16x8Splat = (refl, refl)
simd_numeric_told simd_numeric.I32x4Splat = (refl, refl)
simd_numeric_told simd_numeric.I64x2Splat = (refl, refl)
simd_numeric_told simd_numeric.F32x4Splat = (refl, refl)
simd_numeric_told simd_numeric.F64x2Splat = (refl, refl)
simd_numeric_told simd_numeric.I8x16Eq = (refl, refl)
simd_numeric_told simd_numeric.I8x16Ne = (refl, refl)
simd_numeric_told simd_numeric.I8x16LtS = (refl, refl)
simd_numeric_told simd_numeric.I8x16LtU = (refl, refl)
simd_numeric_told simd_numeric.I8x16GtS = (refl, refl)
simd_numeric_told simd_numeric.I8x16GtU = (refl, refl)
simd_numeric_told simd_numeric.I8x16LeS = (refl, refl)
simd_numeric_told simd_numeric.I8x16LeU = (refl, refl)
simd_numeric_told simd_numeric.I8x16GeS = (refl, refl)
simd_numeric_told simd_numeric.I8x16GeU = (refl, refl)
simd_numeric_told simd_numeric.I16x8Eq = (refl, refl)
simd_numeric_told simd_numeric.I16x8Ne = (refl, refl)
simd_numeric_told simd_numeric.I16x8LtS = (refl, refl)
simd_numeric_told simd_numeric.I16x8LtU = (refl, refl)
simd_numeric_told simd_numeric.I16x8GtS = (refl, refl)
simd_numeric_told simd_numeric.I16x8GtU = (refl, refl)
simd_numeric_told simd_numeric.I16x8LeS = (refl, refl)
simd_numeric_told simd_numeric.I16x8LeU = (refl, refl)
simd_numeric_told simd_numeric.I16x8GeS = (refl, refl)
simd_numeric_told simd_numeric.I16x8GeU = (refl, refl)
simd_numeric_told simd_numeric.I32x4Eq = (refl, refl)
simd_numeric_told simd_numeric.I32x4Ne = (refl, refl)
simd_numeric_told simd_numeric.I32x4LtS = (refl, refl)
simd_numeric_told simd_numeric.I32x4LtU = (refl, refl)
simd_numeric_told simd_numeric.I32x4GtS = (refl, refl)
simd_numeric_told simd_numeric.I32x4GtU = (refl, refl)
simd_numeric_told simd_numeric.I32x4LeS = (refl, refl)
simd_numeric_told simd_numeric.I32x4LeU = (refl, refl)
simd_numeric_told simd_numeric.I32x4GeS = (refl, refl)
simd_numeric_told simd_numeric.I32x4GeU = (refl, refl)
simd_numeric_told simd_numeric.F32x4Eq = (refl, refl)
simd_numeric_told simd_numeric.F32x4Ne = (refl, refl)
simd_numeric_told simd_numeric.F32x4Lt = (refl, refl)
simd_numeric_told simd_numeric.F32x4Gt = (refl, refl)
simd_numeric_told simd_numeric.F32x4Le = (refl, refl)
simd_numeric_told simd_numeric.F32x4Ge = (refl, refl)
simd_numeric_told simd_numeric.F64x2Eq = (refl, refl)
simd_numeric_told simd_numeric.F64x2Ne = (refl, refl)
simd_numeric_told simd_numeric.F64x2Lt = (refl, refl)
simd_numeric_told simd_numeric.F64x2Gt = (refl, refl)
simd_numeric_told simd_numeric.F64x2Le = (refl, refl)
simd_numeric_told simd_numeric.F64x2Ge = (refl, refl)
simd_numeric_told simd_numeric.V128Not = (refl, refl)
simd_numeric_told simd_numeric.V128And = (refl, refl)
simd_numeric_told simd_numeric.V128AndNot = (refl, refl)
simd_numeric_told simd_numeric.V128Or = (refl, refl)
simd_numeric_told simd_numeric.V128Xor = (refl, refl)
simd_numeric_told simd_numeric.V128Bitselect = (refl, refl)
simd_numeric_told simd_numeric.V128AnyTrue = (refl, refl)
simd_numeric_told simd_numeric.F32x4DemoteF64x2Zero = (refl, refl)
simd_numeric_told simd_numeric.F64x2PromoteLowF32x4 = (refl, refl)
simd_numeric_told simd_numeric.I8x16Abs = (refl, refl)
simd_numeric_told simd_numeric.I8x16Neg = (refl, refl)
simd_numeric_told simd_numeric.I8x16Popcnt = (refl, refl)
simd_numeric_told simd_numeric.I8x16AllTrue = (refl, refl)
simd_numeric_told simd_numeric.I8x16Bitmask = (refl, refl)
simd_numeric_told simd_numeric.I8x16NarrowI16x8S = (refl, refl)
simd_numeric_told simd_numeric.I8x16NarrowI16x8U = (refl, refl)
simd_numeric_told simd_numeric.F32x4Ceil = (refl, refl)
simd_numeric_told simd_numeric.F32x4Floor = (refl, refl)
simd_numeric_told simd_numeric.F32x4Trunc = (refl, refl)
simd_numeric_told simd_numeric.F32x4Nearest = (refl, refl)
simd_numeric_told simd_numeric.I8x16Shl = (refl, refl)
simd_numeric_told simd_numeric.I8x16ShrS = (refl, refl)
simd_numeric_told simd_numeric.I8x16ShrU = (refl, refl)
simd_numeric_told simd_numeric.I8x16Add = (refl, refl)
simd_numeric_told simd_numeric.I8x16AddSatS = (refl, refl)
simd_numeric_told simd_numeric.I8x16AddSatU = (refl, refl)
simd_numeric_told simd_numeric.I8x16Sub = (refl, refl)
simd_numeric_told simd_numeric.I8x16SubSatS = (refl, refl)
simd_numeric_told simd_numeric.I8x16SubSatU = (refl, refl)
simd_numeric_told simd_numeric.F64x2Ceil = (refl, refl)
simd_numeric_told simd_numeric.F64x2Floor = (refl, refl)
simd_numeric_told simd_numeric.I8x16MinS = (refl, refl)
simd_numeric_told simd_numeric.I8x16MinU = (refl, refl)
simd_numeric_told simd_numeric.I8x16MaxS = (refl, refl)
simd_numeric_told simd_numeric.I8x16MaxU = (refl, refl)
simd_numeric_told simd_numeric.F64x2Trunc = (refl, refl)
simd_numeric_told simd_numeric.I8x16AvgrU = (refl, refl)
simd_numeric_told simd_numeric.I16x8ExtAddPairwiseI8x16S = (refl, refl)
simd_numeric_told simd_numeric.I16x8ExtAddPairwiseI8x16U = (refl, refl)
simd_numeric_told simd_numeric.I32x4ExtAddPairwiseI16x8S = (refl, refl)
simd_numeric_told simd_numeric.I32x4ExtAddPairwiseI16x8U = (refl, refl)
simd_numeric_told simd_numeric.I16x8Abs = (refl, refl)
simd_numeric_told simd_numeric.I16x8Neg = (refl, refl)
simd_numeric_told simd_numeric.I16x8Q15MulrSatS = (refl, refl)
simd_numeric_told simd_numeric.I16x8AllTrue = (refl, refl)
simd_numeric_told simd_numeric.I16x8Bitmask = (refl, refl)
simd_numeric_told simd_numeric.I16x8NarrowI32x4S = (refl, refl)
simd_numeric_told simd_numeric.I16x8NarrowI32x4U = (refl, refl)
simd_numeric_told simd_numeric.I16x8ExtendLowI8x16S = (refl, refl)
simd_numeric_told simd_numeric.I16x8ExtendHighI8x16S = (refl, refl)
simd_numeric_told simd_numeric.I16x8ExtendLowI8x16U = (refl, refl)
simd_numeric_told simd_numeric.I16x8ExtendHighI8x16U = (refl, refl)
simd_numeric_told simd_numeric.I16x8Shl = (refl, refl)
simd_numeric_told simd_numeric.I16x8ShrS = (refl, refl)
simd_numeric_told simd_numeric.I16x8ShrU = (refl, refl)
simd_numeric_told simd_numeric.I16x8Add = (refl, refl)
simd_numeric_told simd_numeric.I16x8AddSatS = (refl, refl)
simd_numeric_told simd_numeric.I16x8AddSatU = (refl, refl)
simd_numeric_told simd_numeric.I16x8Sub = (refl, refl)
simd_numeric_told simd_numeric.I16x8SubSatS = (refl, refl)
simd_numeric_told simd_numeric.I16x8SubSatU = (refl, refl)
simd_numeric_told simd_numeric.F64x2Nearest = (refl, refl)
simd_numeric_told simd_numeric.I16x8Mul = (refl, refl)
simd_numeric_told simd_numeric.I16x8MinS = (refl, refl)
simd_numeric_told simd_numeric.I16x8MinU = (refl, refl)
simd_numeric_told simd_numeric.I16x8MaxS = (refl, refl)
simd_numeric_told simd_numeric.I16x8MaxU = (refl, refl)
simd_numeric_told simd_numeric.I16x8AvgrU = (refl, refl)
simd_numeric_told simd_numeric.I16x8ExtMulLowI8x16S = (refl, refl)
simd_numeric_told simd_numeric.I16x8ExtMulHighI8x16S = (refl, refl)
simd_numeric_told simd_numeric.I16x8ExtMulLowI8x16U = (refl, refl)
simd_numeric_told simd_numeric.I16x8ExtMulHighI8x16U = (refl, refl)
simd_numeric_told simd_numeric.I32x4Abs = (refl, refl)
simd_numeric_told simd_numeric.I32x4Neg = (refl, refl)
simd_numeric_told simd_numeric.I32x4AllTrue = (refl, refl)
simd_numeric_told simd_numeric.I32x4Bitmask = (refl, refl)
simd_numeric_told simd_numeric.I32x4ExtendLowI16x8S = (refl, refl)
simd_numeric_told simd_numeric.I32x4ExtendHighI16x8S = (refl, refl)
simd_numeric_told simd_numeric.I32x4ExtendLowI16x8U = (refl, refl)
simd_numeric_told simd_numeric.I32x4ExtendHighI16x8U = (refl, refl)
simd_numeric_told simd_numeric.I32x4Shl = (refl, refl)
simd_numeric_told simd_numeric.I32x4ShrS = (refl, refl)
simd_numeric_told simd_numeric.I32x4ShrU = (refl, refl)
simd_numeric_told simd_numeric.I32x4Add = (refl, refl)
simd_numeric_told simd_numeric.I32x4Sub = (refl, refl)
simd_numeric_told simd_numeric.I32x4Mul = (refl, refl)
simd_numeric_told simd_numeric.I32x4MinS = (refl, refl)
simd_numeric_told simd_numeric.I32x4MinU = (refl, refl)
simd_numeric_told simd_numeric.I32x4MaxS = (refl, refl)
simd_numeric_told simd_numeric.I32x4MaxU = (refl, refl)
simd_numeric_told simd_numeric.I32x4DotI16x8S = (refl, refl)
simd_numeric_told simd_numeric.I32x4ExtMulLowI16x8S = (refl, refl)
simd_numeric_told simd_numeric.I32x4ExtMulHighI16x8S = (refl, refl)
simd_numeric_told simd_numeric.I32x4ExtMulLowI16x8U = (refl, refl)
simd_numeric_told simd_numeric.I32x4ExtMulHighI16x8U = (refl, refl)
simd_numeric_told simd_numeric.I64x2Abs = (refl, refl)
simd_numeric_told simd_numeric.I64x2Neg = (refl, refl)
simd_numeric_told simd_numeric.I64x2AllTrue = (refl, refl)
simd_numeric_told simd_numeric.I64x2Bitmask = (refl, refl)
simd_numeric_told simd_numeric.I64x2ExtendLowI32x4S = (refl, refl)
simd_numeric_told simd_numeric.I64x2ExtendHighI32x4S = (refl, refl)
simd_numeric_told simd_numeric.I64x2ExtendLowI32x4U = (refl, refl)
simd_numeric_told simd_numeric.I64x2ExtendHighI32x4U = (refl, refl)
simd_numeric_told simd_numeric.I64x2Shl = (refl, refl)
simd_numeric_told simd_numeric.I64x2ShrS = (refl, refl)
simd_numeric_told simd_numeric.I64x2ShrU = (refl, refl)
simd_numeric_told simd_numeric.I64x2Add = (refl, refl)
simd_numeric_told simd_numeric.I64x2Sub = (refl, refl)
simd_numeric_told simd_numeric.I64x2Mul = (refl, refl)
simd_numeric_told simd_numeric.I64x2Eq = (refl, refl)
simd_numeric_told simd_numeric.I64x2Ne = (refl, refl)
simd_numeric_told simd_numeric.I64x2LtS = (refl, refl)
simd_numeric_told simd_numeric.I64x2GtS = (refl, refl)
simd_numeric_told simd_numeric.I64x2LeS = (refl, refl)
simd_numeric_told simd_numeric.I64x2GeS = (refl, refl)
simd_numeric_told simd_numeric.I64x2ExtMulLowI32x4S = (refl, refl)
simd_numeric_told simd_numeric.I64x2ExtMulHighI32x4S = (refl, refl)
simd_numeric_told simd_numeric.I64x2ExtMulLowI32x4U = (refl, refl)
simd_numeric_told simd_numeric.I64x2ExtMulHighI32x4U = (refl, refl)
simd_numeric_told simd_numeric.F32x4Abs = (refl, refl)
simd_numeric_told simd_numeric.F32x4Neg = (refl, refl)
simd_numeric_told simd_numeric.F32x4Sqrt = (refl, refl)
simd_numeric_told simd_numeric.F32x4Add = (refl, refl)
simd_numeric_told simd_numeric.F32x4Sub = (refl, refl)
simd_numeric_told simd_numeric.F32x4Mul = (refl, refl)
simd_numeric_told simd_numeric.F32x4Div = (refl, refl)
simd_numeric_told simd_numeric.F32x4Min = (refl, refl)
simd_numeric_told simd_numeric.F32x4Max = (refl, refl)
simd_numeric_told simd_numeric.F32x4PMin = (refl, refl)
simd_numeric_told simd_numeric.F32x4PMax = (refl, refl)
simd_numeric_told simd_numeric.F64x2Abs = (refl, refl)
simd_numeric_told simd_numeric.F64x2Neg = (refl, refl)
simd_numeric_told simd_numeric.F64x2Sqrt = (refl, refl)
simd_numeric_told simd_numeric.F64x2Add = (refl, refl)
simd_numeric_told simd_numeric.F64x2Sub = (refl, refl)
simd_numeric_told simd_numeric.F64x2Mul = (refl, refl)
simd_numeric_told simd_numeric.F64x2Div = (refl, refl)
simd_numeric_told simd_numeric.F64x2Min = (refl, refl)
simd_numeric_told simd_numeric.F64x2Max = (refl, refl)
simd_numeric_told simd_numeric.F64x2PMin = (refl, refl)
simd_numeric_told simd_numeric.F64x2PMax = (refl, refl)
simd_numeric_told simd_numeric.I32x4TruncSatF32x4S = (refl, refl)
simd_numeric_told simd_numeric.I32x4TruncSatF32x4U = (refl, refl)
simd_numeric_told simd_numeric.F32x4ConvertI32x4S = (refl, refl)
simd_numeric_told simd_numeric.F32x4ConvertI32x4U = (refl, refl)
simd_numeric_told simd_numeric.I32x4TruncSatF64x2SZero = (refl, refl)
simd_numeric_told simd_numeric.I32x4TruncSatF64x2UZero = (refl, refl)
simd_numeric_told simd_numeric.F64x2ConvertLowI32x4S = (refl, refl)
simd_numeric_told simd_numeric.F64x2ConvertLowI32x4U = (refl, refl)
simd_numeric_told simd_numeric.I8x16RelaxedSwizzle = (refl, refl)
simd_numeric_told simd_numeric.I32x4RelaxedTruncF32x4S = (refl, refl)
simd_numeric_told simd_numeric.I32x4RelaxedTruncF32x4U = (refl, refl)
simd_numeric_told simd_numeric.I32x4RelaxedTruncF64x2SZero = (refl, refl)
simd_numeric_told simd_numeric.I32x4RelaxedTruncF64x2UZero = (refl, refl)
simd_numeric_told simd_numeric.F32x4RelaxedMadd = (refl, refl)
simd_numeric_told simd_numeric.F32x4RelaxedNmadd = (refl, refl)
simd_numeric_told simd_numeric.F64x2RelaxedMadd = (refl, refl)
simd_numeric_told simd_numeric.F64x2RelaxedNmadd = (refl, refl)
simd_numeric_told simd_numeric.I8x16RelaxedLaneselect = (refl, refl)
simd_numeric_told simd_numeric.I16x8RelaxedLaneselect = (refl, refl)
simd_numeric_told simd_numeric.I32x4RelaxedLaneselect = (refl, refl)
simd_numeric_told simd_numeric.I64x2RelaxedLaneselect = (refl, refl)
simd_numeric_told simd_numeric.F32x4RelaxedMin = (refl, refl)
simd_numeric_told simd_numeric.F32x4RelaxedMax = (refl, refl)
simd_numeric_told simd_numeric.F64x2RelaxedMin = (refl, refl)
simd_numeric_told simd_numeric.F64x2RelaxedMax = (refl, refl)
simd_numeric_told simd_numeric.I16x8RelaxedQ15mulrS = (refl, refl)
simd_numeric_told simd_numeric.I16x8RelaxedDotI8x16I7x16S = (refl, refl)
simd_numeric_told simd_numeric.I32x4RelaxedDotI8x16I7x16AddS = (refl, refl)

pub simd_numeric_made : (o : SimdNumericOperator) → Made simd_numeric_info simd_numeric_immediates (map kind_of) simd_numeric_list o
simd_numeric_made simd_numeric.I8x16Swizzle = refl
simd_numeric_made simd_numeric.I8x16Splat = refl
simd_numeric_made simd_numeric.I16x8Splat = refl
simd_numeric_made simd_numeric.I32x4Splat = refl
simd_numeric_made simd_numeric.I64x2Splat = refl
simd_numeric_made simd_numeric.F32x4Splat = refl
simd_numeric_made simd_numeric.F64x2Splat = refl
simd_numeric_made simd_numeric.I8x16Eq = refl
simd_numeric_made simd_numeric.I8x16Ne = refl
simd_numeric_made simd_numeric.I8x16LtS = refl
simd_numeric_made simd_numeric.I8x16LtU = refl
simd_numeric_made simd_numeric.I8x16GtS = refl
simd_numeric_made simd_numeric.I8x16GtU = refl
simd_numeric_made simd_numeric.I8x16LeS = refl
simd_numeric_made simd_numeric.I8x16LeU = refl
simd_numeric_made simd_numeric.I8x16GeS = refl
simd_numeric_made simd_numeric.I8x16GeU = refl
simd_numeric_made simd_numeric.I16x8Eq = refl
simd_numeric_made simd_numeric.I16x8Ne = refl
simd_numeric_made simd_numeric.I16x8LtS = refl
simd_numeric_made simd_numeric.I16x8LtU = refl
simd_numeric_made simd_numeric.I16x8GtS = refl
simd_numeric_made simd_numeric.I16x8GtU = refl
simd_numeric_made simd_numeric.I16x8LeS = refl
simd_numeric_made simd_numeric.I16x8LeU = refl
simd_numeric_made simd_numeric.I16x8GeS = refl
simd_numeric_made simd_numeric.I16x8GeU = refl
simd_numeric_made simd_numeric.I32x4Eq = refl
simd_numeric_made simd_numeric.I32x4Ne = refl
simd_numeric_made simd_numeric.I32x4LtS = refl
simd_numeric_made simd_numeric.I32x4LtU = refl
simd_numeric_made simd_numeric.I32x4GtS = refl
simd_numeric_made simd_numeric.I32x4GtU = refl
simd_numeric_made simd_numeric.I32x4LeS = refl
simd_numeric_made simd_numeric.I32x4LeU = refl
simd_numeric_made simd_numeric.I32x4GeS = refl
simd_numeric_made simd_numeric.I32x4GeU = refl
simd_numeric_made simd_numeric.F32x4Eq = refl
simd_numeric_made simd_numeric.F32x4Ne = refl
simd_numeric_made simd_numeric.F32x4Lt = refl
simd_numeric_made simd_numeric.F32x4Gt = refl
simd_numeric_made simd_numeric.F32x4Le = refl
simd_numeric_made simd_numeric.F32x4Ge = refl
simd_numeric_made simd_numeric.F64x2Eq = refl
simd_numeric_made simd_numeric.F64x2Ne = refl
simd_numeric_made simd_numeric.F64x2Lt = refl
simd_numeric_made simd_numeric.F64x2Gt = refl
simd_numeric_made simd_numeric.F64x2Le = refl
simd_numeric_made simd_numeric.F64x2Ge = refl
simd_numeric_made simd_numeric.V128Not = refl
simd_numeric_made simd_numeric.V128And = refl
simd_numeric_made simd_numeric.V128AndNot = refl
simd_numeric_made simd_numeric.V128Or = refl
simd_numeric_made simd_numeric.V128Xor = refl
simd_numeric_made simd_numeric.V128Bitselect = refl
simd_numeric_made simd_numeric.V128AnyTrue = refl
simd_numeric_made simd_numeric.F32x4DemoteF64x2Zero = refl
simd_numeric_made simd_numeric.F64x2PromoteLowF32x4 = refl
simd_numeric_made simd_numeric.I8x16Abs = refl
simd_numeric_made simd_numeric.I8x16Neg = refl
simd_numeric_made simd_numeric.I8x16Popcnt = refl
simd_numeric_made simd_numeric.I8x16AllTrue = refl
simd_numeric_made simd_numeric.I8x16Bitmask = refl
simd_numeric_made simd_numeric.I8x16NarrowI16x8S = refl
simd_numeric_made simd_numeric.I8x16NarrowI16x8U = refl
simd_numeric_made simd_numeric.F32x4Ceil = refl
simd_numeric_made simd_numeric.F32x4Floor = refl
simd_numeric_made simd_numeric.F32x4Trunc = refl
simd_numeric_made simd_numeric.F32x4Nearest = refl
simd_numeric_made simd_numeric.I8x16Shl = refl
simd_numeric_made simd_numeric.I8x16ShrS = refl
simd_numeric_made simd_numeric.I8x16ShrU = refl
simd_numeric_made simd_numeric.I8x16Add = refl
simd_numeric_made simd_numeric.I8x16AddSatS = refl
simd_numeric_made simd_numeric.I8x16AddSatU = refl
simd_numeric_made simd_numeric.I8x16Sub = refl
simd_numeric_made simd_numeric.I8x16SubSatS = refl
simd_numeric_made simd_numeric.I8x16SubSatU = refl
simd_numeric_made simd_numeric.F64x2Ceil = refl
simd_numeric_made simd_numeric.F64x2Floor = refl
simd_numeric_made simd_numeric.I8x16MinS = refl
simd_numeric_made simd_numeric.I8x16MinU = refl
simd_numeric_made simd_numeric.I8x16MaxS = refl
simd_numeric_made simd_numeric.I8x16MaxU = refl
simd_numeric_made simd_numeric.F64x2Trunc = refl
simd_numeric_made simd_numeric.I8x16AvgrU = refl
simd_numeric_made simd_numeric.I16x8ExtAddPairwiseI8x16S = refl
simd_numeric_made simd_numeric.I16x8ExtAddPairwiseI8x16U = refl
simd_numeric_made simd_numeric.I32x4ExtAddPairwiseI16x8S = refl
simd_numeric_made simd_numeric.I32x4ExtAddPairwiseI16x8U = refl
simd_numeric_made simd_numeric.I16x8Abs = refl
simd_numeric_made simd_numeric.I16x8Neg = refl
simd_numeric_made simd_numeric.I16x8Q15MulrSatS = refl
simd_numeric_made simd_numeric.I16x8AllTrue = refl
simd_numeric_made simd_numeric.I16x8Bitmask = refl
simd_numeric_made simd_numeric.I16x8NarrowI32x4S = refl
simd_numeric_made simd_numeric.I16x8NarrowI32x4U = refl
simd_numeric_made simd_numeric.I16x8ExtendLowI8x16S = refl
simd_numeric_made simd_numeric.I16x8ExtendHighI8x16S = refl
simd_numeric_made simd_numeric.I16x8ExtendLowI8x16U = refl
simd_numeric_made simd_numeric.I16x8ExtendHighI8x16U = refl
simd_numeric_made simd_numeric.I16x8Shl = refl
simd_numeric_made simd_numeric.I16x8ShrS = refl
simd_numeric_made simd_numeric.I16x8ShrU = refl
simd_numeric_made simd_numeric.I16x8Add = refl
simd_numeric_made simd_numeric.I16x8AddSatS = refl
simd_numeric_made simd_numeric.I16x8AddSatU = refl
simd_numeric_made simd_numeric.I16x8Sub = refl
simd_numeric_made simd_numeric.I16x8SubSatS = refl
simd_numeric_made simd_numeric.I16x8SubSatU = refl
simd_numeric_made simd_numeric.F64x2Nearest = refl
simd_numeric_made simd_numeric.I16x8Mul = refl
simd_numeric_made simd_numeric.I16x8MinS = refl
simd_numeric_made simd_numeric.I16x8MinU = refl
simd_numeric_made simd_numeric.I16x8MaxS = refl
simd_numeric_made simd_numeric.I16x8MaxU = refl
simd_numeric_made simd_numeric.I16x8AvgrU = refl
simd_numeric_made simd_numeric.I16x8ExtMulLowI8x16S = refl
simd_numeric_made simd_numeric.I16x8ExtMulHighI8x16S = refl
simd_numeric_made simd_numeric.I16x8ExtMulLowI8x16U = refl
simd_numeric_made simd_numeric.I16x8ExtMulHighI8x16U = refl
simd_numeric_made simd_numeric.I32x4Abs = refl
simd_numeric_made simd_numeric.I32x4Neg = refl
simd_numeric_made simd_numeric.I32x4AllTrue = refl
simd_numeric_made simd_numeric.I32x4Bitmask = refl
simd_numeric_made simd_numeric.I32x4ExtendLowI16x8S = refl
simd_numeric_made simd_numeric.I32x4ExtendHighI16x8S = refl
simd_numeric_made simd_numeric.I32x4ExtendLowI16x8U = refl
simd_numeric_made simd_numeric.I32x4ExtendHighI16x8U = refl
simd_numeric_made simd_numeric.I32x4Shl = refl
simd_numeric_made simd_numeric.I32x4ShrS = refl
simd_numeric_made simd_numeric.I32x4ShrU = refl
simd_numeric_made simd_numeric.I32x4Add = refl
simd_numeric_made simd_numeric.I32x4Sub = refl
simd_numeric_made simd_numeric.I32x4Mul = refl
simd_numeric_made simd_numeric.I32x4MinS = refl
simd_numeric_made simd_numeric.I32x4MinU = refl
simd_numeric_made simd_numeric.I32x4MaxS = refl
simd_numeric_made simd_numeric.I32x4MaxU = refl
simd_numeric_made simd_numeric.I32x4DotI16x8S = refl
simd_numeric_made simd_numeric.I32x4ExtMulLowI16x8S = refl
simd_numeric_made simd_numeric.I32x4ExtMulHighI16x8S = refl
simd_numeric_made simd_numeric.I32x4ExtMulLowI16x8U = refl
simd_numeric_made simd_numeric.I32x4ExtMulHighI16x8U = refl
simd_numeric_made simd_numeric.I64x2Abs = refl
simd_numeric_made simd_numeric.I64x2Neg = refl
simd_numeric_made simd_numeric.I64x2AllTrue = refl
simd_numeric_made simd_numeric.I64x2Bitmask = refl
simd_numeric_made simd_numeric.I64x2ExtendLowI32x4S = refl
simd_numeric_made simd_numeric.I64x2ExtendHighI32x4S = refl
simd_numeric_made simd_numeric.I64x2ExtendLowI32x4U = refl
simd_numeric_made simd_numeric.I64x2ExtendHighI32x4U = refl
simd_numeric_made simd_numeric.I64x2Shl = refl
simd_numeric_made simd_numeric.I64x2ShrS = refl
simd_numeric_made simd_numeric.I64x2ShrU = refl
simd_numeric_made simd_numeric.I64x2Add = refl
simd_numeric_made simd_numeric.I64x2Sub = refl
simd_numeric_made simd_numeric.I64x2Mul = refl
simd_numeric_made simd_numeric.I64x2Eq = refl
simd_numeric_made simd_numeric.I64x2Ne = refl
simd_numeric_made simd_numeric.I64x2LtS = refl
simd_numeric_made simd_numeric.I64x2GtS = refl
simd_numeric_made simd_numeric.I64x2LeS = refl
simd_numeric_made simd_numeric.I64x2GeS = refl
simd_numeric_made simd_numeric.I64x2ExtMulLowI32x4S = refl
simd_numeric_made simd_numeric.I64x2ExtMulHighI32x4S = refl
simd_numeric_made simd_numeric.I64x2ExtMulLowI32x4U = refl
simd_numeric_made simd_numeric.I64x2ExtMulHighI32x4U = refl
simd_numeric_made simd_numeric.F32x4Abs = refl
simd_numeric_made simd_numeric.F32x4Neg = refl
simd_numeric_made simd_numeric.F32x4Sqrt = refl
simd_numeric_made simd_numeric.F32x4Add = refl
simd_numeric_made simd_numeric.F32x4Sub = refl
simd_numeric_made simd_numeric.F32x4Mul = refl
simd_numeric_made simd_numeric.F32x4Div = refl
simd_numeric_made simd_numeric.F32x4Min = refl
simd_numeric_made simd_numeric.F32x4Max = refl
simd_numeric_made simd_numeric.F32x4PMin = refl
simd_numeric_made simd_numeric.F32x4PMax = refl
simd_numeric_made simd_numeric.F64x2Abs = refl
simd_numeric_made simd_numeric.F64x2Neg = refl
simd_numeric_made simd_numeric.F64x2Sqrt = refl
simd_numeric_made simd_numeric.F64x2Add = refl
simd_numeric_made simd_numeric.F64x2Sub = refl
simd_numeric_made simd_numeric.F64x2Mul = refl
simd_numeric_made simd_numeric.F64x2Div = refl
simd_numeric_made simd_numeric.F64x2Min = refl
simd_numeric_made simd_numeric.F64x2Max = refl
simd_numeric_made simd_numeric.F64x2PMin = refl
simd_numeric_made simd_numeric.F64x2PMax = refl
simd_numeric_made simd_numeric.I32x4TruncSatF32x4S = refl
simd_numeric_made simd_numeric.I32x4TruncSatF32x4U = refl
simd_numeric_made simd_numeric.F32x4ConvertI32x4S = refl
simd_numeric_made simd_numeric.F32x4ConvertI32x4U = refl
simd_numeric_made simd_numeric.I32x4TruncSatF64x2SZero = refl
simd_numeric_made simd_numeric.I32x4TruncSatF64x2UZero = refl
simd_numeric_made simd_numeric.F64x2ConvertLowI32x4S = refl
simd_numeric_made simd_numeric.F64x2ConvertLowI32x4U = refl
simd_numeric_made simd_numeric.I8x16RelaxedSwizzle = refl
simd_numeric_made simd_numeric.I32x4RelaxedTruncF32x4S = refl
simd_numeric_made simd_numeric.I32x4RelaxedTruncF32x4U = refl
simd_numeric_made simd_numeric.I32x4RelaxedTruncF64x2SZero = refl
simd_numeric_made simd_numeric.I32x4RelaxedTruncF64x2UZero = refl
simd_numeric_made simd_numeric.F32x4RelaxedMadd = refl
simd_numeric_made simd_numeric.F32x4RelaxedNmadd = refl
simd_numeric_made simd_numeric.F64x2RelaxedMadd = refl
simd_numeric_made simd_numeric.F64x2RelaxedNmadd = refl
simd_numeric_made simd_numeric.I8x16RelaxedLaneselect = refl
simd_numeric_made simd_numeric.I16x8RelaxedLaneselect = refl
simd_numeric_made simd_numeric.I32x4RelaxedLaneselect = refl
simd_numeric_made simd_numeric.I64x2RelaxedLaneselect = refl
simd_numeric_made simd_numeric.F32x4RelaxedMin = refl
simd_numeric_made simd_numeric.F32x4RelaxedMax = refl
simd_numeric_made simd_numeric.F64x2RelaxedMin = refl
simd_numeric_made simd_numeric.F64x2RelaxedMax = refl
simd_numeric_made simd_numeric.I16x8RelaxedQ15mulrS = refl
simd_numeric_made simd_numeric.I16x8RelaxedDotI8x16I7x16S = refl
simd_numeric_made simd_numeric.I32x4RelaxedDotI8x16I7x16AddS = refl
