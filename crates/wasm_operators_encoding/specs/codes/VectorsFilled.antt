-- Operators on vectors with immediates: each variant takes any immediates of its kinds.
use Rattle.std.proofs.Common.{true, map, refl}
use Rattle.wasm_operators_immediates.specs.Immediates.{kind_of}
use Rattle.wasm_operators_enums.specs.VectorsTable.{simd_info}
use Rattle.wasm_operators_enums.specs.VectorsImmediates.{simd_immediates}
use Rattle.wasm_operators_enums.specs.declared.vector.SimdOperator.{SimdOperator}
use Rattle.wasm_operators_enums.specs.declared.vector.SimdOperator.TheVariants as simd
use Rattle.wasm_operators_encoding.specs.codes.Carried.{Carriers}
use Rattle.wasm_operators_encoding.specs.codes.Filled.{IsMaker, Fills, fills}

-- ---- simd

simd_by : (o : SimdOperator) (f : Carriers (map kind_of (simd_immediates o)) → SimdOperator)
    → IsMaker simd_info simd_immediates (λ o. true) o f → Fills simd_info simd_immediates (λ o. true) o
simd_by o f m = fills simd_info simd_immediates (λ o. true) o f m

pub simd_fills : (o : SimdOperator) → Fills simd_info simd_immediates (λ o. true) o
simd_fills (simd.V128Load memarg) = simd_by (simd.V128Load memarg) (λ c. simd.V128Load c.0) (λ c. (refl, refl, refl, refl))
simd_fills (simd.V128Load8x8S memarg) = simd_by (simd.V128Load8x8S memarg) (λ c. simd.V128Load8x8S c.0) (λ c. (refl, refl, refl, refl))
simd_fills (simd.V128Load8x8U memarg) = simd_by (simd.V128Load8x8U memarg) (λ c. simd.V128Load8x8U c.0) (λ c. (refl, refl, refl, refl))
simd_fills (simd.V128Load16x4S memarg) = simd_by (simd.V128Load16x4S memarg) (λ c. simd.V128Load16x4S c.0) (λ c. (refl, refl, refl, refl))
simd_fills (simd.V128Load16x4U memarg) = simd_by (simd.V128Load16x4U memarg) (λ c. simd.V128Load16x4U c.0) (λ c. (refl, refl, refl, refl))
simd_fills (simd.V128Load32x2S memarg) = simd_by (simd.V128Load32x2S memarg) (λ c. simd.V128Load32x2S c.0) (λ c. (refl, refl, refl, refl))
simd_fills (simd.V128Load32x2U memarg) = simd_by (simd.V128Load32x2U memarg) (λ c. simd.V128Load32x2U c.0) (λ c. (refl, refl, refl, refl))
simd_fills (simd.V128Load8Splat memarg) = simd_by (simd.V128Load8Splat memarg) (λ c. simd.V128Load8Splat c.0) (λ c. (refl, refl, refl, refl))
simd_fills (simd.V128Load16Splat memarg) = simd_by (simd.V128Load16Splat memarg) (λ c. simd.V128Load16Splat c.0) (λ c. (refl, refl, refl, refl))
simd_fills (simd.V128Load32Splat memarg) = simd_by (simd.V128Load32Splat memarg) (λ c. simd.V128Load32Splat c.0) (λ c. (refl, refl, refl, refl))
simd_fills (simd.V128Load64Splat memarg) = simd_by (simd.V128Load64Splat memarg) (λ c. simd.V128Load64Splat c.0) (λ c. (refl, refl, refl, refl))
simd_fills (simd.V128Store memarg) = simd_by (simd.V128Store memarg) (λ c. simd.V128Store c.0) (λ c. (refl, refl, refl, refl))
simd_fills (simd.V128Const value) = simd_by (simd.V128Const value) (λ c. simd.V128Const c.0) (λ c. (refl, refl, refl, refl))
simd_fills (simd.I8x16Shuffle lanes) = simd_by (simd.I8x16Shuffle lanes) (λ c. simd.I8x16Shuffle c.0) (λ c. (refl, refl, refl, refl))
simd_fills (simd.I8x16ExtractLaneS lane) = simd_by (simd.I8x16ExtractLaneS lane) (λ c. simd.I8x16ExtractLaneS c.0) (λ c. (refl, refl, refl, refl))
simd_fills (simd.I8x16ExtractLaneU lane) = simd_by (simd.I8x16ExtractLaneU lane) (λ c. simd.I8x16ExtractLaneU c.0) (λ c. (refl, refl, refl, refl))
simd_fills (simd.I8x16ReplaceLane lane) = simd_by (simd.I8x16ReplaceLane lane) (λ c. simd.I8x16ReplaceLane c.0) (λ c. (refl, refl, refl, refl))
simd_fills (simd.I16x8ExtractLaneS lane) = simd_by (simd.I16x8ExtractLaneS lane) (λ c. simd.I16x8ExtractLaneS c.0) (λ c. (refl, refl, refl, refl))
simd_fills (simd.I16x8ExtractLaneU lane) = simd_by (simd.I16x8ExtractLaneU lane) (λ c. simd.I16x8ExtractLaneU c.0) (λ c. (refl, refl, refl, refl))
simd_fills (simd.I16x8ReplaceLane lane) = simd_by (simd.I16x8ReplaceLane lane) (λ c. simd.I16x8ReplaceLane c.0) (λ c. (refl, refl, refl, refl))
simd_fills (simd.I32x4ExtractLane lane) = simd_by (simd.I32x4ExtractLane lane) (λ c. simd.I32x4ExtractLane c.0) (λ c. (refl, refl, refl, refl))
simd_fills (simd.I32x4ReplaceLane lane) = simd_by (simd.I32x4ReplaceLane lane) (λ c. simd.I32x4ReplaceLane c.0) (λ c. (refl, refl, refl, refl))
simd_fills (simd.I64x2ExtractLane lane) = simd_by (simd.I64x2ExtractLane lane) (λ c. simd.I64x2ExtractLane c.0) (λ c. (refl, refl, refl, refl))
simd_fills (simd.I64x2ReplaceLane lane) = simd_by (simd.I64x2ReplaceLane lane) (λ c. simd.I64x2ReplaceLane c.0) (λ c. (refl, refl, refl, refl))
simd_fills (simd.F32x4ExtractLane lane) = simd_by (simd.F32x4ExtractLane lane) (λ c. simd.F32x4ExtractLane c.0) (λ c. (refl, refl, refl, refl))
simd_fills (simd.F32x4ReplaceLane lane) = simd_by (simd.F32x4ReplaceLane lane) (λ c. simd.F32x4ReplaceLane c.0) (λ c. (refl, refl, refl, refl))
simd_fills (simd.F64x2ExtractLane lane) = simd_by (simd.F64x2ExtractLane lane) (λ c. simd.F64x2ExtractLane c.0) (λ c. (refl, refl, refl, refl))
simd_fills (simd.F64x2ReplaceLane lane) = simd_by (simd.F64x2ReplaceLane lane) (λ c. simd.F64x2ReplaceLane c.0) (λ c. (refl, refl, refl, refl))
simd_fills (simd.V128Load8Lane memarg lane) = simd_by (simd.V128Load8Lane memarg lane) (λ c. simd.V128Load8Lane c.0 c.1.0) (λ c. (refl, refl, refl, refl))
simd_fills (simd.V128Load16Lane memarg lane) = simd_by (simd.V128Load16Lane memarg lane) (λ c. simd.V128Load16Lane c.0 c.1.0) (λ c. (refl, refl, refl, refl))
simd_fills (simd.V128Load32Lane memarg lane) = simd_by (simd.V128Load32Lane memarg lane) (λ c. simd.V128Load32Lane c.0 c.1.0) (λ c. (refl, refl, refl, refl))
simd_fills (simd.V128Load64Lane memarg lane) = simd_by (simd.V128Load64Lane memarg lane) (λ c. simd.V128Load64Lane c.0 c.1.0) (λ c. (refl, refl, refl, refl))
simd_fills (simd.V128Store8Lane memarg lane) = simd_by (simd.V128Store8Lane memarg lane) (λ c. simd.V128Store8Lane c.0 c.1.0) (λ c. (refl, refl, refl, refl))
simd_fills (simd.V128Store16Lane memarg lane) = simd_by (simd.V128Store16Lane memarg lane) (λ c. simd.V128Store16Lane c.0 c.1.0) (λ c. (refl, refl, refl, refl))
simd_fills (simd.V128Store32Lane memarg lane) = simd_by (simd.V128Store32Lane memarg lane) (λ c. simd.V128Store32Lane c.0 c.1.0) (λ c. (refl, refl, refl, refl))
simd_fills (simd.V128Store64Lane memarg lane) = simd_by (simd.V128Store64Lane memarg lane) (λ c. simd.V128Store64Lane c.0 c.1.0) (λ c. (refl, refl, refl, refl))
simd_fills (simd.V128Load32Zero memarg) = simd_by (simd.V128Load32Zero memarg) (λ c. simd.V128Load32Zero c.0) (λ c. (refl, refl, refl, refl))
simd_fills (simd.V128Load64Zero memarg) = simd_by (simd.V128Load64Zero memarg) (λ c. simd.V128Load64Zero c.0) (λ c. (refl, refl, refl, refl))
