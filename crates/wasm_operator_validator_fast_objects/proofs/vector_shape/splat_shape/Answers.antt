-- Each of them has its shape.
use Rattle.std.proofs.Common.{refl}
use Rattle.wasm_operators_enums.specs.declared.vector_numeric.SimdNumericOperator.TheVariants as lanes
use Rattle.wasm_operator_validator_fast_objects.proofs.VectorCodes.{numeric}
use Rattle.wasm_operator_validator_fast_objects.proofs.vector_shape.splat_shape.Goals as goal

pub returns-in-15 : goal.returns-in-15
returns-in-15 c lt = numeric lanes.I8x16Splat c.in-15.is refl refl (λ ids. refl) (λ ids. refl)

pub returns-in-16 : goal.returns-in-16
returns-in-16 c lt = numeric lanes.I16x8Splat c.in-16.is refl refl (λ ids. refl) (λ ids. refl)

pub returns-in-17 : goal.returns-in-17
returns-in-17 c lt = numeric lanes.I32x4Splat c.in-17.is refl refl (λ ids. refl) (λ ids. refl)

pub returns-in-18 : goal.returns-in-18
returns-in-18 c lt = numeric lanes.I64x2Splat c.in-18.is refl refl (λ ids. refl) (λ ids. refl)

pub returns-in-19 : goal.returns-in-19
returns-in-19 c lt = numeric lanes.F32x4Splat c.in-19.is refl refl (λ ids. refl) (λ ids. refl)

pub returns-in-20 : goal.returns-in-20
returns-in-20 c lt = numeric lanes.F64x2Splat c.in-20.is refl refl (λ ids. refl) (λ ids. refl)
