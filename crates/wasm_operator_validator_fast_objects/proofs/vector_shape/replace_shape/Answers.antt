-- Each of them has its shape.
use Rattle.std.proofs.Common.{refl}
use Rattle.wasm_operators_enums.specs.declared.vector.SimdOperator.TheVariants as simd
use Rattle.wasm_operator_validator_rules.specs.Vectors as works
use Rattle.wasm_operator_validator_fast_objects.proofs.VectorCodes.{of_lane}
use Rattle.wasm_operator_validator_fast_objects.proofs.vector_shape.replace_shape.Goals as goal

pub returns-in-23 : goal.returns-in-23
returns-in-23 c lt = of_lane (λ l. simd.I8x16ReplaceLane l) (works.replace works.i8x16) c.in-23.is (λ l. refl) (λ l. refl) (λ l. refl) (λ l. refl) (λ ids. refl) (λ ids. refl)

pub returns-in-26 : goal.returns-in-26
returns-in-26 c lt = of_lane (λ l. simd.I16x8ReplaceLane l) (works.replace works.i16x8) c.in-26.is (λ l. refl) (λ l. refl) (λ l. refl) (λ l. refl) (λ ids. refl) (λ ids. refl)

pub returns-in-28 : goal.returns-in-28
returns-in-28 c lt = of_lane (λ l. simd.I32x4ReplaceLane l) (works.replace works.i32x4) c.in-28.is (λ l. refl) (λ l. refl) (λ l. refl) (λ l. refl) (λ ids. refl) (λ ids. refl)

pub returns-in-30 : goal.returns-in-30
returns-in-30 c lt = of_lane (λ l. simd.I64x2ReplaceLane l) (works.replace works.i64x2) c.in-30.is (λ l. refl) (λ l. refl) (λ l. refl) (λ l. refl) (λ ids. refl) (λ ids. refl)

pub returns-in-32 : goal.returns-in-32
returns-in-32 c lt = of_lane (λ l. simd.F32x4ReplaceLane l) (works.replace works.f32x4) c.in-32.is (λ l. refl) (λ l. refl) (λ l. refl) (λ l. refl) (λ ids. refl) (λ ids. refl)

pub returns-in-34 : goal.returns-in-34
returns-in-34 c lt = of_lane (λ l. simd.F64x2ReplaceLane l) (works.replace works.f64x2) c.in-34.is (λ l. refl) (λ l. refl) (λ l. refl) (λ l. refl) (λ ids. refl) (λ ids. refl)
