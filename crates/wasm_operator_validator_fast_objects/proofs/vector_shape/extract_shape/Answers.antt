-- Each of them has its shape.
use Rattle.std.proofs.Common.{refl}
use Rattle.wasm_operators_enums.specs.declared.vector.SimdOperator.TheVariants as simd
use Rattle.wasm_operator_validator_rules.specs.Vectors as works
use Rattle.wasm_operator_validator_fast_objects.proofs.VectorCodes.{of_lane}
use Rattle.wasm_operator_validator_fast_objects.proofs.vector_shape.extract_shape.Goals as goal

pub returns-in-21 : goal.returns-in-21
returns-in-21 c lt = of_lane (λ l. simd.I8x16ExtractLaneS l) (works.extract works.i8x16) c.in-21.is (λ l. refl) (λ l. refl) (λ l. refl) (λ l. refl) (λ ids. refl) (λ ids. refl)

pub returns-in-22 : goal.returns-in-22
returns-in-22 c lt = of_lane (λ l. simd.I8x16ExtractLaneU l) (works.extract works.i8x16) c.in-22.is (λ l. refl) (λ l. refl) (λ l. refl) (λ l. refl) (λ ids. refl) (λ ids. refl)

pub returns-in-24 : goal.returns-in-24
returns-in-24 c lt = of_lane (λ l. simd.I16x8ExtractLaneS l) (works.extract works.i16x8) c.in-24.is (λ l. refl) (λ l. refl) (λ l. refl) (λ l. refl) (λ ids. refl) (λ ids. refl)

pub returns-in-25 : goal.returns-in-25
returns-in-25 c lt = of_lane (λ l. simd.I16x8ExtractLaneU l) (works.extract works.i16x8) c.in-25.is (λ l. refl) (λ l. refl) (λ l. refl) (λ l. refl) (λ ids. refl) (λ ids. refl)

pub returns-in-27 : goal.returns-in-27
returns-in-27 c lt = of_lane (λ l. simd.I32x4ExtractLane l) (works.extract works.i32x4) c.in-27.is (λ l. refl) (λ l. refl) (λ l. refl) (λ l. refl) (λ ids. refl) (λ ids. refl)

pub returns-in-29 : goal.returns-in-29
returns-in-29 c lt = of_lane (λ l. simd.I64x2ExtractLane l) (works.extract works.i64x2) c.in-29.is (λ l. refl) (λ l. refl) (λ l. refl) (λ l. refl) (λ ids. refl) (λ ids. refl)

pub returns-in-31 : goal.returns-in-31
returns-in-31 c lt = of_lane (λ l. simd.F32x4ExtractLane l) (works.extract works.f32x4) c.in-31.is (λ l. refl) (λ l. refl) (λ l. refl) (λ l. refl) (λ ids. refl) (λ ids. refl)

pub returns-in-33 : goal.returns-in-33
returns-in-33 c lt = of_lane (λ l. simd.F64x2ExtractLane l) (works.extract works.f64x2) c.in-33.is (λ l. refl) (λ l. refl) (λ l. refl) (λ l. refl) (λ ids. refl) (λ ids. refl)
