-- Each load has its shape.
use Rattle.std.proofs.Common.{refl}
use Rattle.wasm_operators_enums.specs.declared.vector.SimdOperator.TheVariants as simd
use Rattle.wasm_operator_validator_fast_objects.proofs.VectorCodes.{reaching}
use Rattle.wasm_operator_validator_fast_objects.proofs.vector_shape.vector_load_shape.Goals as goal

pub returns-in-0 : goal.returns-in-0
returns-in-0 c lt = reaching (λ a. simd.V128Load a) c.in-0.is (λ a. refl) (λ a. refl) (λ a. refl) (λ a. refl)

pub returns-in-1 : goal.returns-in-1
returns-in-1 c lt = reaching (λ a. simd.V128Load8x8S a) c.in-1.is (λ a. refl) (λ a. refl) (λ a. refl) (λ a. refl)

pub returns-in-2 : goal.returns-in-2
returns-in-2 c lt = reaching (λ a. simd.V128Load8x8U a) c.in-2.is (λ a. refl) (λ a. refl) (λ a. refl) (λ a. refl)

pub returns-in-3 : goal.returns-in-3
returns-in-3 c lt = reaching (λ a. simd.V128Load16x4S a) c.in-3.is (λ a. refl) (λ a. refl) (λ a. refl) (λ a. refl)

pub returns-in-4 : goal.returns-in-4
returns-in-4 c lt = reaching (λ a. simd.V128Load16x4U a) c.in-4.is (λ a. refl) (λ a. refl) (λ a. refl) (λ a. refl)

pub returns-in-5 : goal.returns-in-5
returns-in-5 c lt = reaching (λ a. simd.V128Load32x2S a) c.in-5.is (λ a. refl) (λ a. refl) (λ a. refl) (λ a. refl)

pub returns-in-6 : goal.returns-in-6
returns-in-6 c lt = reaching (λ a. simd.V128Load32x2U a) c.in-6.is (λ a. refl) (λ a. refl) (λ a. refl) (λ a. refl)

pub returns-in-7 : goal.returns-in-7
returns-in-7 c lt = reaching (λ a. simd.V128Load8Splat a) c.in-7.is (λ a. refl) (λ a. refl) (λ a. refl) (λ a. refl)

pub returns-in-8 : goal.returns-in-8
returns-in-8 c lt = reaching (λ a. simd.V128Load16Splat a) c.in-8.is (λ a. refl) (λ a. refl) (λ a. refl) (λ a. refl)

pub returns-in-9 : goal.returns-in-9
returns-in-9 c lt = reaching (λ a. simd.V128Load32Splat a) c.in-9.is (λ a. refl) (λ a. refl) (λ a. refl) (λ a. refl)

pub returns-in-10 : goal.returns-in-10
returns-in-10 c lt = reaching (λ a. simd.V128Load64Splat a) c.in-10.is (λ a. refl) (λ a. refl) (λ a. refl) (λ a. refl)

pub returns-in-92 : goal.returns-in-92
returns-in-92 c lt = reaching (λ a. simd.V128Load32Zero a) c.in-92.is (λ a. refl) (λ a. refl) (λ a. refl) (λ a. refl)

pub returns-in-93 : goal.returns-in-93
returns-in-93 c lt = reaching (λ a. simd.V128Load64Zero a) c.in-93.is (λ a. refl) (λ a. refl) (λ a. refl) (λ a. refl)
