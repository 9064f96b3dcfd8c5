-- Each of them has its shape.
use Rattle.std.proofs.Common.{refl}
use Rattle.wasm_operators_enums.specs.declared.vector.SimdOperator.TheVariants as simd
use Rattle.wasm_operator_validator_fast_objects.proofs.VectorCodes.{reaching_lane}
use Rattle.wasm_operator_validator_fast_objects.proofs.vector_shape.lane_load_shape.Goals as goal

pub returns-in-84 : goal.returns-in-84
returns-in-84 c lt = reaching_lane (λ a l. simd.V128Load8Lane a l) c.in-84.is (λ a l. refl) (λ a l. refl) (λ a l. refl) (λ a l. refl)

pub returns-in-85 : goal.returns-in-85
returns-in-85 c lt = reaching_lane (λ a l. simd.V128Load16Lane a l) c.in-85.is (λ a l. refl) (λ a l. refl) (λ a l. refl) (λ a l. refl)

pub returns-in-86 : goal.returns-in-86
returns-in-86 c lt = reaching_lane (λ a l. simd.V128Load32Lane a l) c.in-86.is (λ a l. refl) (λ a l. refl) (λ a l. refl) (λ a l. refl)

pub returns-in-87 : goal.returns-in-87
returns-in-87 c lt = reaching_lane (λ a l. simd.V128Load64Lane a l) c.in-87.is (λ a l. refl) (λ a l. refl) (λ a l. refl) (λ a l. refl)
