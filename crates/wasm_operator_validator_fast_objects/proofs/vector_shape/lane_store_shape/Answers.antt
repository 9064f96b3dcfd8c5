-- Each of them has its shape.
use Rattle.std.proofs.Common.{refl}
use Rattle.wasm_operators_enums.specs.declared.vector.SimdOperator.TheVariants as simd
use Rattle.wasm_operator_validator_fast_objects.proofs.VectorCodes.{reaching_lane}
use Rattle.wasm_operator_validator_fast_objects.proofs.vector_shape.lane_store_shape.Goals as goal

pub returns-in-88 : goal.returns-in-88
returns-in-88 c lt = reaching_lane (λ a l. simd.V128Store8Lane a l) c.in-88.is (λ a l. refl) (λ a l. refl) (λ a l. refl) (λ a l. refl)

pub returns-in-89 : goal.returns-in-89
returns-in-89 c lt = reaching_lane (λ a l. simd.V128Store16Lane a l) c.in-89.is (λ a l. refl) (λ a l. refl) (λ a l. refl) (λ a l. refl)

pub returns-in-90 : goal.returns-in-90
returns-in-90 c lt = reaching_lane (λ a l. simd.V128Store32Lane a l) c.in-90.is (λ a l. refl) (λ a l. refl) (λ a l. refl) (λ a l. refl)

pub returns-in-91 : goal.returns-in-91
returns-in-91 c lt = reaching_lane (λ a l. simd.V128Store64Lane a l) c.in-91.is (λ a l. refl) (λ a l. refl) (λ a l. refl) (λ a l. refl)
