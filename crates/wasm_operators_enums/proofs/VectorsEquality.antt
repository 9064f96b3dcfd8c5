-- `==` of operators on vectors: it holds of an operator and itself alone.
use Rattle.wasm_operators_immediates.proofs.Telling.{Identity, one, two, variants, tags, lists, ◌&◌}
use Rattle.wasm_operators_immediates.proofs.Equality.{numbers, arguments, vectors}
use Rattle.wasm_operators_enums.specs.contracts.vector.SimdOperator as simd
use Rattle.wasm_operators_enums.specs.contracts.vector.SimdOperatorPartialEq.TheImpl as simd_eq
use Rattle.wasm_operators_enums.specs.contracts.vector_numeric.SimdNumericOperator as simd_numeric
use Rattle.wasm_operators_enums.specs.contracts.vector_numeric.SimdNumericOperatorPartialEq.TheImpl as simd_numeric_eq

pub simds : Identity simd_eq.ghosts.eq
simds = variants simd.enum _
    (one arguments & one arguments & one arguments & one arguments & one arguments & one arguments &
    one arguments & one arguments & one arguments & one arguments & one arguments & one arguments & one vectors &
    one (lists numbers) & one numbers & one numbers & one numbers & one numbers & one numbers & one numbers &
    one numbers & one numbers & one numbers & one numbers & one numbers & one numbers & one numbers & one numbers &
    two arguments numbers & two arguments numbers & two arguments numbers & two arguments numbers &
    two arguments numbers & two arguments numbers & two arguments numbers & two arguments numbers & one arguments &
    one arguments & tt)

pub simd_numerics : Identity simd_numeric_eq.ghosts.eq
simd_numerics = tags simd_numeric.the_type tt
