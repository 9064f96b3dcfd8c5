-- `==` of operators on numbers: it holds exactly where the trees are equal.
use Rattle.wasm_operators_immediates.proofs.Telling.{Identity, tags}
use Rattle.wasm_operators_enums.specs.contracts.numeric.NumericOperator as numeric
use Rattle.wasm_operators_enums.specs.contracts.numeric.NumericOperatorPartialEq.TheImpl as numeric_eq

pub numerics : Identity numeric_eq.ghosts.eq
numerics = tags numeric.the_type tt
