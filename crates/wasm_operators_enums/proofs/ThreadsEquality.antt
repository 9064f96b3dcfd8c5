-- `==` of atomic accesses: it holds exactly where the trees are equal.
use Rattle.wasm_operators_immediates.proofs.Telling.{Identity, none, one, two, three, variants, ◌&◌}
use Rattle.wasm_operators_immediates.proofs.Equality.{numbers, orderings, arguments}
use Rattle.wasm_operators_enums.specs.contracts.atomic.AtomicOperator as atomic
use Rattle.wasm_operators_enums.specs.contracts.atomic.AtomicOperatorPartialEq.TheImpl as atomic_eq
use Rattle.wasm_operators_enums.specs.contracts.atomic.SharedOperator as shared
use Rattle.wasm_operators_enums.specs.contracts.atomic.SharedOperatorPartialEq.TheImpl as shared_eq

pub atomics : Identity atomic_eq.ghosts.eq
atomics = variants atomic.enum _
    (one arguments & one arguments & one arguments & none & one arguments & one arguments & one arguments &
    one arguments & one arguments & one arguments & one arguments & one arguments & one arguments & one arguments &
    one arguments & one arguments & one arguments & one arguments & one arguments & one arguments & one arguments &
    one arguments & one arguments & one arguments & one arguments & one arguments & one arguments & one arguments &
    one arguments & one arguments & one arguments & one arguments & one arguments & one arguments & one arguments &
    one arguments & one arguments & one arguments & one arguments & one arguments & one arguments & one arguments &
    one arguments & one arguments & one arguments & one arguments & one arguments & one arguments & one arguments &
    one arguments & one arguments & one arguments & one arguments & one arguments & one arguments & one arguments &
    one arguments & one arguments & one arguments & one arguments & one arguments & one arguments & one arguments &
    one arguments & one arguments & one arguments & one arguments & tt)

pub shareds : Identity shared_eq.ghosts.eq
shareds = variants shared.enum _
    (two orderings numbers & two orderings numbers & two orderings numbers & two orderings numbers &
    two orderings numbers & two orderings numbers & two orderings numbers & two orderings numbers &
    two orderings numbers & two orderings numbers & two orderings numbers & two orderings numbers &
    two orderings numbers & three orderings numbers numbers & three orderings numbers numbers &
    three orderings numbers numbers & three orderings numbers numbers & three orderings numbers numbers &
    three orderings numbers numbers & three orderings numbers numbers & three orderings numbers numbers &
    three orderings numbers numbers & three orderings numbers numbers & three orderings numbers numbers &
    two orderings numbers & two orderings numbers & two orderings numbers & two orderings numbers &
    two orderings numbers & two orderings numbers & two orderings numbers & two orderings numbers &
    two orderings numbers & two orderings numbers & two orderings numbers & none & tt)
