use Rattle.std.proofs.Common.{refl}
use Rattle.wasm_operators_tests.proofs.list.operators_carry_as_listed.Goals as goal

pub returns-clause-control : goal.returns-clause-control
returns-clause-control g c = refl

pub returns-clause-parametric : goal.returns-clause-parametric
returns-clause-parametric g c = refl

pub returns-clause-exception : goal.returns-clause-exception
returns-clause-exception g c = refl

pub returns-clause-continuation : goal.returns-clause-continuation
returns-clause-continuation g c = refl

pub returns-clause-memory : goal.returns-clause-memory
returns-clause-memory g c = refl

pub returns-clause-constant : goal.returns-clause-constant
returns-clause-constant g c = refl

pub returns-clause-bulk : goal.returns-clause-bulk
returns-clause-bulk g c = refl

pub returns-clause-gc : goal.returns-clause-gc
returns-clause-gc g c = refl

pub returns-clause-descriptor : goal.returns-clause-descriptor
returns-clause-descriptor g c = refl

pub returns-clause-atomic : goal.returns-clause-atomic
returns-clause-atomic g c = refl

pub returns-clause-shared : goal.returns-clause-shared
returns-clause-shared g c = refl

pub returns-clause-simd : goal.returns-clause-simd
returns-clause-simd g c = refl
