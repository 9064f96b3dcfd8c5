use Rattle.wasm_operators_immediates.proofs.Equality.{law, tree_law}
use Rattle.wasm_operators_enums.proofs.ControlEquality.{controls, parametrics, exceptions, continuations}
use Rattle.wasm_operators_enums.proofs.MemoryEquality.{memories, consts, bulks}
use Rattle.wasm_operators_enums.proofs.NumbersEquality.{numerics}
use Rattle.wasm_operators_enums.proofs.GcEquality.{gcs, descriptors}
use Rattle.wasm_operators_enums.proofs.ThreadsEquality.{atomics, shareds}
use Rattle.wasm_operators_enums.proofs.VectorsEquality.{simds, simd_numerics}
use Rattle.wasm_operators_enums.proofs.Equality.{operators}
use Rattle.wasm_operators_enums.proofs.laws.equal_operators_have_equal_trees.Goals as goal

pub returns-clause-operators : goal.returns-clause-operators
returns-clause-operators c = operators c.equality_is_identity.ensures.heap c.equality_is_identity.ensures.reference c.equality_is_identity.ensures.value

pub returns-clause-control : goal.returns-clause-control
returns-clause-control c = law (controls c.equality_is_identity.ensures.value)

pub returns-clause-parametric : goal.returns-clause-parametric
returns-clause-parametric c = tree_law (parametrics c.equality_is_identity.ensures.value)

pub returns-clause-exception : goal.returns-clause-exception
returns-clause-exception c = tree_law (exceptions c.equality_is_identity.ensures.value)

pub returns-clause-memory : goal.returns-clause-memory
returns-clause-memory c = law memories

pub returns-clause-constant : goal.returns-clause-constant
returns-clause-constant c = law consts

pub returns-clause-numeric : goal.returns-clause-numeric
returns-clause-numeric c = law numerics

pub returns-clause-bulk : goal.returns-clause-bulk
returns-clause-bulk c = law (bulks c.equality_is_identity.ensures.heap)

pub returns-clause-gc : goal.returns-clause-gc
returns-clause-gc c = law (gcs c.equality_is_identity.ensures.heap c.equality_is_identity.ensures.reference)

pub returns-clause-descriptor : goal.returns-clause-descriptor
returns-clause-descriptor c = law (descriptors c.equality_is_identity.ensures.heap c.equality_is_identity.ensures.reference)

pub returns-clause-simd : goal.returns-clause-simd
returns-clause-simd c = law simds

pub returns-clause-simd_numeric : goal.returns-clause-simd_numeric
returns-clause-simd_numeric c = law simd_numerics

pub returns-clause-atomic : goal.returns-clause-atomic
returns-clause-atomic c = law atomics

pub returns-clause-shared : goal.returns-clause-shared
returns-clause-shared c = law shareds

pub returns-clause-continuation : goal.returns-clause-continuation
returns-clause-continuation c = tree_law continuations
