-- The bytes of the vector are those that were read.
use Rattle.std.proofs.Common.{refl}
use Rattle.wasm_operators_encoding.specs.immediates.Bytes.{vector}
use Rattle.wasm_operators_encoding.proofs.immediates.bytes.read_vector.Goals as goal

pub returns-clause-answer : goal.returns-clause-answer
unfolding vector
returns-clause-answer c = rw (c.in_ok-text.ensures.answer, c.copy_from_slice.ensures.after) refl
