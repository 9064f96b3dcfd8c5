use Rattle.wasm_operators_encoding.specs.CodedLaws.{some_left}
use Rattle.wasm_operators_reader.proofs.walks.read_operators.read_in_frame.Goals as goal

pub misplaced-error-requires : goal.misplaced-error-requires
misplaced-error-requires c = rw c.clone-start.ensures (some_left _ _ _ _ c.in-Ok.ensures.answer)
