-- The bytes, and the number that they spell.
use Rattle.wasm_types_reader.proofs.Spelled.{of_eight, count_is, word_done}
use Rattle.wasm_types_reader.proofs.binary_reader.BinaryReader.read_u64.Goals as goal

pub returns-clause-answer : goal.returns-clause-answer
returns-clause-answer c =
    let read = c.in_ok-text.ensures.answer in
    word_done 8 _ _ _ read _ (of_eight _ _ (count_is 8 _ _ _ read) c.from_le_bytes.ensures)
