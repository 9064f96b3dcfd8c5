-- The bytes, and whether they are UTF-8.
use Rattle.std.proofs.Common.{◌≡◌, ◌∙◌, ℕ, List, Bor, codes}
use Rattle.wasm_types_decoding.specs.Decoder.{bytes}
use Rattle.wasm_types_reader.specs.Reading.{is_read}
use Rattle.wasm_types_reader.proofs.Spelled.{text_done, text_refused}
use Rattle.wasm_types_reader.proofs.Said.{says, malformed_fits}
use Rattle.wasm_types_reader.proofs.binary_reader.BinaryReader.text.Goals as goal

pub returns-in-Ok-clause-answer : goal.returns-in-Ok-clause-answer
returns-in-Ok-clause-answer c = rw c.in-Ok.ensures.cases.0 (text_done _ _ _ _ c.in_ok-bytes.ensures.answer c.in-Ok.ensures.cases.1)

pub returns-in-Err-clause-answer : goal.returns-in-Err-clause-answer
returns-in-Err-clause-answer c =
    rw (c.string_error.ensures.kind, c.string_error.ensures.offset) (text_refused _ _ _ _ c.in_ok-bytes.ensures.answer c.in-Err.ensures.cases.0)

pub returns-in-Err-clause-malformed : goal.returns-in-Err-clause-malformed
returns-in-Err-clause-malformed c = says (Bor (List ℕ)) (is_read (bytes c.args.n c.args.self.now)) (λ m. m ≡ codes "malformed UTF-8 encoding") c.string_error.result (c.string_error.ensures.message ∙ malformed_fits)
