-- Bytes that are UTF-8.
use Rattle.wasm_sections_parser.proofs.NextCustom.{text_read}
use Rattle.wasm_sections_parser.proofs.customs.short_text.Goals as goal

pub returns-in-Ok-from_utf8-clause-read : goal.returns-in-Ok-from_utf8-clause-read
returns-in-Ok-from_utf8-clause-read c = rw c.in-Ok-from_utf8.ensures.cases.0 (text_read _ _ _ _ c.in-Ok.ensures.answer c.in-Ok-from_utf8.ensures.cases.1)
