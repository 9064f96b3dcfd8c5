-- A name, and all that follows it in the part.
use Rattle.wasm_types.specs.decoding.Text.{name}
use Rattle.wasm_sections_parser.specs.Steps.{custom_next}
use Rattle.wasm_sections_parser.specs.SettledLaws.{part_refused, part_read, all_bytes}
use Rattle.wasm_sections_parser.proofs.sections.read_custom.Goals as goal

pub returns-in-Err-clause-answer : goal.returns-in-Err-clause-answer
returns-in-Err-clause-answer c =
    rw (c.settled.ensures.kind, c.settled.ensures.offset)
    (part_refused (name c.args.part.settings.limits.string_bytes)
    (custom_next c.args.progress) c.args.part c.args._reader.now c.in-Err.error.kind c.in-Err.error.offset c.in-Err.ensures.answer.0)

pub returns-clause-answer : goal.returns-clause-answer
returns-clause-answer c =
    let rest = all_bytes c.bytes_remaining.result c.read_string.new.self c.read_bytes.new.self c.in_ok-data.data.now c.bytes_remaining.ensures c.in_ok-data.ensures.answer in
    rw (c.counted.ensures, rest) (part_read (name c.args.part.settings.limits.string_bytes)
    (custom_next c.args.progress) c.args.part c.args._reader.now c.in-Ok.name.now c.read_string.new.self c.in-Ok.ensures.answer)
