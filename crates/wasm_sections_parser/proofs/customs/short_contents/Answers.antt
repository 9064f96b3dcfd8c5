-- A name, and all that follows it in the part.
use Rattle.wasm_types.specs.decoding.Text.{name}
use Rattle.wasm_sections_parser.specs.Steps.{custom_next}
use Rattle.wasm_sections_parser.specs.SettledLaws.{part_read, all_bytes}
use Rattle.wasm_sections_parser.proofs.customs.short_contents.Goals as goal

pub returns-clause-read : goal.returns-clause-read
returns-clause-read c = λ p t.
    let rest = all_bytes c.bytes_remaining.result c.short_name.new.part c.read_bytes.new.self c.in-Ok.«data».now c.bytes_remaining.ensures c.in-Ok.ensures.answer in
    rw rest (part_read (name c.args.part.settings.limits.string_bytes)
    (custom_next p) c.args.part t c.in-Some.name.now c.short_name.new.part c.in-Some.ensures.read)
