use Rattle.std.proofs.Common.{refl}
use Rattle.wasm_sections_parser.specs.Parsers.{Parser}
use Rattle.wasm_sections_parser.proofs.NextCustom.{custom_given}
use Rattle.wasm_sections_parser.proofs.parser.Parser.next_custom.Goals as goal

pub returns-clause-section : goal.returns-clause-section
returns-clause-section c = λ eof.
    let p : Parser = record {
      offset = c.self.inside.offset;
      settings = record { features = c.self.inside.features.0; limits = c.self.inside.limits };
      progress = c.self.inside.progress;
    } in
    rw (← c.self.view_is)
    (rw c.counted-self-inside.ensures
    (custom_given p c.args.data.now (c.if-not-is_before_section.ensures refl) c.if-data-eq0.false eof c.current_position.result c.original_position-self-inside.result
    c.new_limited-reader.result c.short_section.new.reader c.in-Some.section _ c.new_limited-reader.ensures c.in-Some.ensures.read
    c.in-Some.ensures.placed c.in-Some.ensures.forward c.original_position-self-inside.ensures c.current_position.ensures))
