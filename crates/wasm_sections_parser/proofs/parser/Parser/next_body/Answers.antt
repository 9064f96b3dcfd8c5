use Rattle.wasm_sections_parser.specs.Parsers.{Parser}
use Rattle.wasm_sections_parser.proofs.NextBody.{body_given}
use Rattle.wasm_sections_parser.proofs.parser.Parser.next_body.Goals as goal

pub returns-clause-body : goal.returns-clause-body
returns-clause-body c = λ eof.
    let p : Parser = record {
      offset = c.self.inside.offset;
      settings = record { features = c.self.inside.features.0; limits = c.self.inside.limits };
      progress = c.self.inside.progress;
    } in
    rw (← c.self.view_is)
    (rw c.one_less-self-inside.ensures
    (body_given p c.args.data.now c.in-Some.left c.in-Some.end c.in-Some.ensures.0 c.in-Some.ensures.1 eof c.current_position.result c.original_position-self-inside.result
    c.new_limited-reader.result c.short_entry.new.reader c.in-Some-short_entry.part _ c.new_limited-reader.ensures c.in-Some-short_entry.ensures.read
    c.in-Some-short_entry.ensures.placed c.in-Some-short_entry.ensures.forward c.original_position-self-inside.ensures c.current_position.ensures))
