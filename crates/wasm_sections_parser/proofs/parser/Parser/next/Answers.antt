-- As many bytes are needed as the decoder says.
use Rattle.std.proofs.Common.{refl, sym, subst}
use Rattle.wasm_types.specs.decoding.Decoder.{State}
use Rattle.wasm_types.specs.reader.Reading.{Fails}
use Rattle.wasm_sections_parser.specs.Parsers.{Parser}
use Rattle.wasm_sections_parser.specs.Steps.{step}
use Rattle.wasm_sections_parser.specs.SettledLaws.{hinted}
use Rattle.wasm_sections_parser.specs.Parsing.{comes}
use Rattle.wasm_sections_parser.proofs.parser.Parser.next.Goals as goal

pub returns-in-Some-clause-answer : goal.returns-in-Some-clause-answer
returns-in-Some-clause-answer c =
    let p : Parser = record {
      offset = c.self.inside.offset;
      settings = record { features = c.self.inside.features.0; limits = c.self.inside.limits };
      progress = c.self.inside.progress;
    } in
    let here : Fails c.in-Err.error (comes p c.args.data.now) =
    subst (λ (v : State). Fails c.in-Err.error (step v.settings p.progress v)) c.new_limited-reader.ensures c.in-Err.ensures.answer in
    rw (← c.self.view_is) (
      c.if-not-eof.true,
      (
        c.in-Err.error.offset,
        c.in-Some.lacking,
        hinted c.in-Err.error.kind c.in-Err.error.offset c.in-Some.lacking (comes p c.args.data.now) (sym c.in-Some.ensures) here,
        c.needed-count.ensures,
      ),
      refl,
    )
