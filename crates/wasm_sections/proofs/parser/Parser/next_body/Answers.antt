-- The payload of a body's frame.
use Rattle.std.proofs.Common.{ap}
use Rattle.wasm_types.specs.decoding.Decoder.{State}
use Rattle.wasm_sections_parser.specs.declared.frame.Frame.TheVariants.{CodeEntry}
use Rattle.wasm_sections.specs.declared.payload.Payload.TheVariants.{CodeSectionEntry}
use Rattle.wasm_sections.proofs.parser.Parser.next_body.Goals as goal

pub returns-clause-body : goal.returns-clause-body
returns-clause-body c = λ eof. (CodeEntry c.in-Some.part, c.in-Some.ensures.body eof, ap (λ (b : State). CodeSectionEntry b) c.new.ensures)
