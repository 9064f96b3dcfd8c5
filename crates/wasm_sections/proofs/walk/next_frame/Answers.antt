-- A frame's bytes are there.
use Rattle.std.proofs.Common.{arith, true, ◌-◌, length, drop, subst, Ok}
use Rattle.std.proofs.lemmas.List.{length-take, length-drop}
use Rattle.wasm_sections_parser.specs.declared.parser.Chunk.{Chunk}
use Rattle.wasm_sections_parser.specs.Parsing.{Parses}
use Rattle.wasm_sections_parser.specs.runs.calls.Advance.{parsed_within}
use Rattle.wasm_sections.proofs.walk.next_frame.Goals as goal

pub slice_bounds-result-count : goal.slice_bounds-result-count
slice_bounds-result-count c =
    (parsed_within c.args.parser.now c.args.bytes.now true c.in-Ok-Parsed.consumed c.in-Ok-Parsed.frame c.parse.new.self
    (subst (λ (k : Chunk). Parses c.args.parser.now c.args.bytes.now true
    (Ok k) c.parse.new.self) c.in-Ok-Parsed.field-0-is c.in-Ok-Parsed.ensures.answer)).0

pub slice_bounds-result-start : goal.slice_bounds-result-start
slice_bounds-result-start c =
    (parsed_within c.args.parser.now c.args.bytes.now true c.in-Ok-Parsed.consumed c.in-Ok-Parsed.frame c.parse.new.self
    (subst (λ (k : Chunk). Parses c.args.parser.now c.args.bytes.now true
    (Ok k) c.parse.new.self) c.in-Ok-Parsed.field-0-is c.in-Ok-Parsed.ensures.answer)).0

pub returns-in-Ok-Parsed-clause-fits : goal.returns-in-Ok-Parsed-clause-fits
returns-in-Ok-Parsed-clause-fits c =
    let h = parsed_within c.args.parser.now c.args.bytes.now true c.in-Ok-Parsed.consumed c.in-Ok-Parsed.frame c.parse.new.self
    (subst (λ (k : Chunk). Parses c.args.parser.now c.args.bytes.now true
    (Ok k) c.parse.new.self) c.in-Ok-Parsed.field-0-is c.in-Ok-Parsed.ensures.answer) in
    omega (arith, h.0, h.2, length-take (length c.args.bytes.now - c.in-Ok-Parsed.consumed) (drop c.in-Ok-Parsed.consumed c.args.bytes.now), length-drop c.in-Ok-Parsed.consumed c.args.bytes.now)
