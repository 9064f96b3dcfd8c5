-- A frame's bytes are there, and a parser stands behind them.
use Rattle.std.proofs.Common.{rules, subst, Ok}
use Rattle.wasm_sections_parser.specs.declared.parser.Chunk.{Chunk}
use Rattle.wasm_sections_parser.specs.Parsing.{Parses}
use Rattle.wasm_sections_parser.specs.runs.calls.Advance.{parsed_within}
use Rattle.wasm_sections.proofs.parser.Parser.parse.Goals as goal

pub returns-in-Ok-clause-within : goal.returns-in-Ok-clause-within
returns-in-Ok-clause-within c =
    (parsed_within c.args.self.now.frames c.args.data.now c.args.eof c.in-Ok-Parsed.consumed c.in-Ok-Parsed.frame c.parse.new.self
    (subst (λ (k : Chunk). Parses c.args.self.now.frames c.args.data.now c.args.eof
    (Ok k) c.parse.new.self) c.in-Ok-Parsed.field-0-is c.in-Ok-Parsed.ensures.answer)).0

pub returns-in-Ok-clause-moves : goal.returns-in-Ok-clause-moves
returns-in-Ok-clause-moves c =
    (parsed_within c.args.self.now.frames c.args.data.now c.args.eof c.in-Ok-Parsed.consumed c.in-Ok-Parsed.frame c.parse.new.self
    (subst (λ (k : Chunk). Parses c.args.self.now.frames c.args.data.now c.args.eof
    (Ok k) c.parse.new.self) c.in-Ok-Parsed.field-0-is c.in-Ok-Parsed.ensures.answer)).2

pub returns-in-Err-from_frame-clause-answer : goal.returns-in-Err-from_frame-clause-answer
returns-in-Err-from_frame-clause-answer c = search rules
