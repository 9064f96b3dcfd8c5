use Rattle.std.proofs.Common.{rules}
use Rattle.wasm_sections_parser.proofs.parser.Parser.end.Goals as goal

pub returns-then-not-eof-clause-answer : goal.returns-then-not-eof-clause-answer
returns-then-not-eof-clause-answer c = search rules
