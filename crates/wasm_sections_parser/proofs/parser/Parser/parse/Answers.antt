use Rattle.std.proofs.Common.{rules}
use Rattle.wasm_sections_parser.proofs.parser.Parser.parse.Goals as goal

pub returns-then-is_over-clause-answer : goal.returns-then-is_over-clause-answer
returns-then-is_over-clause-answer c = search rules
