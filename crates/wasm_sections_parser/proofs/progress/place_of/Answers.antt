use Rattle.std.proofs.Common.{rules}
use Rattle.wasm_sections_parser.proofs.progress.place_of.Goals as goal

pub returns-then-id-eq13 : goal.returns-then-id-eq13
returns-then-id-eq13 c = search rules
