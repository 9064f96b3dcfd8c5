use Rattle.std.proofs.Common.{rules}
use Rattle.wasm_sections_parser.proofs.progress.counted.Goals as goal

pub returns-else-id-eq11 : goal.returns-else-id-eq11
returns-else-id-eq11 c = search rules
