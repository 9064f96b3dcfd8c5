-- A payload of another kind is refused at once.
use Rattle.std.proofs.Common.{rules}
use Rattle.wasm_sections.proofs.payload.read_section.Goals as goal

pub returns-then-id-eq5-clause-answer : goal.returns-then-id-eq5-clause-answer
returns-then-id-eq5-clause-answer c = search rules
