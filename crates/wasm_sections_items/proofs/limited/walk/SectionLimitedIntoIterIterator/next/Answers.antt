use Rattle.std.proofs.Common.{rules}
use Rattle.wasm_sections_items.proofs.limited.walk.SectionLimitedIntoIterIterator.next.Goals as goal

pub returns-then-self-eq0-clause-steps : goal.returns-then-self-eq0-clause-steps
returns-then-self-eq0-clause-steps c = search rules
