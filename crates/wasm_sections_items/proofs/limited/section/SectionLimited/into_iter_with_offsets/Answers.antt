use Rattle.std.proofs.Common.{rules}
use Rattle.wasm_sections_items.proofs.limited.section.SectionLimited.into_iter_with_offsets.Goals as goal

pub returns-clause-remaining : goal.returns-clause-remaining
returns-clause-remaining c = search rules
