-- The payload of a custom section's frame.
use Rattle.std.proofs.Common.{refl}
use Rattle.wasm_sections_parser.specs.declared.frame.Frame.TheVariants.{Custom}
use Rattle.wasm_sections.proofs.parser.Parser.next_custom.Goals as goal

pub returns-clause-section : goal.returns-clause-section
returns-clause-section c = λ eof. (Custom c.in-Some.section, c.in-Some.ensures.section eof, refl)
