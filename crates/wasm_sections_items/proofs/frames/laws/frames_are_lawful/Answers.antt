-- By the laws of headers and sections.
use Rattle.wasm_sections_items.specs.frames.PartLaws.{lawful-header, decides-header, lawful-part, decides-part}
use Rattle.wasm_sections_items.proofs.frames.laws.frames_are_lawful.Goals as goal

pub returns-clause-headers : goal.returns-clause-headers
returns-clause-headers c = (lawful-header, decides-header)

pub returns-clause-sections : goal.returns-clause-sections
returns-clause-sections c = λ z. (lawful-part z, decides-part z)
