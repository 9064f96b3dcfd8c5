-- By the laws of headers and sections.
use Rattle.wasm_sections_parser.specs.runs.steps.SpelledLaws.{header_spelled, section_spelled}
use Rattle.wasm_sections_parser.specs.runs.steps.CustomLaws.{custom_spelled}
use Rattle.wasm_sections_parser.specs.runs.steps.BodyLaws.{body_spelled}
use Rattle.wasm_sections_parser.proofs.runs.steps.laws.frames_are_spelled.Goals as goal

pub returns-clause-headers : goal.returns-clause-headers
returns-clause-headers c = header_spelled

pub returns-clause-sections : goal.returns-clause-sections
returns-clause-sections c = section_spelled

pub returns-clause-customs : goal.returns-clause-customs
returns-clause-customs c = custom_spelled

pub returns-clause-bodies : goal.returns-clause-bodies
returns-clause-bodies c = body_spelled
