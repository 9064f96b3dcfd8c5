-- By the laws of modules.
use Rattle.wasm_sections_parser.specs.runs.ModuleLaws.{frames_spelled, spelled_frames}
use Rattle.wasm_sections_parser.proofs.runs.laws.frames_are_of_modules.Goals as goal

pub returns-clause-spelled : goal.returns-clause-spelled
returns-clause-spelled c = frames_spelled

pub returns-clause-framed : goal.returns-clause-framed
returns-clause-framed c = spelled_frames
