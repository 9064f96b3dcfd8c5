-- By the law of modules.
use Rattle.wasm_sections_items.specs.frames.OuterLaws.{one_outer}
use Rattle.wasm_sections_items.proofs.frames.laws.frames_are_unique.Goals as goal

pub returns : goal.returns
returns c = one_outer
