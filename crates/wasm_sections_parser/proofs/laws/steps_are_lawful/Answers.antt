-- By the law of steps.
use Rattle.wasm_sections_parser.specs.StepLaws.{lawful-step}
use Rattle.wasm_sections_parser.proofs.laws.steps_are_lawful.Goals as goal

pub returns : goal.returns
returns c = lawful-step
