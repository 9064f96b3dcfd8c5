-- By the laws of what is asked for.
use Rattle.wasm_sections_parser.specs.runs.hints.HintLaws.{need_least, nothing_asked}
use Rattle.wasm_sections_parser.proofs.runs.hints.laws.hints_are_least.Goals as goal

pub returns-clause-least : goal.returns-clause-least
returns-clause-least c = need_least

pub returns-clause-ended : goal.returns-clause-ended
returns-clause-ended c = λ p q text n. nothing_asked p text n q
