-- By the laws of walks whose frames are judged.
use Rattle.wasm_module_validator_section_order.specs.frames.JudgedLaws.{judged_more, judged_less, judged_next, judged_not_refused, judged_ended}
use Rattle.wasm_module_validator_section_order.proofs.frames.laws.walks_are_judged.Goals as goal

pub returns-clause-more : goal.returns-clause-more
returns-clause-more c = judged_more

pub returns-clause-less : goal.returns-clause-less
returns-clause-less c = judged_less

pub returns-clause-next : goal.returns-clause-next
returns-clause-next c = λ p text fs f ys t r first room m j. judged_next p text ys r first room m j fs f t

pub returns-clause-accepted : goal.returns-clause-accepted
returns-clause-accepted c = λ p text fs ys s t r e first room m j. judged_not_refused p text ys r first room m j fs s t e

pub returns-clause-ended : goal.returns-clause-ended
returns-clause-ended c = judged_ended
