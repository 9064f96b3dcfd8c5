-- By the laws of walks.
use Rattle.wasm_module_validator_section_order.specs.frames.WalkLaws.{frame_called, behind_nothing, payload_next, walk_ended, walk_first, refused_next}
use Rattle.wasm_module_validator_section_order.proofs.frames.laws.walks_go_along_modules.Goals as goal

pub returns-clause-called : goal.returns-clause-called
returns-clause-called c = frame_called

pub returns-clause-begins : goal.returns-clause-begins
returns-clause-begins c = behind_nothing

pub returns-clause-next : goal.returns-clause-next
returns-clause-next c = λ p text fs s t x h. payload_next p text fs s t h x

pub returns-clause-ended : goal.returns-clause-ended
returns-clause-ended c = walk_ended

pub returns-clause-front : goal.returns-clause-front
returns-clause-front c = walk_first

pub returns-clause-refused : goal.returns-clause-refused
returns-clause-refused c = λ p text fs ys s t e first room m h next. refused_next p text fs s t h ys e first room m next
