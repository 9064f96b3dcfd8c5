use Rattle.wasm_operators_encoding.specs.expressions.FrameLaws.{closes_step, closes_more, closes_none}
use Rattle.wasm_operators_encoding.proofs.expressions.laws.frames_close_step_by_step.Goals as goal

pub returns-clause-step : goal.returns-clause-step
returns-clause-step c = closes_step

pub returns-clause-more : goal.returns-clause-more
returns-clause-more c = closes_more

pub returns-clause-ended : goal.returns-clause-ended
returns-clause-ended c = closes_none
