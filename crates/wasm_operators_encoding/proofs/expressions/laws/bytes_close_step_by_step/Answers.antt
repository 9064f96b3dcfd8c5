use Rattle.wasm_operators_encoding.specs.expressions.SpellingLaws.{bytes_step, bytes_stuck, bytes_expression, bytes_end}
use Rattle.wasm_operators_encoding.proofs.expressions.laws.bytes_close_step_by_step.Goals as goal

pub returns-clause-whole : goal.returns-clause-whole
returns-clause-whole c = bytes_expression

pub returns-clause-step : goal.returns-clause-step
returns-clause-step c = bytes_step

pub returns-clause-stuck : goal.returns-clause-stuck
returns-clause-stuck c = bytes_stuck

pub returns-clause-ended : goal.returns-clause-ended
returns-clause-ended c = bytes_end
