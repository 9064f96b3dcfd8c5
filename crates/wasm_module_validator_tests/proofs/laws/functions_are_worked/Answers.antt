use Rattle.wasm_module_validator_tests.specs.BodyLaws.{locals_read, expressions_validated, functions_validated, operators_tried, frames_closed, functions_spelled}
use Rattle.wasm_module_validator_tests.proofs.laws.functions_are_worked.Goals as goal

pub returns-clause-locals : goal.returns-clause-locals
returns-clause-locals c = locals_read

pub returns-clause-expressions : goal.returns-clause-expressions
returns-clause-expressions c = expressions_validated

pub returns-clause-bodies : goal.returns-clause-bodies
returns-clause-bodies c = functions_validated

pub returns-clause-operators : goal.returns-clause-operators
returns-clause-operators c = operators_tried

pub returns-clause-frames : goal.returns-clause-frames
returns-clause-frames c = frames_closed

pub returns-clause-spelled : goal.returns-clause-spelled
returns-clause-spelled c = functions_spelled
