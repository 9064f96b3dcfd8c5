use Rattle.wasm_module_validator_rules_in_order.proofs.WorkedSteps.{types_worked, spaces_worked, segments_worked, read_worked, frames_worked}
use Rattle.wasm_module_validator_rules_in_order.proofs.worked.steps_are_worked.Goals as goal

pub returns-clause-types : goal.returns-clause-types
returns-clause-types c = types_worked

pub returns-clause-spaces : goal.returns-clause-spaces
returns-clause-spaces c = spaces_worked

pub returns-clause-segments : goal.returns-clause-segments
returns-clause-segments c = segments_worked

pub returns-clause-read : goal.returns-clause-read
returns-clause-read c = read_worked

pub returns-clause-frames : goal.returns-clause-frames
returns-clause-frames c = frames_worked
