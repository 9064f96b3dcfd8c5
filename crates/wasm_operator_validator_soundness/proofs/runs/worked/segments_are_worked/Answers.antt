use Rattle.wasm_operator_validator_soundness.proofs.WorkedSegments.{segments_worked}
use Rattle.wasm_operator_validator_soundness.proofs.runs.worked.segments_are_worked.Goals as goal

pub returns : goal.returns
returns c = segments_worked
