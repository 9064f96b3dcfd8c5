use Rattle.wasm_operator_validator_soundness.proofs.WorkedBranching.{branching_worked}
use Rattle.wasm_operator_validator_soundness.proofs.runs.worked.branching_is_worked.Goals as goal

pub returns : goal.returns
returns c = branching_worked
