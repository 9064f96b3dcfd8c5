use Rattle.wasm_operator_validator_soundness.proofs.WorkedOlder.{older_worked}
use Rattle.wasm_operator_validator_soundness.proofs.runs.worked.older_is_worked.Goals as goal

pub returns : goal.returns
returns c = older_worked
