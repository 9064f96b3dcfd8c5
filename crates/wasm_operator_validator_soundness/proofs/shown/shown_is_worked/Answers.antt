use Rattle.wasm_operator_validator_soundness.proofs.ShownWorked.{shown_worked}
use Rattle.wasm_operator_validator_soundness.proofs.shown.shown_is_worked.Goals as goal

pub returns : goal.returns
returns c m x = shown_worked m x
