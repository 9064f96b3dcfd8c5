use Rattle.wasm_operator_validator_soundness.proofs.RunsWorkedPlaced.{placed_worked}
use Rattle.wasm_operator_validator_soundness.proofs.runs.worked.places_are_worked.Goals as goal

pub returns : goal.returns
returns c = placed_worked
