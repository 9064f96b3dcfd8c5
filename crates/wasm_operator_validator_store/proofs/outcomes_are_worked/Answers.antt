use Rattle.wasm_operator_validator_store.proofs.Outcomes.{outcomes_worked}
use Rattle.wasm_operator_validator_store.proofs.outcomes_are_worked.Goals as goal

pub returns : goal.returns
returns c = outcomes_worked
