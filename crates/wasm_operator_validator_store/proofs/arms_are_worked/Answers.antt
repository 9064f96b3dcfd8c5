use Rattle.wasm_operator_validator_store.proofs.Arms.{arms_worked}
use Rattle.wasm_operator_validator_store.proofs.arms_are_worked.Goals as goal

pub returns : goal.returns
returns c = arms_worked
