use Rattle.wasm_operator_validator_store.proofs.WorkedIntegers.{integers_worked}
use Rattle.wasm_operator_validator_store.proofs.integers_are_worked.Goals as goal

pub returns : goal.returns
returns c = integers_worked
