use Rattle.wasm_operator_validator_store.proofs.WorkedAtomics.{atomics_worked}
use Rattle.wasm_operator_validator_store.proofs.atomics_are_worked.Goals as goal

pub returns : goal.returns
returns c = atomics_worked
