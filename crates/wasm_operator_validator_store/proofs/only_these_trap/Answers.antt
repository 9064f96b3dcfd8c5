use Rattle.wasm_operator_validator_store.proofs.Traps.{only_these_trap}
use Rattle.wasm_operator_validator_store.proofs.only_these_trap.Goals as goal

pub returns : goal.returns
returns c = only_these_trap
