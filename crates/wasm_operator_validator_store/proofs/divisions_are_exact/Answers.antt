use Rattle.wasm_operator_validator_store.proofs.Dividing.{divisions_exact}
use Rattle.wasm_operator_validator_store.proofs.divisions_are_exact.Goals as goal

pub returns : goal.returns
returns c = divisions_exact
