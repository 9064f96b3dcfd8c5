use Rattle.wasm_operator_validator_store.proofs.Tested.{tests_exact}
use Rattle.wasm_operator_validator_store.proofs.tests_are_exact.Goals as goal

pub returns : goal.returns
returns c = tests_exact
