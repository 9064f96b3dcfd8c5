use Rattle.wasm_operator_validator_store.proofs.Folding.{integers_computed}
use Rattle.wasm_operator_validator_store.proofs.integers_are_computed.Goals as goal

pub returns : goal.returns
returns c = integers_computed
