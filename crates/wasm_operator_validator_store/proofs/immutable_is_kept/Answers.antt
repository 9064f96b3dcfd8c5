use Rattle.wasm_operator_validator_store.proofs.Steps.{kept}
use Rattle.wasm_operator_validator_store.proofs.immutable_is_kept.Goals as goal

pub returns : goal.returns
returns c = kept
