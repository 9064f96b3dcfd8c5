use Rattle.wasm_operator_validator_store.proofs.Folding.{constants_folded}
use Rattle.wasm_operator_validator_store.proofs.constants_fold.Goals as goal

pub returns : goal.returns
returns c = constants_folded
