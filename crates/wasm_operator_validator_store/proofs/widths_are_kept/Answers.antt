use Rattle.wasm_operator_validator_store.proofs.Widths.{widths_kept}
use Rattle.wasm_operator_validator_store.proofs.widths_are_kept.Goals as goal

pub returns : goal.returns
returns c = widths_kept
