use Rattle.wasm_module_validator_exports.proofs.Growing.{own_after, sums_after}
use Rattle.wasm_module_validator_exports.proofs.laws.exports_one_by_one.Goals as goal

pub returns : goal.returns
returns c = record { names = own_after; sizes = sums_after }
