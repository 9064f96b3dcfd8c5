use Rattle.wasm_module_validator_canonical_types.proofs.WorkedProofs.{canonical_is_worked}
use Rattle.wasm_module_validator_canonical_types.proofs.laws.canonical_worked.Goals as goal

pub returns : goal.returns
returns c = canonical_is_worked
