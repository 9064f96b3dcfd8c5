use Rattle.wasm_module_validator_rules.proofs.WorkedBounds.{bounds_worked, sizes_worked}
use Rattle.wasm_module_validator_rules.proofs.worked.bounds_are_worked.Goals as goal

pub returns-clause-bounds : goal.returns-clause-bounds
returns-clause-bounds c = bounds_worked

pub returns-clause-sizes : goal.returns-clause-sizes
returns-clause-sizes c = sizes_worked
