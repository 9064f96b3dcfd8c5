use Rattle.wasm_module_validator_rules.proofs.WorkedReleases.{releases_worked}
use Rattle.wasm_module_validator_rules.proofs.worked.releases_are_worked.Goals as goal

pub returns : goal.returns
returns c = releases_worked
