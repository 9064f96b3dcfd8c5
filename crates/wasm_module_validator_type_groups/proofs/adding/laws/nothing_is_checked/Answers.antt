use Rattle.wasm_module_validator_type_groups.proofs.Empty.{empty_checked}
use Rattle.wasm_module_validator_type_groups.proofs.adding.laws.nothing_is_checked.Goals as goal

pub returns : goal.returns
returns c = empty_checked
