use Rattle.wasm_module_validator_rules.specs.ModuleLaws.{one_module}
use Rattle.wasm_module_validator_rules.proofs.laws.modules_are_spelled_once.Goals as goal

pub returns : goal.returns
returns c = one_module
