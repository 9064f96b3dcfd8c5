use Rattle.wasm_module_validator_rules.specs.OutsideLaws.{accepted_outside}
use Rattle.wasm_module_validator_rules.proofs.laws.accepted_is_valid_outside_bodies.Goals as goal

pub returns : goal.returns
returns c = accepted_outside
