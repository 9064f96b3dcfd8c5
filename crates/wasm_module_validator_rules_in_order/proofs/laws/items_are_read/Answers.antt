use Rattle.wasm_module_validator_rules_in_order.specs.laws.Reading.{items_read}
use Rattle.wasm_module_validator_rules_in_order.proofs.laws.items_are_read.Goals as goal

pub returns : goal.returns
returns c = items_read
