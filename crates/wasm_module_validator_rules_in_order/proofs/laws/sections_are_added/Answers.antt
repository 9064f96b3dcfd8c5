use Rattle.wasm_module_validator_rules_in_order.specs.laws.Adding.{section_added}
use Rattle.wasm_module_validator_rules_in_order.proofs.laws.sections_are_added.Goals as goal

pub returns : goal.returns
returns c = section_added
