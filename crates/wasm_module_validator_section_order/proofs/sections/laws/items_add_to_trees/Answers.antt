use Rattle.wasm_module_validator_section_order.specs.sections.laws.Once.{adds_once}
use Rattle.wasm_module_validator_section_order.specs.sections.laws.Telling.{added_in}
use Rattle.wasm_module_validator_section_order.proofs.sections.laws.items_add_to_trees.Goals as goal

pub returns-clause-under : goal.returns-clause-under
returns-clause-under c = added_in

pub returns-clause-once : goal.returns-clause-once
returns-clause-once c = adds_once
