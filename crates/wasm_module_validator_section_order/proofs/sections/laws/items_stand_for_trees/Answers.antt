use Rattle.wasm_module_validator_section_order.specs.sections.laws.Items.{linked}
use Rattle.wasm_module_validator_section_order.specs.sections.laws.Once.{stands_once}
use Rattle.wasm_module_validator_section_order.specs.sections.laws.Judged.{section_spelled}
use Rattle.wasm_module_validator_section_order.proofs.sections.laws.items_stand_for_trees.Goals as goal

pub returns-clause-over : goal.returns-clause-over
returns-clause-over c = λ z s. (linked z s).over

pub returns-clause-down : goal.returns-clause-down
returns-clause-down c = λ z s. (linked z s).down

pub returns-clause-once : goal.returns-clause-once
returns-clause-once c = stands_once

pub returns-clause-listed : goal.returns-clause-listed
returns-clause-listed c = section_spelled
