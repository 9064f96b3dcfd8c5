use Rattle.wasm_module_validator_section_order.specs.sections.laws.Judged.{section_judged}
use Rattle.wasm_module_validator_section_order.specs.sections.laws.Numbers.{start_judged, data_count_judged, front_read}
use Rattle.wasm_module_validator_section_order.specs.sections.laws.Shapes.{shape_judged, unknown_not_judged}
use Rattle.wasm_module_validator_section_order.proofs.sections.laws.sections_are_judged_by_items.Goals as goal

pub returns-clause-items : goal.returns-clause-items
returns-clause-items c = section_judged

pub returns-clause-start : goal.returns-clause-start
returns-clause-start c = start_judged

pub returns-clause-data_count : goal.returns-clause-data_count
returns-clause-data_count c = data_count_judged

pub returns-clause-fronts : goal.returns-clause-fronts
returns-clause-fronts c = front_read

pub returns-clause-shapes : goal.returns-clause-shapes
returns-clause-shapes c = shape_judged

pub returns-clause-unknown : goal.returns-clause-unknown
returns-clause-unknown c = unknown_not_judged
