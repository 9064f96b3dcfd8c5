use Rattle.wasm_module_validator_rules_in_order.specs.laws.Judged.{order_by_sections, text_by_sections, code_aside, within_with_code}
use Rattle.wasm_module_validator_rules_in_order.proofs.laws.modules_are_of_sections.Goals as goal

pub returns-clause-valid : goal.returns-clause-valid
returns-clause-valid c = order_by_sections

pub returns-clause-spelled : goal.returns-clause-spelled
returns-clause-spelled c = text_by_sections

pub returns-clause-code_aside : goal.returns-clause-code_aside
returns-clause-code_aside c = code_aside

pub returns-clause-limits : goal.returns-clause-limits
returns-clause-limits c = within_with_code
