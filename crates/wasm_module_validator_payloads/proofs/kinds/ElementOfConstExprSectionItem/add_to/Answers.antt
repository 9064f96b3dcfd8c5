use Rattle.std.proofs.Common.{ap}
use Rattle.wasm_module_validator_section_order.specs.rules.Syntax.{ModuleTree}
use Rattle.wasm_module_validator_section_order.specs.rules_in_order.Sections as section
use Rattle.wasm_module_validator_section_order.specs.sections.Kinds.{element_read}
use Rattle.wasm_module_validator_section_order.specs.items.FullLaws.{unless_full}
use Rattle.wasm_module_validator_payloads.proofs.Counting.{item_added}
use Rattle.wasm_module_validator_payloads.specs.laws.Growing.{list_stays}
use Rattle.wasm_module_validator_payloads.proofs.kinds.ElementOfConstExprSectionItem.add_to.Goals as goal

pub returns-clause-answer : goal.returns-clause-answer
returns-clause-answer c = unless_full _ c.add_element.result _ (λ z m h. c.add_element.ensures.answer z m h.reading)

pub returns-clause-added : goal.returns-clause-added
returns-clause-added c =
    item_added section.element_segments (element_read c.args.self) c.add_element.result c.args.types.now.groups c.args.types.now.groups c.args.state.now c.add_element.new.state c.args.groups.now
    (λ z m n a. ap (λ (t : ModuleTree). t.types) a.2.added) c.add_element.ensures.added

pub returns-clause-grown : goal.returns-clause-grown
returns-clause-grown c = list_stays c.add_element.result c.args.types.now.groups c.args.state.now.spaces c.add_element.new.state.spaces c.add_element.ensures.types
