use Rattle.std.proofs.Common.{ap}
use Rattle.wasm_module_validator_state.specs.Items.{Items}
use Rattle.wasm_module_validator_section_order.specs.rules.Syntax.{ModuleTree}
use Rattle.wasm_module_validator_section_order.specs.rules_in_order.Sections as section
use Rattle.wasm_module_validator_section_order.specs.sections.Kinds.{data_read}
use Rattle.wasm_module_validator_section_order.specs.items.FullLaws.{unless_full}
use Rattle.wasm_module_validator_payloads.proofs.Counting.{item_added}
use Rattle.wasm_module_validator_payloads.specs.laws.Growing.{list_stays}
use Rattle.wasm_module_validator_payloads.proofs.kinds.DataOfConstExprSectionItem.add_to.Goals as goal

pub returns-clause-answer : goal.returns-clause-answer
returns-clause-answer c = unless_full _ c.check_data_item.result _ (λ z m h. c.check_data_item.ensures.answer z m h.reading)

pub returns-clause-added : goal.returns-clause-added
returns-clause-added c =
    item_added section.data_segments (data_read c.args.self) c.check_data_item.result c.args.types.now.groups c.args.types.now.groups c.args.state.now c.check_data_item.new.state c.args.groups.now
    (λ z m n a. ap (λ (t : ModuleTree). t.types) a.2.added) c.check_data_item.ensures.added

pub returns-clause-grown : goal.returns-clause-grown
returns-clause-grown c = list_stays c.check_data_item.result c.args.types.now.groups c.args.state.now.spaces c.check_data_item.new.state.spaces (ap (λ (i : Items). i.spaces.types) c.check_data_item.ensures.stays)
