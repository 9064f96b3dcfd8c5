use Rattle.std.proofs.Common.{ap}
use Rattle.wasm_module_validator_section_order.specs.rules.Syntax.{ModuleTree}
use Rattle.wasm_module_validator_section_order.specs.rules_in_order.Sections as section
use Rattle.wasm_module_validator_section_order.specs.items.FullLaws.{unless_full}
use Rattle.wasm_module_validator_payloads.proofs.Counting.{item_added, on_ok}
use Rattle.wasm_module_validator_payloads.specs.laws.Growing.{list_stays}
use Rattle.wasm_module_validator_payloads.proofs.kinds.MemoryTypeSectionItem.add_to.Goals as goal

pub returns-clause-answer : goal.returns-clause-answer
returns-clause-answer c = unless_full _ c.add_memory_item.result _ (λ z m h. c.add_memory_item.ensures.answer c.args.types.now.groups z m h.reading)

pub returns-clause-added : goal.returns-clause-added
returns-clause-added c =
    item_added section.memories c.args.self c.add_memory_item.result c.args.types.now.groups c.args.types.now.groups c.args.state.now c.add_memory_item.new.state c.args.groups.now
    (λ z m n a. ap (λ (t : ModuleTree). t.types) a.2.added) (on_ok c.add_memory_item.result _ _ (λ h. h c.args.types.now.groups) c.add_memory_item.ensures.added)

pub returns-clause-grown : goal.returns-clause-grown
returns-clause-grown c = list_stays c.add_memory_item.result c.args.types.now.groups c.args.state.now.spaces c.add_memory_item.new.state.spaces c.add_memory_item.ensures.types
