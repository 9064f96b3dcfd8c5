use Rattle.std.proofs.Common.{ap, sym, subst}
use Rattle.wasm_module_validator_section_order.specs.rules.Syntax.{ModuleTree}
use Rattle.wasm_module_validator_section_order.specs.rules_in_order.Sections as section
use Rattle.wasm_module_validator_section_order.specs.sections.Kinds.{import_read}
use Rattle.wasm_module_validator_payloads.specs.Progress.{Kept, IsRead}
use Rattle.wasm_module_validator_payloads.proofs.Adding.{added_one, told_one, refused_one}
use Rattle.wasm_module_validator_payloads.proofs.Counting.{always, item_added}
use Rattle.wasm_module_validator_payloads.specs.laws.Growing.{grown_one, list_stays}
use Rattle.wasm_module_validator_payloads.proofs.imports.CollectedAddLentImport.add_lent.Goals as goal

pub returns-then-lacks_memory-clause-answer : goal.returns-then-lacks_memory-clause-answer
returns-then-lacks_memory-clause-answer c = λ m h. rw c.out_of_memory.ensures tt

pub returns-then-lacks_memory-clause-refused : goal.returns-then-lacks_memory-clause-refused
returns-then-lacks_memory-clause-refused c = λ m h. rw c.out_of_memory.ensures tt

pub returns-clause-answer : goal.returns-clause-answer
returns-clause-answer c = λ m h.
    let here = subst (λ (k : Kept). IsRead section.imports k m) (sym c.self.view_is) h in
    told_one m.settings m.tree section.imports (import_read c.args.item.now) c.add_import_item.result (c.add_import_item.ensures.answer m.settings m.tree here.reading)

pub returns-clause-added : goal.returns-clause-added
returns-clause-added c =
    added_one section.imports (import_read c.args.item.now) c.add_import_item.result _ _ _ c.self.view_is
    (item_added section.imports (import_read c.args.item.now) c.add_import_item.result _ _ _ _ _ (λ z m n a. ap (λ (t : ModuleTree). t.types) a.2.added) c.add_import_item.ensures.added)

pub returns-clause-refused : goal.returns-clause-refused
returns-clause-refused c =
    refused_one section.imports (import_read c.args.item.now) c.add_import_item.result _ _ c.self.view_is c.args.offset (λ z m h. c.add_import_item.ensures.answer z m h.reading)

pub returns-clause-grown : goal.returns-clause-grown
returns-clause-grown c =
    grown_one c.add_import_item.result _ _ _ c.self.view_is (always c.add_import_item.result _ c.add_import_item.ensures.settings) (list_stays c.add_import_item.result _ c.self.inside.state.spaces c.add_import_item.new.state.spaces c.add_import_item.ensures.types)
