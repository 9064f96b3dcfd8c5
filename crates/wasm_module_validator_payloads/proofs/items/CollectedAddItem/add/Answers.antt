use Rattle.std.proofs.Common.{inr, sym, subst}
use Rattle.wasm_module_validator_section_order.specs.items.FullLaws.{unless_full_from}
use Rattle.wasm_module_validator_payloads.specs.Progress.{Kept, FullIn, IsRead}
use Rattle.wasm_module_validator_payloads.proofs.Adding.{added_one, told_one, refused_one}
use Rattle.wasm_module_validator_payloads.specs.laws.Growing.{grown_one}
use Rattle.wasm_module_validator_payloads.proofs.items.CollectedAddItem.add.Goals as goal

pub returns-then-lacks_memory-clause-answer : goal.returns-then-lacks_memory-clause-answer
returns-then-lacks_memory-clause-answer g c = inr (λ m h. rw c.out_of_memory.ensures tt)

pub returns-then-lacks_memory-clause-refused : goal.returns-then-lacks_memory-clause-refused
returns-then-lacks_memory-clause-refused g c = inr (λ m h. rw c.out_of_memory.ensures tt)

pub returns-clause-answer : goal.returns-clause-answer
returns-clause-answer g c =
    unless_full_from _ _ c.add_or_forget.result _ _ (λ e. subst (λ (k : Kept). FullIn g.T.SectionItem.section k.groups k.items (g.T.SectionItem.of c.args.item) e) c.self.view_is)
    (λ told m h. told_one m.settings m.tree g.T.SectionItem.section (g.T.SectionItem.of c.args.item) c.add_or_forget.result
    (told m.settings m.tree (subst (λ (k : Kept). IsRead g.T.SectionItem.section k m) (sym c.self.view_is) h))) c.add_or_forget.ensures.answer

pub returns-clause-added : goal.returns-clause-added
returns-clause-added g c =
    added_one g.T.SectionItem.section (g.T.SectionItem.of c.args.item) c.add_or_forget.result _ _ _ c.self.view_is c.add_or_forget.ensures.added

pub returns-clause-refused : goal.returns-clause-refused
returns-clause-refused g c =
    unless_full_from _ _ c.add_or_forget.result _ _ (λ e. subst (λ (k : Kept). FullIn g.T.SectionItem.section k.groups k.items (g.T.SectionItem.of c.args.item) e) c.self.view_is)
    (refused_one g.T.SectionItem.section (g.T.SectionItem.of c.args.item) c.add_or_forget.result _ _ c.self.view_is c.args.offset) c.add_or_forget.ensures.answer

pub returns-clause-grown : goal.returns-clause-grown
returns-clause-grown g c =
    grown_one c.add_or_forget.result _ _ _ c.self.view_is c.add_or_forget.ensures.settings c.add_or_forget.ensures.grown
