use Rattle.std.proofs.Common.{◌∙◌, ℕ, sym, ap, subst}
use Rattle.std.specs.Prelude.{OnOk}
use Rattle.wasm_types.specs.decoding.Denials.{Denies}
use Rattle.wasm_types.specs.decoding.DenialLaws.{denies_from}
use Rattle.wasm_module_validator_section_order.specs.rules_in_order.Adding.{Fits}
use Rattle.wasm_module_validator_section_order.specs.rules_in_order.Sections as section
use Rattle.wasm_sections_items.specs.imports.Decode.{import}
use Rattle.wasm_sections_items.specs.imports.Spells.{SpelledImport}
use Rattle.wasm_module_validator_state.specs.invariant.laws.Beginning.{imports_fit}
use Rattle.wasm_module_validator_section_order.specs.sections.Sections.{MayBegin}
use Rattle.wasm_module_validator_section_order.specs.sections.Kinds.{import_read}
use Rattle.wasm_module_validator_section_order.specs.sections.laws.Kinds.{imports_tell}
use Rattle.wasm_module_validator_state.specs.invariant.Standing.{Stands}
use Rattle.wasm_module_validator_section_order.specs.items.FullLaws.{unless_full}
use Rattle.wasm_module_validator_payloads.specs.Progress.{Kept, Progress, Grows}
use Rattle.wasm_module_validator_payloads.specs.laws.Taking.{is_behind, too_many, answered, all_added}
use Rattle.wasm_module_validator_payloads.proofs.progress.InProgress.take_imports.Goals as goal

pub returns-in-Err-check_import_count-clause-answer : goal.returns-in-Err-check_import_count-clause-answer
returns-in-Err-check_import_count-clause-answer c = λ z p bodies b at same counts.
    let s = section.imports in
    let r = c.args.self.now in
    let kept = ap (λ x. x.collected) c.self-inside.view_is ∙ (ap (λ (q : Progress). q.kept) c.self.view_is ∙ ap (λ (q : Progress). q.kept) c.begin_section.ensures.begun) in
    let order = c.in-Ok.ensures.answer in
    let o = is_behind z p r bodies at s order in
    let there = subst (λ (k : Kept). Stands k.groups k.items z p.tree) (sym kept) at.stands in
    too_many z p r bodies at s import_read import_read import SpelledImport imports_tell b c.args.imports.reader c.args.imports.count same counts
    c.in-Err-check_import_count.error.kind (subst (λ (n : ℕ). Denies c.in-Err-check_import_count.error.kind (MayBegin z s × Fits z s p.tree n)) c.count.ensures (denies_from c.in-Err-check_import_count.error.kind _ _ (λ h. (imports_fit _ _ z p.tree there c.count.result).1 h.1) c.in-Err-check_import_count.ensures.answer))

pub returns-clause-answer : goal.returns-clause-answer
returns-clause-answer c = λ z p bodies b at same counts.
    let s = section.imports in
    let r = c.args.self.now in
    let collected = ap (λ (q : Progress). q.kept) c.self.view_is ∙ ap (λ (q : Progress). q.kept) c.begin_section.ensures.begun in
    let kept = ap (λ x. x.collected) c.self-inside.view_is ∙ collected in
    let order = c.in-Ok.ensures.answer in
    answered r s import_read import_read import SpelledImport imports_tell c.args.imports.reader c.args.imports.count _ collected order
    (λ y q bs w o. subst (λ (n : ℕ). MayBegin y s × Fits y s q.tree n) c.count.ensures
    (tt, (imports_fit _ _ y q.tree (subst (λ (k : Kept). Stands k.groups k.items y q.tree) (sym kept) w.stands) c.count.result).0 c.in-Ok-check_import_count.ensures.answer))
    z p bodies at c.add_lent_items.result b same counts c.add_lent_items.ensures.answer c.add_lent_items.ensures.refused

pub returns-clause-added : goal.returns-clause-added
returns-clause-added c =
    let s = section.imports in
    let r = c.args.self.now in
    let collected = ap (λ (q : Progress). q.kept) c.self.view_is ∙ ap (λ (q : Progress). q.kept) c.begin_section.ensures.begun in
    let kept = ap (λ x. x.collected) c.self-inside.view_is ∙ collected in
    let last = ap (λ (q : Progress). q.last) c.self.view_is ∙ ap (λ (q : Progress). q.last) c.begin_section.ensures.begun in
    let order = c.in-Ok.ensures.answer in
    all_added r s import_read import_read import SpelledImport imports_tell c.args.imports.reader c.args.imports.count _ collected order
    (λ y q bs w o. subst (λ (n : ℕ). MayBegin y s × Fits y s q.tree n) c.count.ensures
    (tt, (imports_fit _ _ y q.tree (subst (λ (k : Kept). Stands k.groups k.items y q.tree) (sym kept) w.stands) c.count.result).0 c.in-Ok-check_import_count.ensures.answer))
    (λ e. ⊥) c.add_lent_items.result c.add_lent_items.new.state _ last (unless_full (λ e. ⊥) c.add_lent_items.result _ c.add_lent_items.ensures.answer) c.add_lent_items.ensures.added

pub returns-clause-grown : goal.returns-clause-grown
returns-clause-grown c =
    let collected = ap (λ (q : Progress). q.kept) c.self.view_is ∙ ap (λ (q : Progress). q.kept) c.begin_section.ensures.begun in
    subst (λ (k : Kept). OnOk c.add_lent_items.result (Grows k c.add_lent_items.new.state)) collected c.add_lent_items.ensures.grown
