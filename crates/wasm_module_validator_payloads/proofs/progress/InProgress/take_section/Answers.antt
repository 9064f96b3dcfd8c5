use Rattle.std.proofs.Common.{◌∙◌, ◌<◌, ℕ, sym, ap, subst, inr}
use Rattle.std.specs.Prelude.{OnOk}
use Rattle.wasm_types.specs.decoding.Denials.{Denies}
use Rattle.wasm_module_validator_section_order.specs.rules_in_order.Adding.{Fits}
use Rattle.wasm_module_validator_section_order.specs.items.Adding.{IsItemOf}
use Rattle.wasm_module_validator_section_order.specs.items.FullLaws.{unless_full_both}
use Rattle.wasm_module_validator_section_order.specs.sections.Sections.{MayBegin}
use Rattle.wasm_module_validator_state.specs.invariant.Standing.{Stands}
use Rattle.wasm_module_validator_payloads.specs.Progress.{Kept, Progress, Grows}
use Rattle.wasm_module_validator_payloads.specs.laws.Taking.{is_behind, not_behind, unread, too_many, answered, all_added}
use Rattle.wasm_module_validator_payloads.specs.laws.Totals.{full_where}
use Rattle.wasm_module_validator_payloads.proofs.progress.InProgress.take_section.Goals as goal

pub returns-in-Err-clause-answer : goal.returns-in-Err-clause-answer
returns-in-Err-clause-answer g c = inr (λ z p bodies b at same counts.
    let s = g.T.SectionItem.section in
    let r = c.args.self.now in
    not_behind z p r bodies at s c.in-Err.error.kind b.rest (subst (λ (n : ℕ). Denies c.in-Err.error.kind (r.last < n)) c.place.ensures c.in-Err.ensures.answer))

pub returns-in-Err-check_count-clause-answer : goal.returns-in-Err-check_count-clause-answer
returns-in-Err-check_count-clause-answer g c = inr (λ z p bodies b at same counts.
    let law = g.met.T.SectionItem c.lifetimes (assumption c) in
    let s = g.T.SectionItem.section in
    let r = c.args.self.now in
    let kept = ap (λ x. x.collected) c.self-inside.view_is ∙ (ap (λ (q : Progress). q.kept) c.self.view_is ∙ ap (λ (q : Progress). q.kept) c.begin_section.ensures.begun) in
    let order = subst (λ (n : ℕ). r.last < n) c.place.ensures c.in-Ok.ensures.answer in
    let o = is_behind z p r bodies at s order in
    let there = subst (λ (k : Kept). Stands k.groups k.items z p.tree) (sym kept) at.stands in
    too_many z p r bodies at s g.T.FromReader.view g.T.SectionItem.of g.T.FromReader.decoder g.T.FromReader.grammar law.tells b c.args.section.reader c.args.section.count same counts
    c.in-Err-check_count.error.kind (subst (λ (n : ℕ). Denies c.in-Err-check_count.error.kind (MayBegin z s × Fits z s p.tree n)) c.count.ensures (c.in-Err-check_count.ensures.answer _ z p.tree there (unread z p r bodies at s o))))

pub returns-clause-answer : goal.returns-clause-answer
returns-clause-answer g c =
    let law = g.met.T.SectionItem c.lifetimes (assumption c) in
    let s = g.T.SectionItem.section in
    let r = c.args.self.now in
    let collected = ap (λ (q : Progress). q.kept) c.self.view_is ∙ ap (λ (q : Progress). q.kept) c.begin_section.ensures.begun in
    let kept = ap (λ x. x.collected) c.self-inside.view_is ∙ collected in
    let order = subst (λ (n : ℕ). r.last < n) c.place.ensures c.in-Ok.ensures.answer in
    let Is = IsItemOf g.T.FromReader.view g.T.SectionItem.of g.T.FromReader.decoder c.args.section.count c.args.section.reader in
    unless_full_both _ _ c.add_items.result _ _ _ (full_where s r Is _ collected order)
    (λ told stops z p bodies b at same counts.
    answered r s g.T.FromReader.view g.T.SectionItem.of g.T.FromReader.decoder g.T.FromReader.grammar law.tells c.args.section.reader c.args.section.count _ collected order
    (λ y q bs w o. subst (λ (n : ℕ). MayBegin y s × Fits y s q.tree n) c.count.ensures
    (c.in-Ok-check_count.ensures.answer _ y q.tree (subst (λ (k : Kept). Stands k.groups k.items y q.tree) (sym kept) w.stands) (unread y q r bs w s o)))
    z p bodies at c.add_items.result b same counts told stops) c.add_items.ensures.answer c.add_items.ensures.refused

pub returns-clause-added : goal.returns-clause-added
returns-clause-added g c =
    let law = g.met.T.SectionItem c.lifetimes (assumption c) in
    let s = g.T.SectionItem.section in
    let r = c.args.self.now in
    let collected = ap (λ (q : Progress). q.kept) c.self.view_is ∙ ap (λ (q : Progress). q.kept) c.begin_section.ensures.begun in
    let kept = ap (λ x. x.collected) c.self-inside.view_is ∙ collected in
    let last = ap (λ (q : Progress). q.last) c.self.view_is ∙ (ap (λ (q : Progress). q.last) c.begin_section.ensures.begun ∙ c.place.ensures) in
    let order = subst (λ (n : ℕ). r.last < n) c.place.ensures c.in-Ok.ensures.answer in
    all_added r s g.T.FromReader.view g.T.SectionItem.of g.T.FromReader.decoder g.T.FromReader.grammar law.tells c.args.section.reader c.args.section.count _ collected order
    (λ y q bs w o. subst (λ (n : ℕ). MayBegin y s × Fits y s q.tree n) c.count.ensures
    (c.in-Ok-check_count.ensures.answer _ y q.tree (subst (λ (k : Kept). Stands k.groups k.items y q.tree) (sym kept) w.stands) (unread y q r bs w s o)))
    _ c.add_items.result c.add_items.new.state _ last c.add_items.ensures.answer c.add_items.ensures.added

pub returns-clause-grown : goal.returns-clause-grown
returns-clause-grown g c =
    let collected = ap (λ (q : Progress). q.kept) c.self.view_is ∙ ap (λ (q : Progress). q.kept) c.begin_section.ensures.begun in
    subst (λ (k : Kept). OnOk c.add_items.result (Grows k c.add_items.new.state)) collected c.add_items.ensures.grown
