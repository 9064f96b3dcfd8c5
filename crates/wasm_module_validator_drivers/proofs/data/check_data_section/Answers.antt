use Rattle.std.proofs.Common.{◌<◌, ℕ, refl, sym, subst, arith}
use Rattle.wasm_types.specs.decoding.Denials.{Denies}
use Rattle.wasm_types.specs.decoding.DenialLaws.{denies}
use Rattle.wasm_operators_encoding.specs.ConstantDecoder.{constant, ConstantText}
use Rattle.wasm_module_validator_section_order.specs.items.FullLaws.{never_full}
use Rattle.wasm_module_validator_section_order.specs.sections.Sections.{MayBegin}
use Rattle.wasm_module_validator_section_order.specs.sections.Kinds.{data_read}
use Rattle.wasm_module_validator_section_order.specs.sections.laws.Kinds.{segments_tell}
use Rattle.wasm_module_validator_payloads.specs.state.Items.{Items}
use Rattle.wasm_sections_parser.specs.items.segments.Decode.{data_segment}
use Rattle.wasm_sections_parser.specs.items.segments.Spells.{SpelledData}
use Rattle.wasm_module_validator_section_order.specs.rules_in_order.Sections as section
use Rattle.wasm_module_validator_section_order.specs.rules_in_order.Adding.{Fits}
use Rattle.wasm_module_validator_payloads.specs.state.invariant.Standing.{Stands}
use Rattle.wasm_module_validator_payloads.specs.Progress.{Progress}
use Rattle.wasm_module_validator_payloads.specs.laws.Taking.{is_behind, not_behind, unread, too_many, answered, all_added}
use Rattle.wasm_module_validator_drivers.proofs.Checking.{each_kept, always}
use Rattle.wasm_module_validator_drivers.proofs.data.check_data_section.Goals as goal

pub returns-then-last-ge13-clause-answer : goal.returns-then-last-ge13-clause-answer
returns-then-last-ge13-clause-answer c = λ z p bodies b at same counts.
    not_behind z p (record { kept = c.args.«module».now; last = c.args.last }) bodies at section.data_segments c.new.result.kind b.rest
    (denies c.new.result.kind _ (λ lt. omega (arith, lt, c.if-last-ge13.true)))

pub returns-in-Err-clause-answer : goal.returns-in-Err-clause-answer
returns-in-Err-clause-answer c = λ z p bodies b at same counts.
    let s = section.data_segments in
    let r : Progress = record { kept = c.args.«module».now; last = c.args.last } in
    let order : c.args.last < 13 = omega (arith, c.if-last-ge13.false) in
    too_many z p r bodies at s data_read data_read (λ y. data_segment (constant y)) (λ y. SpelledData (ConstantText y)) segments_tell b c.args.segments.reader c.args.segments.count same counts
    c.in-Err.error.kind (subst (λ (n : ℕ). Denies c.in-Err.error.kind (MayBegin z s × Fits z s p.tree n)) c.count.ensures
    (c.in-Err.ensures.answer r.kept.groups z p.tree (subst (λ (i : Items). Stands r.kept.groups i z p.tree) (sym c.state.ensures) at.stands) (unread z p r bodies at s (is_behind z p r bodies at s order))))

pub returns-clause-answer : goal.returns-clause-answer
returns-clause-answer c = λ z p bodies b at same counts.
    let s = section.data_segments in
    let r : Progress = record { kept = c.args.«module».now; last = c.args.last } in
    let order : c.args.last < 13 = omega (arith, c.if-last-ge13.false) in
    answered r s data_read data_read (λ y. data_segment (constant y)) (λ y. SpelledData (ConstantText y)) segments_tell c.args.segments.reader c.args.segments.count r.kept refl order
    (λ y q bs w o. subst (λ (n : ℕ). MayBegin y s × Fits y s q.tree n) c.count.ensures
    (c.in-Ok.ensures.answer r.kept.groups y q.tree (subst (λ (i : Items). Stands r.kept.groups i y q.tree) (sym c.state.ensures) w.stands) (unread y q r bs w s o)))
    z p bodies at c.add_items.result b same counts
    (never_full _ (λ e full. full.full) c.add_items.result _ c.add_items.ensures.answer) (never_full _ (λ e full. full.full) c.add_items.result _ c.add_items.ensures.refused)

pub returns-clause-added : goal.returns-clause-added
returns-clause-added c =
    let s = section.data_segments in
    let r : Progress = record { kept = c.args.«module».now; last = c.args.last } in
    let order : c.args.last < 13 = omega (arith, c.if-last-ge13.false) in
    all_added r s data_read data_read (λ y. data_segment (constant y)) (λ y. SpelledData (ConstantText y)) segments_tell c.args.segments.reader c.args.segments.count r.kept refl order
    (λ y q bs w o. subst (λ (n : ℕ). MayBegin y s × Fits y s q.tree n) c.count.ensures
    (c.in-Ok.ensures.answer r.kept.groups y q.tree (subst (λ (i : Items). Stands r.kept.groups i y q.tree) (sym c.state.ensures) w.stands) (unread y q r bs w s o)))
    _ c.add_items.result r.kept 13 refl c.add_items.ensures.answer (always c.add_items.result _ (λ m t h all. each_kept r.kept all.items m t h all.each))
