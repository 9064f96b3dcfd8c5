use Rattle.std.proofs.Common.{◌≡◌, ◌∙◌, refl, sym, ap, subst, Some, Result, ℕ}
use Rattle.wasm_types.specs.decoding.Decoder.{State}
use Rattle.wasm_types.specs.decoding.ErrorValue.{ErrorValue}
use Rattle.wasm_types.specs.reader.Reading.{Fails}
use Rattle.wasm_sections_items.specs.limited.Walking.{Walk, NextIn, fresh}
use Rattle.wasm_sections_items.specs.limited.Runs.{place_with_offsets, with_offset}
use Rattle.wasm_module_validator_section_order.specs.items.AddingLaws.{Stands, stands_first, stands_behind, refused_item, refused_bytes, stops_at_bytes, stops_at_an_item, are_added_at_the_end, stands_at_the_end}
use Rattle.wasm_module_validator_section_order.proofs.items.lent.add_lent_items.Goals as goal

pub items-init : goal.items-init
items-init g c =
    let i = g.T.FromReader in
    let a = g.S.AddLent in
    let law = g.met.S.AddLent c.lifetimes (assumption c) in
    let b = c.args.section.reader in
    let n = c.args.section.count in
    let s = c.args.state.now in
    let e = c.into_iter_with_offsets-items.ensures in
    let here : place_with_offsets c.into_iter_with_offsets-items.result ≡ fresh n b = cc in (
      subst (λ (w : Walk). Stands i.view a.of i.decoder i.grammar a.adds b.settings a.reads n b s w s) (sym here)
          (stands_first i.view a.of law.alike i.decoder i.grammar (g.met.T.FromReader c.lifetimes (assumption c)).exact a.adds b.settings a.reads n b s refl),
      law.grows_by_nothing s,
    )

pub returns-in-None-clause-answer : goal.returns-in-None-clause-answer
returns-in-None-clause-answer g c =
    let i = g.T.FromReader in
    let a = g.S.AddLent in
    let law = g.met.S.AddLent c.lifetimes (assumption c) in
    let b = c.args.section.reader in
    let n = c.args.section.count in
    let s = c.args.state.now in
    are_added_at_the_end i.view a.of law.alike i.decoder i.grammar (g.met.T.FromReader c.lifetimes (assumption c)).exact a.adds b.settings a.reads n b s
    (place_with_offsets c.pass_lent_front.new.items) (place_with_offsets c.next.new.self) c.pass_lent_front.new.state
    (c.pass_lent_front.ensures.stands b.settings n b s (sym (c.limits-limits.ensures.value ∙ ap (λ (r : State). r.settings.limits) c.get_binary_reader.ensures)) c.items.invariant.0) c.in-None.ensures.steps.0

pub returns-in-None-clause-added : goal.returns-in-None-clause-added
returns-in-None-clause-added g c =
    let i = g.T.FromReader in
    let a = g.S.AddLent in
    let law = g.met.S.AddLent c.lifetimes (assumption c) in
    let b = c.args.section.reader in
    let n = c.args.section.count in
    let s = c.args.state.now in
    stands_at_the_end i.view a.of law.alike i.decoder i.grammar (g.met.T.FromReader c.lifetimes (assumption c)).exact a.adds b.settings a.reads n b s
    (place_with_offsets c.pass_lent_front.new.items) (place_with_offsets c.next.new.self) c.pass_lent_front.new.state
    (c.pass_lent_front.ensures.stands b.settings n b s (sym (c.limits-limits.ensures.value ∙ ap (λ (r : State). r.settings.limits) c.get_binary_reader.ensures)) c.items.invariant.0) c.in-None.ensures.steps.0

pub returns-in-None-clause-grown : goal.returns-in-None-clause-grown
returns-in-None-clause-grown g c =
    let law = g.met.S.AddLent c.lifetimes (assumption c) in
    law.grows_further c.args.state.now c.items.state c.pass_lent_front.new.state c.items.invariant.1 c.pass_lent_front.ensures.grown

pub returns-in-Some-Err-clause-answer : goal.returns-in-Some-Err-clause-answer
returns-in-Some-Err-clause-answer g c =
    let i = g.T.FromReader in
    let a = g.S.AddLent in
    let law = g.met.S.AddLent c.lifetimes (assumption c) in
    let b = c.args.section.reader in
    let n = c.args.section.count in
    let s = c.args.state.now in
    let w = place_with_offsets c.pass_lent_front.new.items in
    let v = place_with_offsets c.next.new.self in
    let step = subst (λ (r : Result (ℕ × g.row.T.Denot) ErrorValue). NextIn (with_offset i.view i.decoder w.reader.settings) (λ d e. Fails e (i.decoder w.reader.settings d)) w (Some r) v)
    c.in-Some-Err.field-0-is c.in-Some-Err.ensures.steps.0 in
    refused_bytes i.view a.of law.alike i.decoder i.grammar (g.met.T.FromReader c.lifetimes (assumption c)).exact a.adds b.settings a.reads n b s
    w v c.pass_lent_front.new.state c.in-Some-Err.error
    (c.pass_lent_front.ensures.stands b.settings n b s (sym (c.limits-limits.ensures.value ∙ ap (λ (r : State). r.settings.limits) c.get_binary_reader.ensures)) c.items.invariant.0) step

pub returns-in-Some-Err-clause-refused : goal.returns-in-Some-Err-clause-refused
returns-in-Some-Err-clause-refused g c =
    let i = g.T.FromReader in
    let a = g.S.AddLent in
    let law = g.met.S.AddLent c.lifetimes (assumption c) in
    let b = c.args.section.reader in
    let n = c.args.section.count in
    let s = c.args.state.now in
    let w = place_with_offsets c.pass_lent_front.new.items in
    let v = place_with_offsets c.next.new.self in
    let step = subst (λ (r : Result (ℕ × g.row.T.Denot) ErrorValue). NextIn (with_offset i.view i.decoder w.reader.settings) (λ d e. Fails e (i.decoder w.reader.settings d)) w (Some r) v)
    c.in-Some-Err.field-0-is c.in-Some-Err.ensures.steps.0 in
    stops_at_bytes i.view a.of law.alike i.decoder i.grammar (g.met.T.FromReader c.lifetimes (assumption c)).exact a.adds b.settings a.reads n b s
    a.refuses w v c.pass_lent_front.new.state c.in-Some-Err.error
    (c.pass_lent_front.ensures.stands b.settings n b s (sym (c.limits-limits.ensures.value ∙ ap (λ (r : State). r.settings.limits) c.get_binary_reader.ensures)) c.items.invariant.0) step

pub items-preserved : goal.items-preserved
items-preserved g c =
    let i = g.T.FromReader in
    let a = g.S.AddLent in
    let law = g.met.S.AddLent c.lifetimes (assumption c) in
    let b = c.args.section.reader in
    let n = c.args.section.count in
    let s = c.args.state.now in
    let w = place_with_offsets c.pass_lent_front.new.items in
    let v = place_with_offsets c.next.new.self in
    let step = subst (λ (r : Result (ℕ × g.row.T.Denot) ErrorValue). NextIn (with_offset i.view i.decoder w.reader.settings) (λ d e. Fails e (i.decoder w.reader.settings d)) w (Some r) v)
    c.in-Some-Ok.field-0-is c.in-Some-Ok.ensures.steps.0 in
    let steps = c.in-Some-Ok.ensures.steps in (
      stands_behind i.view a.of law.alike i.decoder i.grammar (g.met.T.FromReader c.lifetimes (assumption c)).exact a.adds b.settings a.reads n b s
          w v c.pass_lent_front.new.state c.add_lent.new.self c.in-Some-Ok.item
          (c.pass_lent_front.ensures.stands b.settings n b s (sym (c.limits-limits.ensures.value ∙ ap (λ (r : State). r.settings.limits) c.get_binary_reader.ensures)) c.items.invariant.0) step steps.2 c.in-Ok.ensures.answer c.in-Ok.ensures.added,
      law.grows_further s c.pass_lent_front.new.state c.add_lent.new.self
          (law.grows_further s c.items.state c.pass_lent_front.new.state c.items.invariant.1 c.pass_lent_front.ensures.grown) c.in-Ok.ensures.grown,
    )

pub returns-in-Err-clause-answer : goal.returns-in-Err-clause-answer
returns-in-Err-clause-answer g c =
    let i = g.T.FromReader in
    let a = g.S.AddLent in
    let law = g.met.S.AddLent c.lifetimes (assumption c) in
    let b = c.args.section.reader in
    let n = c.args.section.count in
    let s = c.args.state.now in
    let w = place_with_offsets c.pass_lent_front.new.items in
    let v = place_with_offsets c.next.new.self in
    let step = subst (λ (r : Result (ℕ × g.row.T.Denot) ErrorValue). NextIn (with_offset i.view i.decoder w.reader.settings) (λ d e. Fails e (i.decoder w.reader.settings d)) w (Some r) v)
    c.in-Some-Ok.field-0-is c.in-Some-Ok.ensures.steps.0 in
    let standing = c.pass_lent_front.ensures.stands b.settings n b s (sym (c.limits-limits.ensures.value ∙ ap (λ (r : State). r.settings.limits) c.get_binary_reader.ensures)) c.items.invariant.0 in
    refused_item i.view a.of law.alike i.decoder i.grammar (g.met.T.FromReader c.lifetimes (assumption c)).exact a.adds b.settings a.reads n b s
    w v c.pass_lent_front.new.state c.in-Some-Ok.item c.in-Err.error.kind standing step c.in-Err.ensures.answer

pub returns-in-Err-clause-refused : goal.returns-in-Err-clause-refused
returns-in-Err-clause-refused g c =
    let i = g.T.FromReader in
    let a = g.S.AddLent in
    let law = g.met.S.AddLent c.lifetimes (assumption c) in
    let b = c.args.section.reader in
    let n = c.args.section.count in
    let s = c.args.state.now in
    let w = place_with_offsets c.pass_lent_front.new.items in
    let v = place_with_offsets c.next.new.self in
    let step = subst (λ (r : Result (ℕ × g.row.T.Denot) ErrorValue). NextIn (with_offset i.view i.decoder w.reader.settings) (λ d e. Fails e (i.decoder w.reader.settings d)) w (Some r) v)
    c.in-Some-Ok.field-0-is c.in-Some-Ok.ensures.steps.0 in
    let standing = c.pass_lent_front.ensures.stands b.settings n b s (sym (c.limits-limits.ensures.value ∙ ap (λ (r : State). r.settings.limits) c.get_binary_reader.ensures)) c.items.invariant.0 in
    stops_at_an_item i.view a.of law.alike i.decoder i.grammar (g.met.T.FromReader c.lifetimes (assumption c)).exact a.adds b.settings a.reads n b s
    a.refuses w v c.pass_lent_front.new.state c.in-Some-Ok.item c.in-Err.error standing step c.in-Err.ensures.refused

pub add_lent-requires : goal.add_lent-requires
add_lent-requires g c =
    let i = g.T.FromReader in
    let w = place_with_offsets c.pass_lent_front.new.items in
    let v = place_with_offsets c.next.new.self in
    let step = subst (λ (r : Result (ℕ × g.row.T.Denot) ErrorValue). NextIn (with_offset i.view i.decoder w.reader.settings) (λ d e. Fails e (i.decoder w.reader.settings d)) w (Some r) v)
    c.in-Some-Ok.field-0-is c.in-Some-Ok.ensures.steps.0 in
    λ k. ((refl, tt), (w.reader.settings, w.reader, v.reader, step.3.1))
