-- A section over the bytes of a list that was passed holds that list.
use Rattle.std.proofs.Common.{◌≡◌, ◌-◌, List, ℕ, sym, ap, ◌∙◌, subst}
use Rattle.std.proofs.lemmas.Result.{err_from_is_err_and}
use Rattle.wasm_types.specs.settings.Settings.{Settings}
use Rattle.wasm_types.specs.decoding.Decoder.{State, Done, bytes}
use Rattle.wasm_types.specs.reader.Reading.{Fails}
use Rattle.wasm_sections_items.specs.elements.Passing.{passed_list}
use Rattle.wasm_sections_items.specs.elements.PassingLaws.{list_refused, section_answers}
use Rattle.wasm_sections_items.proofs.elements.items.read_section.Goals as goal

pub returns-in_err-pass_list-clause-answer : goal.returns-in_err-pass_list-clause-answer
returns-in_err-pass_list-clause-answer g c =
    let p = err_from_is_err_and c.from_residual.result c.from_residual.ensures.1 in
    let d = g.T.FromReader.decoder in
    let e = c.in_err-pass_list.field-0.0 in
    let here : Fails e (passed_list (d c.args.reader.now.settings) c.args.reader.now) =
    subst (λ (v : State). Fails e (passed_list (d v.settings) v)) c.clone-ahead.ensures c.in_err-pass_list.ensures.answer in
    rw (p.1, p.2) (list_refused (d c.args.reader.now.settings) c.args.reader.now e.kind e.offset here)

pub returns-clause-answer : goal.returns-clause-answer
returns-clause-answer g c =
    let d = g.T.FromReader.decoder in
    let s = c.args.reader.now in
    let met = g.met.T.FromReader c.lifetimes (assumption c) in
    (section_answers d g.T.FromReader.grammar met.exact (λ x. x.count) (λ x. x.reader) c.new.result s c.pass_list.new.reader c.read_bytes.new.self c.new_limited-part.result c.in_ok-text.text.now
    (subst (λ (v : State). passed_list (d v.settings) v ≡ Done tt c.pass_list.new.reader) c.clone-ahead.ensures c.in_ok-pass_list.ensures.answer)
    (sym (λ i. bytes (c.bytes_remaining.ensures i - c.bytes_remaining-2.ensures i) s) ∙ c.in_ok-text.ensures.answer)
    (c.new_limited-part.ensures ∙ (λ i. record {
      rest = c.in_ok-text.text.now;
      place = c.original_position-place.ensures i;
      settings =
          record {
            features = (c.features.ensures ∙ ap (λ (z : Settings). z.features) c.in_ok-text.ensures.forward.taken.settings) i;
            limits =
                (c.limits.ensures.value ∙ ap (λ (z : Settings). z.limits) c.in_ok-text.ensures.forward.taken.settings) i;
          };
      start = c.original_position-place.ensures i;
    }))
    c.new.ensures.answer
    c.new.ensures.no_memory).0

pub returns-clause-holds : goal.returns-clause-holds
returns-clause-holds g c =
    let d = g.T.FromReader.decoder in
    let s = c.args.reader.now in
    let met = g.met.T.FromReader c.lifetimes (assumption c) in
    (section_answers d g.T.FromReader.grammar met.exact (λ x. x.count) (λ x. x.reader) c.new.result s c.pass_list.new.reader c.read_bytes.new.self c.new_limited-part.result c.in_ok-text.text.now
    (subst (λ (v : State). passed_list (d v.settings) v ≡ Done tt c.pass_list.new.reader) c.clone-ahead.ensures c.in_ok-pass_list.ensures.answer)
    (sym (λ i. bytes (c.bytes_remaining.ensures i - c.bytes_remaining-2.ensures i) s) ∙ c.in_ok-text.ensures.answer)
    (c.new_limited-part.ensures ∙ (λ i. record {
      rest = c.in_ok-text.text.now;
      place = c.original_position-place.ensures i;
      settings =
          record {
            features = (c.features.ensures ∙ ap (λ (z : Settings). z.features) c.in_ok-text.ensures.forward.taken.settings) i;
            limits =
                (c.limits.ensures.value ∙ ap (λ (z : Settings). z.limits) c.in_ok-text.ensures.forward.taken.settings) i;
          };
      start = c.original_position-place.ensures i;
    }))
    c.new.ensures.answer
    c.new.ensures.no_memory).1
