-- One more subtype is read, or the read ends where it does.
use Rattle.std.proofs.Common.{map, arith, subst, sym, ap, ◌∙◌}
use Rattle.std.proofs.lemmas.Result.{err_from_is_err_and}
use Rattle.std.proofs.lemmas.List.{map-append}
use Rattle.wasm_types_decoding.specs.Laws.{reaches_then}
use Rattle.wasm_types_settings.specs.Settings.{Settings}
use Rattle.wasm_types_reader.specs.Reading.{Fails}
use Rattle.wasm_types_reader.proofs.Rows.{goes_on, ends, is_done}
use Rattle.wasm_types.specs.SpellsTypes.{sub_value}
use Rattle.wasm_types.specs.DecodeTypes.{sub_type}
use Rattle.wasm_types.specs.Places.{place_of}
use Rattle.wasm_types.proofs.Counts.{even_push}
use Rattle.wasm_types.proofs.Places.{placed}
use Rattle.wasm_types.proofs.read_group.read_subtypes.Goals as goal

pub returns-in_err-ty-clause-answer : goal.returns-in_err-ty-clause-answer
returns-in_err-ty-clause-answer c =
    let p = err_from_is_err_and c.from_residual.result c.from_residual.ensures.1 in
    rw (p.1, p.2) (ends (sub_type c.args.reader.now.settings) (map sub_value c.loop.types.items) c.args.count c.loop.counter c.loop.reader _
    c.loop.invariant.read _ _ c.loop-test.true (subst (λ (z : Settings). Fails c.in_err-ty.field-0.0 (sub_type z c.loop.reader))
    c.loop.invariant.forward.taken.settings c.in_err-ty.ensures.answer.0))

pub loop-preserved : goal.loop-preserved
loop-preserved c = record {
  forward = reaches_then _ _ _ c.loop.invariant.forward c.in_ok-ty.ensures.forward;
  read =
      rw (c.in_ok-push.ensures.items, map-append sub_value c.loop.types.items)
      (goes_on (sub_type c.args.reader.now.settings) (map sub_value c.loop.types.items) c.args.count c.loop.counter c.loop.reader _
      c.loop.invariant.read _ _ c.loop-test.true (sym (ap (λ (z : Settings). sub_type z c.loop.reader) c.loop.invariant.forward.taken.settings) ∙
      c.in_ok-ty.ensures.answer));
  placed =
      rw (c.in_ok-push-2.ensures.items, c.original_position-offset.ensures)
      (goes_on (place_of (sub_type c.args.reader.now.settings)) c.loop.offsets.items c.args.count c.loop.counter c.loop.reader _
      c.loop.invariant.placed _ _ c.loop-test.true (placed (sub_type c.args.reader.now.settings) _ _ _
      (sym (ap (λ (z : Settings). sub_type z c.loop.reader) c.loop.invariant.forward.taken.settings) ∙ c.in_ok-ty.ensures.answer)));
  even = rw (c.in_ok-push.ensures.items, c.in_ok-push-2.ensures.items) (even_push c.loop.types.items c.loop.offsets.items _ _ c.loop.invariant.even);
}

pub returns-clause-answer : goal.returns-clause-answer
returns-clause-answer c = is_done (sub_type c.args.reader.now.settings) (map sub_value c.loop.types.items) c.args.count c.loop.counter c.loop.reader _
    c.loop.invariant.read (omega arith)

pub returns-in_err-push-clause-forward : goal.returns-in_err-push-clause-forward
returns-in_err-push-clause-forward c = reaches_then _ _ _ c.loop.invariant.forward c.in_ok-ty.ensures.forward

pub returns-in_err-push-2-clause-forward : goal.returns-in_err-push-2-clause-forward
returns-in_err-push-2-clause-forward c = reaches_then _ _ _ c.loop.invariant.forward c.in_ok-ty.ensures.forward

pub returns-clause-places : goal.returns-clause-places
returns-clause-places c = is_done (place_of (sub_type c.args.reader.now.settings)) c.loop.offsets.items c.args.count c.loop.counter c.loop.reader _
    c.loop.invariant.placed (omega arith)
