-- One more value is read, or the read ends where it does.
use Rattle.std.proofs.Common.{map, arith, subst, sym, ap, ◌∙◌}
use Rattle.std.proofs.lemmas.Result.{err_from_is_err_and}
use Rattle.std.proofs.lemmas.List.{map-append}
use Rattle.wasm_types_decoding.specs.Laws.{reaches_then}
use Rattle.wasm_types_decoding.specs.settings.Settings.{Settings}
use Rattle.wasm_types_reader.specs.Reading.{Fails}
use Rattle.wasm_types_reader.proofs.Room.{kept_room}
use Rattle.wasm_types_reader.proofs.Rows.{goes_on, ends, is_done}
use Rattle.wasm_types_reader.proofs.lists.some_items.Goals as goal

pub returns-in_err-item-clause-answer : goal.returns-in_err-item-clause-answer
returns-in_err-item-clause-answer g c =
    let p = err_from_is_err_and c.from_residual.result c.from_residual.ensures.1 in
    rw (p.1, p.2) (ends (g.T.FromReader.decoder c.args.reader.now.settings) (map g.T.FromReader.view c.loop.items.items) c.args.count c.loop.counter c.loop.reader _ c.loop.invariant.read _ _ c.loop-test.true (subst (λ (z : Settings). Fails c.in_err-item.field-0.0 (g.T.FromReader.decoder z c.loop.reader)) c.loop.invariant.forward.taken.settings c.in_err-item.ensures.answer.0))

pub loop-preserved : goal.loop-preserved
loop-preserved g c = record {
  forward = reaches_then _ _ _ c.loop.invariant.forward c.in_ok-item.ensures.forward;
  first = λ none. absurd (omega (arith, none));
  kept = λ some. kept_room (g.T.FromReader.decoder c.args.reader.now.settings) c.args.count c.args.reader.now g.T.FromReader.takes_memory c.loop.counter c.loop.reader _ _ c.loop-test.true c.loop.invariant.first c.loop.invariant.kept (sym (ap (λ (z : Settings). g.T.FromReader.decoder z c.loop.reader) c.loop.invariant.forward.taken.settings) ∙ c.in_ok-item.ensures.answer);
  read =
      rw (c.in_ok-push.ensures.items, map-append g.T.FromReader.view c.loop.items.items) (goes_on (g.T.FromReader.decoder c.args.reader.now.settings) (map g.T.FromReader.view c.loop.items.items) c.args.count c.loop.counter c.loop.reader _ c.loop.invariant.read _ _ c.loop-test.true (sym (ap (λ (z : Settings). g.T.FromReader.decoder z c.loop.reader) c.loop.invariant.forward.taken.settings) ∙ c.in_ok-item.ensures.answer));
}

pub returns-clause-answer : goal.returns-clause-answer
returns-clause-answer g c = is_done (g.T.FromReader.decoder c.args.reader.now.settings) (map g.T.FromReader.view c.loop.items.items) c.args.count c.loop.counter c.loop.reader _ c.loop.invariant.read (omega arith)

pub returns-in_err-push-clause-forward : goal.returns-in_err-push-clause-forward
returns-in_err-push-clause-forward g c = reaches_then _ _ _ c.loop.invariant.forward c.in_ok-item.ensures.forward
