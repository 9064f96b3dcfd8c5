-- One more value is passed, or the read ends where it does.
use Rattle.std.proofs.Common.{arith, subst, sym, ap, ◌∙◌}
use Rattle.std.proofs.lemmas.Result.{err_from_is_err_and}
use Rattle.wasm_types.specs.settings.Settings.{Settings}
use Rattle.wasm_types.specs.decoding.Laws.{reaches_then}
use Rattle.wasm_types.specs.reader.Reading.{Fails}
use Rattle.wasm_sections_items.specs.elements.PassingLaws.{goes_on, ends, is_done}
use Rattle.wasm_sections_items.proofs.elements.items.pass_values.Goals as goal

pub returns-in_err-read-clause-answer : goal.returns-in_err-read-clause-answer
returns-in_err-read-clause-answer g c =
    let p = err_from_is_err_and c.from_residual.result c.from_residual.ensures.1 in
    rw (p.1, p.2) (ends (g.T.FromReader.decoder c.args.reader.now.settings) c.args.count c.loop.counter c.loop.reader _ _ _ c.loop.invariant.read c.loop-test.true
    (subst (λ (z : Settings). Fails c.in_err-read.field-0.0 (g.T.FromReader.decoder z c.loop.reader)) c.loop.invariant.forward.taken.settings c.in_err-read.ensures.answer.0))

pub loop-preserved : goal.loop-preserved
loop-preserved g c = record {
  forward = reaches_then _ _ _ c.loop.invariant.forward c.in_ok-read.ensures.forward;
  read = goes_on (g.T.FromReader.decoder c.args.reader.now.settings) c.args.count c.loop.counter c.loop.reader _ _ _ c.loop.invariant.read c.loop-test.true
      (sym (ap (λ (z : Settings). g.T.FromReader.decoder z c.loop.reader) c.loop.invariant.forward.taken.settings) ∙ c.in_ok-read.ensures.answer);
}

pub returns-clause-answer : goal.returns-clause-answer
returns-clause-answer g c = is_done (g.T.FromReader.decoder c.args.reader.now.settings) c.args.count c.loop.counter c.loop.reader _ c.loop.invariant.read (omega arith)
