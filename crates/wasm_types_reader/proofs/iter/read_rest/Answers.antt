-- One more value is read, or there is none.
use Rattle.std.proofs.Common.{◌≡◌, ℕ, ◌-◌, ◌∙◌, refl, subst, sym, ap, arith}
use Rattle.wasm_types_decoding.specs.settings.Settings.{Settings}
use Rattle.wasm_types_reader.specs.Reading.{Fails}
use Rattle.wasm_types_reader.specs.Draining.{Drains}
use Rattle.wasm_types_reader.proofs.Drained.{drains_none, drains_more, drains_ends}
use Rattle.wasm_types_reader.proofs.iter.read_rest.Goals as goal

pub loop-init : goal.loop-init
loop-init g c = record {
  rest = λ t h. subst (λ (k : ℕ). Drains (g.T.FromReader.decoder c.args.reader.now.settings) g.T.FromReader.takes_memory k c.args.reader.now t) (omega arith) h;
  same = refl;
}

pub returns-in_default : goal.returns-in_default
returns-in_default g c =
    let d = g.T.FromReader.decoder c.args.reader.now.settings in
    rw c.in_default.ensures.answer.1 (c.loop.invariant.rest _ (drains_ends d g.T.FromReader.takes_memory c.args.count c.loop.counter c.loop-test.true c.loop.reader _ c.in_default.field-0 (subst (λ (z : Settings). Fails c.in_default.field-0 (g.T.FromReader.decoder z c.loop.reader)) c.loop.invariant.same c.in_default.ensures.answer.0) c.in_default.ensures.memory))

pub loop-preserved : goal.loop-preserved
loop-preserved g c =
    let d = g.T.FromReader.decoder c.args.reader.now.settings in
    record {
      rest = λ t h. c.loop.invariant.rest t (drains_more d g.T.FromReader.takes_memory c.args.count c.loop.counter c.loop-test.true c.loop.reader _ _ (sym (ap (λ (z : Settings). g.T.FromReader.decoder z c.loop.reader) c.loop.invariant.same) ∙ c.in-Ok.ensures.answer) t h);
      same = c.in-Ok.ensures.forward.taken.settings ∙ c.loop.invariant.same;
    }

pub returns : goal.returns
returns g c =
    let d = g.T.FromReader.decoder c.args.reader.now.settings in
    let none : 0 ≡ c.args.count - c.loop.counter = omega arith in
    c.loop.invariant.rest _ (subst (λ (k : ℕ). Drains d g.T.FromReader.takes_memory k c.loop.reader c.loop.reader) none (drains_none d g.T.FromReader.takes_memory c.loop.reader))
