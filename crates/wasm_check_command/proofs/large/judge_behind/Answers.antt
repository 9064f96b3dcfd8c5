-- By the lemmas on a module whose bytes come.
use Rattle.std.proofs.Common.{rules, ◌≡◌, ◌++◌, List, length, take, ℕ, refl, subst, sym, arith}
use Rattle.std.specs.Io.KnownBytes.{Consumes, prepend_known}
use Rattle.wasm_types.specs.settings.Settings.{Settings}
use Rattle.wasm_check_command.specs.Faults.{FailsReading}
use Rattle.wasm_check_command.specs.Settings.{settings_of}
use Rattle.wasm_check_command.proofs.LargeLemmas.{HasBehind, none_behind, begun_behind, more_behind, kept_within, within_both, long_both, end_behind}
use Rattle.wasm_check_command.proofs.large.judge_behind.Goals as goal

pub loop-turn-init : goal.loop-turn-init
loop-turn-init g c = record {
  behind =
      let front = c.as_slice-front.result.now in
      let a = g.R.Read.remaining c.args.reader.now in
      let same : front ≡ c.args.buffer.now.items = search rules in
      subst (λ (f : List ℕ). HasBehind g.J.Judge.came (settings_of c.args.chosen) f a a (length front) c.begin_with-begun.result) same
      (none_behind g.J.Judge.came (settings_of c.args.chosen) front a c.begin_with-begun.result c.begin_with-begun.ensures);
  within = search rules;
  turns = search rules;
}

pub conclude-requires : goal.conclude-requires
conclude-requires g c =
    begun_behind g.J.Judge.came (settings_of c.args.chosen) c.args.buffer.now.items (g.R.Read.remaining c.args.reader.now) (g.R.Read.remaining c.loop-turn.reader) (g.R.Read.remaining c.read_over.new.reader)
    c.loop-turn.came c.loop-turn.begun c.loop-turn.invariant.behind

pub take-requires : goal.take-requires
take-requires g c =
    begun_behind g.J.Judge.came (settings_of c.args.chosen) c.args.buffer.now.items (g.R.Read.remaining c.args.reader.now) (g.R.Read.remaining c.loop-turn.reader) (g.R.Read.remaining c.read_over.new.reader)
    c.loop-turn.came c.loop-turn.begun c.loop-turn.invariant.behind

pub returns-in-Err-clause-most : goal.returns-in-Err-clause-most
returns-in-Err-clause-most g c =
    kept_within g.J.Judge.came (settings_of c.args.chosen) c.args.buffer.now.items (g.R.Read.remaining c.args.reader.now) (g.R.Read.remaining c.loop-turn.reader) (g.R.Read.remaining c.read_over.new.reader)
    c.loop-turn.came c.loop-turn.begun c.loop-turn.invariant.behind c.in-Err.ensures.kept c.loop-turn.invariant.within

pub returns-in-Err-clause-err : goal.returns-in-Err-clause-err
returns-in-Err-clause-err g c = c.in-Err.ensures.err (prepend_known c.args.buffer.now.items (g.R.Read.remaining c.args.reader.now))

pub returns-then-count-eq0-clause-ok : goal.returns-then-count-eq0-clause-ok
returns-then-count-eq0-clause-ok g c =
    let b = g.R.Read.remaining c.loop-turn.reader in
    let after = g.R.Read.remaining c.read_over.new.reader in
    end_behind g.J.Judge.came (settings_of c.args.chosen) c.args.buffer.now.items (g.R.Read.remaining c.args.reader.now) b after
    c.loop-turn.came c.loop-turn.begun c.loop-turn.invariant.behind g.J.Judge.accepts c.read_over.new.chunk.items
    (subst (λ (n : ℕ). Consumes b after (take n c.read_over.new.chunk.items)) c.if-count-eq0.true c.in-Ok.ensures.gives)
    (c.in-Ok.ensures.at_end c.if-count-eq0.true) c.loop-turn.invariant.within c.conclude.result c.conclude.ensures

pub returns-then-count-eq0-clause-most : goal.returns-then-count-eq0-clause-most
returns-then-count-eq0-clause-most g c =
    within_both g.J.Judge.came (settings_of c.args.chosen) c.args.buffer.now.items (g.R.Read.remaining c.args.reader.now) (g.R.Read.remaining c.loop-turn.reader) (g.R.Read.remaining c.read_over.new.reader)
    c.loop-turn.came c.loop-turn.begun c.loop-turn.invariant.behind c.read_over.new.chunk.items c.in-Ok.count c.in-Ok.ensures.within.1 c.in-Ok.ensures.gives
    (omega (arith, c.loop-turn.invariant.within, c.in-Ok.ensures.within.0))

pub returns-then-count-left-clause-err : goal.returns-then-count-left-clause-err
returns-then-count-left-clause-err g c =
    subst (FailsReading c.args.index (prepend_known c.args.buffer.now.items (g.R.Read.remaining c.args.reader.now))) (sym c.without_reason.ensures) (
      refl,
      long_both g.J.Judge.came (settings_of c.args.chosen) c.args.buffer.now.items (g.R.Read.remaining c.args.reader.now) (g.R.Read.remaining c.loop-turn.reader) (g.R.Read.remaining c.read_over.new.reader)
          c.loop-turn.came c.loop-turn.begun c.loop-turn.invariant.behind c.read_over.new.chunk.items c.in-Ok.count c.in-Ok.ensures.within.1 c.in-Ok.ensures.gives
          (omega (arith, c.loop-turn.invariant.within, c.if-count-left.true)),
    )

pub returns-then-count-left-clause-most : goal.returns-then-count-left-clause-most
returns-then-count-left-clause-most g c =
    within_both g.J.Judge.came (settings_of c.args.chosen) c.args.buffer.now.items (g.R.Read.remaining c.args.reader.now) (g.R.Read.remaining c.loop-turn.reader) (g.R.Read.remaining c.read_over.new.reader)
    c.loop-turn.came c.loop-turn.begun c.loop-turn.invariant.behind c.read_over.new.chunk.items c.in-Ok.count c.in-Ok.ensures.within.1 c.in-Ok.ensures.gives
    (omega (arith, c.loop-turn.invariant.within, c.in-Ok.ensures.within.0))

pub loop-turn-preserved : goal.loop-turn-preserved
loop-turn-preserved g c = record {
  behind =
      let begun = c.loop-turn.begun in
      let taken = subst (λ (bytes : List ℕ). (z : Settings) (got : List ℕ) → g.J.Judge.came z got begun → g.J.Judge.came z (got ++ take c.in-Ok.count bytes) c.take.new.begun)
      c.as_slice-read.ensures.value c.take.ensures in
      more_behind g.J.Judge.came (settings_of c.args.chosen) c.args.buffer.now.items (g.R.Read.remaining c.args.reader.now) (g.R.Read.remaining c.loop-turn.reader) (g.R.Read.remaining c.read_over.new.reader)
      c.loop-turn.came begun c.loop-turn.invariant.behind c.read_over.new.chunk.items c.in-Ok.count c.in-Ok.ensures.within.1 c.in-Ok.ensures.gives c.take.new.begun taken;
  within = search rules;
  turns = search rules;
}
