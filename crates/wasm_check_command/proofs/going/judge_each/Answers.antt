use Rattle.std.proofs.Common.{inl, inr, arith, rules}
use Rattle.std.proofs.KnownBytes.{Keeps-refl, Keeps-trans}
use Rattle.std.proofs.lemmas.List.{length-map}
use Rattle.wasm_check_command.specs.Modes.{ruling_of}
use Rattle.wasm_check_command.specs.Files.{texts}
use Rattle.wasm_check_command.proofs.FileReports.{goes_none, goes_ended}
use Rattle.wasm_check_command.proofs.going.judge_each.Goals as goal

pub loop-place-init : goal.loop-place-init
loop-place-init g c = (
  goes_none (ruling_of g.J.Judge.accepts c.args.chosen) (texts c.args.names.now) (g.W.Write.contents c.args.out.now),
  λ e. Keeps-refl (g.E.Write.contents c.args.err.now),
  omega arith,
)

pub loop-place-preserved : goal.loop-place-preserved
loop-place-preserved g c = (
  c.in-Ok.ensures.ok (g.W.Write.contents c.args.out.now) c.loop-place.invariant.0,
  λ e. let h = c.in-Ok.ensures.quiet e in
      Keeps-trans (g.E.Write.contents c.args.err.now) (g.E.Write.contents c.loop-place.err) (g.E.Write.contents c.judge_next.new.err) (c.loop-place.invariant.1 h.0) h.1,
  omega (arith, length-map c.args.names.now (λ n. n.now), c.loop-place-test.true),
)

pub returns-then-is_enough-clause-ok : goal.returns-then-is_enough-clause-ok
returns-then-is_enough-clause-ok g c =
    goes_ended (ruling_of g.J.Judge.accepts c.args.chosen) (texts c.args.names.now) c.loop-place.place (g.W.Write.contents c.args.out.now) (g.W.Write.contents c.loop-place.out)
    c.loop-place.ended.status c.loop-place.ended.lost c.loop-place.invariant.0 (omega (arith, length-map c.args.names.now (λ n. n.now), c.loop-place-test.true)) (inr (search rules))

pub returns-in-Err-clause-err : goal.returns-in-Err-clause-err
returns-in-Err-clause-err g c = c.in-Err.ensures.err (g.W.Write.contents c.args.out.now) c.loop-place.invariant.0

pub returns-clause-ok : goal.returns-clause-ok
returns-clause-ok g c =
    goes_ended (ruling_of g.J.Judge.accepts c.args.chosen) (texts c.args.names.now) c.loop-place.place (g.W.Write.contents c.args.out.now) (g.W.Write.contents c.loop-place.out)
    c.loop-place.ended.status c.loop-place.ended.lost c.loop-place.invariant.0 c.loop-place.invariant.2 (inl (omega (arith, length-map c.args.names.now (λ n. n.now), c.loop-place-test.false)))

pub returns-clause-quiet : goal.returns-clause-quiet
returns-clause-quiet g c = c.loop-place.invariant.1

pub returns-then-is_enough-clause-quiet : goal.returns-then-is_enough-clause-quiet
returns-then-is_enough-clause-quiet g c = c.loop-place.invariant.1
