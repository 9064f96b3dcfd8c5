use Rattle.std.proofs.Common.{[], ◌∷◌, ◌∙◌, refl, arith}
use Rattle.std.proofs.lemmas.Iterator.Adapters.{YieldsList-from_vec}
use Rattle.std.proofs.lemmas.Iterator.Consumers.{YieldsList-so_far, YieldsList-turn}
use Rattle.std.proofs.lemmas.List.{map-append, length_push}
use Rattle.std.proofs.lemmas.Result.{err_from_is_err_and}
use Rattle.wasm_check_command.specs.Modes.{ruling_of}
use Rattle.wasm_check_command.specs.Reports.{source_of, sources_of}
use Rattle.wasm_check_command.proofs.ReportLemmas.{IsReported-none, Stops-after, sources_so_far, source_at, IsReported-valid, IsReported-invalid}
use Rattle.wasm_check_command.proofs.judging.judge_all.Goals as goal
use Rattle.wasm_check_command.proofs.judging.judge_all.Goals.{then-not-branch, else-not-branch}

pub loop-input-init : goal.loop-input-init
loop-input-init g c = record { can = tt; finite = tt; counted = refl; reported = IsReported-none (ruling_of g.J.Judge.accepts c.args.chosen) (g.W.Write.contents c.args.out.now) }

pub returns-in_err-judge_input-clause-err : goal.returns-in_err-judge_input-clause-err
returns-in_err-judge_input-clause-err g c =
    let road = YieldsList-from_vec {s = c.into_iter-input-iterator.result} c.args.inputs.items
    c.into_iter-input-iterator.ensures.into_iter_gives.0 (c.into_iter-input-iterator.ensures.into_iter_gives.1 ∙ c.args.inputs.ok.0) in
    let so_far = YieldsList-so_far road c.loop-input.yielded c.loop-input.input-iterator c.loop-input.yielded_by in
    let turn = YieldsList-turn road c.loop-input.yielded c.loop-input.input-iterator c.loop-input.yielded_by c.next.result c.next.new.self c.in-Some.input c.in-Some.is c.next.ensures.steps in
    let failed = err_from_is_err_and c.from_residual.result c.from_residual.ensures.1 in
    rw (failed.1, failed.2) (Stops-after (ruling_of g.J.Judge.accepts c.args.chosen) (sources_of g.R.Read.remaining c.args.inputs.items) (sources_of g.R.Read.remaining c.loop-input.yielded)
    (source_of g.R.Read.remaining c.in-Some.input)
    c.loop-input.index (g.W.Write.contents c.args.out.now) (g.W.Write.contents c.loop-input.out) (g.W.Write.contents c.judge_input.new.out) c.loop-input.status c.in_err-judge_input.field-0.0
    c.loop-input.invariant.reported
    (sources_so_far g.R.Read.remaining c.loop-input.yielded c.args.inputs.items c.loop-input.index c.loop-input.invariant.counted so_far)
    (source_at g.R.Read.remaining c.loop-input.yielded c.args.inputs.items c.loop-input.index c.in-Some.input c.loop-input.invariant.counted turn)
    c.in_err-judge_input.ensures.err)

pub loop-input-preserved : goal.loop-input-preserved
loop-input-preserved g c = record {
  can = tt;
  finite = tt;
  counted = grind (arith, length_push c.loop-input.yielded c.in-Some.input);
  reported = rw (map-append (source_of g.R.Read.remaining) c.loop-input.yielded (c.in-Some.input ∷ [])) (elim c.if-not-branch.branch [
    | then-not-branch w ↦ IsReported-invalid (ruling_of g.J.Judge.accepts c.args.chosen) (sources_of g.R.Read.remaining c.loop-input.yielded) (source_of g.R.Read.remaining c.in-Some.input) (g.W.Write.contents c.args.out.now)
        (g.W.Write.contents c.loop-input.out) (g.W.Write.contents c.judge_input.new.out) c.loop-input.status c.if-not-branch.status c.in_ok-judge_input.field-0
        c.loop-input.invariant.reported c.in_ok-judge_input.ensures.ok w.if-not-branch.true w.status-is
    | else-not-branch w ↦ IsReported-valid (ruling_of g.J.Judge.accepts c.args.chosen) (sources_of g.R.Read.remaining c.loop-input.yielded) (source_of g.R.Read.remaining c.in-Some.input) (g.W.Write.contents c.args.out.now)
        (g.W.Write.contents c.loop-input.out) (g.W.Write.contents c.judge_input.new.out) c.loop-input.status c.if-not-branch.status c.in_ok-judge_input.field-0
        c.loop-input.invariant.reported c.in_ok-judge_input.ensures.ok w.if-not-branch.false w.status-is
  ]);
}
