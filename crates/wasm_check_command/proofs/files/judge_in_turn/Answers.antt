use Rattle.std.proofs.Common.{◌∙◌, ap, subst, sym, take, map, length, arith}
use Rattle.std.proofs.lemmas.List.{length-map}
use Rattle.wasm_check_command.specs.Modes.{ruling_of}
use Rattle.wasm_check_command.specs.Files.{texts, ReportsFiles}
use Rattle.wasm_check_command.proofs.FileReports.{enough_by, reports_next, ends_all, ends_enough, ends_first, ends_whole, stops_at}
use Rattle.wasm_check_command.proofs.files.judge_in_turn.Goals as goal

pub returns-in-Err-clause-err : goal.returns-in-Err-clause-err
returns-in-Err-clause-err g c = c.in-Err.ensures.err (texts c.args.names.now) c.requires.kept

pub loop-place-init : goal.loop-place-init
loop-place-init g c =
    subst (λ ns. ReportsFiles (ruling_of g.J.Judge.accepts c.args.chosen) ns (g.W.Write.contents c.args.out.now) (g.W.Write.contents c.judge_kept.new.out) c.in-Ok.status)
    (c.requires.kept ∙ ap (λ n. take n (texts c.args.names.now)) (sym (c.len-kept.ensures ∙ c.args.inputs.ok.0)))
    (ends_whole (ruling_of g.J.Judge.accepts c.args.chosen) (map (λ i. i.name.now) c.args.inputs.items) (g.W.Write.contents c.args.out.now) (g.W.Write.contents c.judge_kept.new.out)
    c.in-Ok.status c.in-Ok.ensures.ok (enough_by g.J.Judge.accepts c.args.chosen c.in-Ok.status _ c.if-is_enough.ensures))

pub returns-in-Err-judge_again-clause-err : goal.returns-in-Err-judge_again-clause-err
returns-in-Err-judge_again-clause-err g c =
    stops_at (ruling_of g.J.Judge.accepts c.args.chosen) (texts c.args.names.now) c.name_at-name.result.now c.loop-place.place (g.W.Write.contents c.args.out.now)
    (g.W.Write.contents c.loop-place.out) (g.W.Write.contents c.judge_again.new.out) c.loop-place.status c.in-Err-judge_again.fault
    c.loop-place.invariant c.name_at-name.ensures c.in-Err-judge_again.ensures.err

pub loop-place-preserved : goal.loop-place-preserved
loop-place-preserved g c =
    reports_next (ruling_of g.J.Judge.accepts c.args.chosen) (texts c.args.names.now) c.name_at-name.result.now c.loop-place.place
    (g.W.Write.contents c.args.out.now) (g.W.Write.contents c.loop-place.out) (g.W.Write.contents c.judge_again.new.out) c.loop-place.status c.joined-status.result
    c.in-Ok-judge_again.is_valid c.loop-place.invariant c.name_at-name.ensures c.in-Ok-judge_again.ensures.ok c.joined-status.ensures

pub returns-clause-ok : goal.returns-clause-ok
returns-clause-ok g c =
    ends_all (ruling_of g.J.Judge.accepts c.args.chosen) (texts c.args.names.now) c.loop-place.place (g.W.Write.contents c.args.out.now)
    (g.W.Write.contents c.loop-place.out) c.loop-place.status c.loop-place.invariant
    (omega (arith, length-map c.args.names.now (λ n. n.now), c.loop-place-test.false))

pub returns-then-is_enough-clause-ok : goal.returns-then-is_enough-clause-ok
returns-then-is_enough-clause-ok g c =
    ends_first (ruling_of g.J.Judge.accepts c.args.chosen) (map (λ i. i.name.now) c.args.inputs.items) (texts c.args.names.now) (length c.args.inputs.items)
    (g.W.Write.contents c.args.out.now) (g.W.Write.contents c.judge_kept.new.out) c.in-Ok.status c.in-Ok.ensures.ok c.requires.kept
    (enough_by g.J.Judge.accepts c.args.chosen c.in-Ok.status _ c.if-is_enough.ensures)

pub returns-then-is_enough-2-clause-ok : goal.returns-then-is_enough-2-clause-ok
returns-then-is_enough-2-clause-ok g c =
    ends_enough (ruling_of g.J.Judge.accepts c.args.chosen) (texts c.args.names.now) c.loop-place.place (g.W.Write.contents c.args.out.now)
    (g.W.Write.contents c.loop-place.out) c.loop-place.status c.loop-place.invariant
    (enough_by g.J.Judge.accepts c.args.chosen c.loop-place.status _ c.if-is_enough-2.ensures)
