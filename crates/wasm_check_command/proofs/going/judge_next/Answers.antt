use Rattle.std.proofs.Common.{sym}
use Rattle.wasm_check_command.specs.Modes.{ruling_of}
use Rattle.wasm_check_command.specs.Files.{texts}
use Rattle.wasm_check_command.proofs.FileReports.{goes_more, goes_lost, goes_unwritten, loses_kept}
use Rattle.wasm_check_command.proofs.going.judge_next.Goals as goal

pub returns-in-Ok-clause-ok : goal.returns-in-Ok-clause-ok
returns-in-Ok-clause-ok g c = λ first so_far.
    goes_more (ruling_of g.J.Judge.accepts c.args.chosen) (texts c.args.names.now) c.name_at-name.result.now c.args.place first (g.W.Write.contents c.args.out.now)
    (g.W.Write.contents c.judge_one.new.out) c.args.before.status c.joined.result c.args.before.lost c.in-Ok.is_valid so_far c.name_at-name.ensures c.in-Ok.ensures.ok c.joined.ensures

pub returns-then-is_unwritten-clause-err : goal.returns-then-is_unwritten-clause-err
returns-then-is_unwritten-clause-err g c = λ first so_far.
    goes_unwritten (ruling_of g.J.Judge.accepts c.args.chosen) (texts c.args.names.now) c.name_at-name.result.now c.args.place first (g.W.Write.contents c.args.out.now)
    (g.W.Write.contents c.judge_one.new.out) c.args.before.status c.args.before.lost c.in-Err.fault so_far
    c.name_at-name.ensures c.in-Err.ensures.err (sym c.if-is_unwritten.ensures)

pub returns-else-is_unwritten-clause-ok : goal.returns-else-is_unwritten-clause-ok
returns-else-is_unwritten-clause-ok g c = λ first so_far.
    goes_lost (ruling_of g.J.Judge.accepts c.args.chosen) (texts c.args.names.now) c.args.place first (g.W.Write.contents c.args.out.now)
    (g.W.Write.contents c.judge_one.new.out) c.args.before.status c.args.before.lost so_far
    (loses_kept (ruling_of g.J.Judge.accepts c.args.chosen) c.name_at-name.result.now _ _ c.in-Err.fault c.in-Err.ensures.err (sym c.if-is_unwritten.ensures))
