use Rattle.std.proofs.Common.{refl}
use Rattle.wasm_check_command.specs.Modes.{ruling_of}
use Rattle.wasm_check_command.specs.Files.{texts}
use Rattle.wasm_check_command.proofs.FileReports.{going_flushed, going_faults_flushed, going_unflushed}
use Rattle.wasm_check_command.proofs.going.judge_going.Goals as goal

pub returns-in-Err-clause-err : goal.returns-in-Err-clause-err
returns-in-Err-clause-err g c = (
  refl,
  going_unflushed (ruling_of g.J.Judge.accepts c.args.chosen) c.judge_each-judged.result (texts c.args.names.now) (g.W.Write.contents c.args.out.now)
      (g.W.Write.contents c.judge_each-judged.new.out) (g.W.Write.contents c.flush.new.self) c.judge_each-judged.ensures.ok c.judge_each-judged.ensures.err c.flush.ensures.bytes,
)

pub returns-clause-ok : goal.returns-clause-ok
returns-clause-ok g c =
    going_flushed (ruling_of g.J.Judge.accepts c.args.chosen) c.judge_each-judged.result (texts c.args.names.now) (g.W.Write.contents c.args.out.now)
    (g.W.Write.contents c.judge_each-judged.new.out) (g.W.Write.contents c.flush.new.self) c.judge_each-judged.ensures.ok c.flush.ensures.bytes

pub returns-clause-err : goal.returns-clause-err
returns-clause-err g c =
    going_faults_flushed (ruling_of g.J.Judge.accepts c.args.chosen) c.judge_each-judged.result (texts c.args.names.now) (g.W.Write.contents c.args.out.now)
    (g.W.Write.contents c.judge_each-judged.new.out) (g.W.Write.contents c.flush.new.self) c.judge_each-judged.ensures.err c.flush.ensures.bytes
