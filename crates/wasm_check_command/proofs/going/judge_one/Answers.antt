use Rattle.wasm_check_command.specs.Modes.{ruling_of}
use Rattle.wasm_check_command.proofs.FileReports.{loses_by}
use Rattle.wasm_check_command.proofs.going.judge_one.Goals as goal

pub returns-in-Err-judge_opened-clause-err : goal.returns-in-Err-judge_opened-clause-err
returns-in-Err-judge_opened-clause-err g c =
    loses_by (ruling_of g.J.Judge.accepts c.args.chosen) c.args.index c.args.name.now (g.W.Write.contents c.args.out.now) (g.W.Write.contents c.judge_opened.new.out) c.in-Err-judge_opened.fault
    c.in-Err-judge_opened.ensures.err
