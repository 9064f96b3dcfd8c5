use Rattle.wasm_check_command.specs.Modes.{ruling_of}
use Rattle.wasm_check_command.specs.Files.{texts}
use Rattle.wasm_check_command.proofs.FileReports.{files_flushed, faults_flushed, files_unflushed}
use Rattle.wasm_check_command.proofs.files.judge_files.Goals as goal

pub returns-in-Err-flush-clause-err : goal.returns-in-Err-flush-clause-err
returns-in-Err-flush-clause-err g c =
    files_unflushed (ruling_of g.J.Judge.accepts c.args.chosen) c.judge_in_turn-judged.result (texts c.args.names.now) (g.W.Write.contents c.args.out.now)
    (g.W.Write.contents c.judge_in_turn-judged.new.out) (g.W.Write.contents c.flush.new.self) _ c.judge_in_turn-judged.ensures.ok c.judge_in_turn-judged.ensures.err c.flush.ensures.bytes

pub returns-clause-ok : goal.returns-clause-ok
returns-clause-ok g c =
    files_flushed (ruling_of g.J.Judge.accepts c.args.chosen) c.judge_in_turn-judged.result (texts c.args.names.now) (g.W.Write.contents c.args.out.now)
    (g.W.Write.contents c.judge_in_turn-judged.new.out) (g.W.Write.contents c.flush.new.self) c.judge_in_turn-judged.ensures.ok c.flush.ensures.bytes

pub returns-clause-err : goal.returns-clause-err
returns-clause-err g c =
    faults_flushed (ruling_of g.J.Judge.accepts c.args.chosen) c.judge_in_turn-judged.result (texts c.args.names.now) (g.W.Write.contents c.args.out.now)
    (g.W.Write.contents c.judge_in_turn-judged.new.out) (g.W.Write.contents c.flush.new.self) c.judge_in_turn-judged.ensures.err c.flush.ensures.bytes
