use Rattle.std.proofs.Common.{inl}
use Rattle.std.proofs.KnownBytes.{Keeps-refl}
use Rattle.wasm_check_command.specs.Files.{texts, asked_of}
use Rattle.wasm_check_command.proofs.FileLemmas.{judged_by, stopped_by}
use Rattle.wasm_check_command.proofs.command.judge_by_options.Goals as goal

pub returns-in-Err-clause-err : goal.returns-in-Err-clause-err
returns-in-Err-clause-err g c = inl (c.in-Err.ensures.err, Keeps-refl (g.W.Write.contents c.args.out.now))

pub returns-clause-ok : goal.returns-clause-ok
returns-clause-ok g c =
    judged_by g.J.Judge.accepts (asked_of c.args.options.now) c.in-Ok.chosen (texts c.args.names.now) (g.W.Write.contents c.args.out.now) (g.W.Write.contents c.judge_chosen.new.out)
    c.judge_chosen.result c.in-Ok.ensures.ok c.in-Ok.ensures.manner c.judge_chosen.ensures.ok

pub returns-clause-err : goal.returns-clause-err
returns-clause-err g c =
    stopped_by g.J.Judge.accepts (asked_of c.args.options.now) c.in-Ok.chosen (texts c.args.names.now) (g.W.Write.contents c.args.out.now) (g.W.Write.contents c.judge_chosen.new.out)
    c.judge_chosen.result c.in-Ok.ensures.ok c.in-Ok.ensures.manner c.judge_chosen.ensures.err
