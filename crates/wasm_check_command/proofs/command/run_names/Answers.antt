use Rattle.wasm_check_command.specs.Files.{asked_of, texts}
use Rattle.wasm_check_command.proofs.FileLemmas.{ends_run}
use Rattle.wasm_check_command.proofs.command.run_names.Goals as goal

pub returns-clause-ended : goal.returns-clause-ended
returns-clause-ended g c = λ words asks named.
    ends_run g.J.Judge.accepts words (asked_of c.args.options.now) (texts c.args.names.now) (g.W.Write.contents c.args.out.now)
    (g.W.Write.contents c.judge_by_options-judged.new.out) asks named c.judge_by_options-judged.result c.conclude.result
    c.judge_by_options-judged.ensures.ok c.judge_by_options-judged.ensures.err c.conclude.ensures.code
