use Rattle.wasm_check_command.specs.Files.{texts}
use Rattle.wasm_check_command.proofs.FileLemmas.{chosen_run}
use Rattle.wasm_check_command.proofs.command.run_chosen.Goals as goal

pub returns-clause-ended : goal.returns-clause-ended
returns-clause-ended g c = λ words chosen named.
    chosen_run g.J.Judge.accepts words c.args.chosen c.args.goes_on (texts c.args.names.now) (g.W.Write.contents c.args.out.now)
    (g.W.Write.contents c.judge_chosen-judged.new.out) c.judge_chosen-judged.result c.conclude.result chosen named
    c.judge_chosen-judged.ensures.ok c.judge_chosen-judged.ensures.err c.conclude.ensures.code
