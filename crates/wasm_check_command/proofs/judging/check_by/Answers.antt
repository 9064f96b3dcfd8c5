use Rattle.std.proofs.Common.{rules}
use Rattle.wasm_check_command.specs.Modes.{ruled}
use Rattle.wasm_check_command.specs.Manners.{plain}
use Rattle.wasm_check_command.specs.Settings.{settings_by}
use Rattle.wasm_check_command.specs.Reports.{sources_of}
use Rattle.wasm_check_command.proofs.ReportLemmas.{IfErr-kept, flush_failed}
use Rattle.wasm_check_command.proofs.judging.check_by.Goals as goal

pub returns-clause-err : goal.returns-clause-err
returns-clause-err g c = IfErr-kept (ruled plain c.args.mode g.J.Judge.accepts (settings_by c.args.features.0 c.args.limits)) c.judge_all-judged.result (sources_of g.R.Read.remaining c.args.inputs.items) (g.W.Write.contents c.args.out.now)
    (g.W.Write.contents c.judge_all-judged.new.out) (g.W.Write.contents c.flush.new.self) c.judge_all-judged.ensures.err c.flush.ensures.bytes

pub returns-then-is_err-clause-err : goal.returns-then-is_err-clause-err
returns-then-is_err-clause-err g c =
    flush_failed (ruled plain c.args.mode g.J.Judge.accepts (settings_by c.args.features.0 c.args.limits)) c.judge_all-judged.result (sources_of g.R.Read.remaining c.args.inputs.items) (g.W.Write.contents c.args.out.now) (g.W.Write.contents c.judge_all-judged.new.out)
    (g.W.Write.contents c.flush.new.self) c.judge_all-judged.ensures.ok c.judge_all-judged.ensures.err c.flush.ensures.bytes

pub returns-clause-ok : goal.returns-clause-ok
returns-clause-ok c = search rules
