use Rattle.std.proofs.Common.{IfErr, subst, sym}
use Rattle.wasm_check_command.specs.Modes.{manner_of, ruled}
use Rattle.wasm_check_command.specs.Settings.{settings_of}
use Rattle.wasm_check_command.specs.Verdict.{FailsAt}
use Rattle.wasm_check_command.proofs.judging.judge_reader.Goals as goal

pub returns-in-Whole-clause-err : goal.returns-in-Whole-clause-err
returns-in-Whole-clause-err g c =
    subst (λ m. IfErr c.judge_whole.result (λ u. FailsAt (ruled (manner_of c.args.chosen) m g.J.Judge.accepts (settings_of c.args.chosen)) c.args.index c.args.name.now (g.R.Read.remaining c.args.reader.now)
    (g.W.Write.contents c.args.out.now) (g.W.Write.contents c.judge_whole.new.out) u.error)) (sym c.in-Whole.is) c.judge_whole.ensures.err

pub returns-in-Pieces-clause-err : goal.returns-in-Pieces-clause-err
returns-in-Pieces-clause-err g c =
    subst (λ m. IfErr c.judge_in_pieces.result (λ u. FailsAt (ruled (manner_of c.args.chosen) m g.J.Judge.accepts (settings_of c.args.chosen)) c.args.index c.args.name.now (g.R.Read.remaining c.args.reader.now)
    (g.W.Write.contents c.args.out.now) (g.W.Write.contents c.judge_in_pieces.new.out) u.error)) (sym c.in-Pieces.is) c.judge_in_pieces.ensures.err
