use Rattle.std.proofs.Common.{inl, inr, refl}
use Rattle.std.proofs.lemmas.Result.{IfOk-weaker}
use Rattle.wasm_check_command.specs.Modes.{ruling_of}
use Rattle.wasm_check_command.specs.Files.{texts}
use Rattle.wasm_check_command.proofs.FileLemmas.{err_weaker}
use Rattle.wasm_check_command.proofs.FileReports.{goes_whole}
use Rattle.wasm_check_command.proofs.command.judge_chosen.Goals as goal

pub returns-then-goes_on-clause-ok : goal.returns-then-goes_on-clause-ok
returns-then-goes_on-clause-ok g c = IfOk-weaker c.judge_going.result _ _ (λ e h. (h, inr c.if-goes_on.true)) c.judge_going.ensures.ok

pub returns-then-goes_on-clause-err : goal.returns-then-goes_on-clause-err
returns-then-goes_on-clause-err g c = err_weaker c.judge_going.result _ _ (λ f h. inr (c.if-goes_on.true, h)) c.judge_going.ensures.err

pub returns-in-Ok-clause-ok : goal.returns-in-Ok-clause-ok
returns-in-Ok-clause-ok g c =
    (goes_whole (ruling_of g.J.Judge.accepts c.args.chosen) (texts c.args.names.now) (g.W.Write.contents c.args.out.now) (g.W.Write.contents c.judge_files.new.out) c.in-Ok.status c.in-Ok.ensures.ok, inl refl)

pub returns-in-Err-clause-err : goal.returns-in-Err-clause-err
returns-in-Err-clause-err g c = inl c.in-Err.ensures.err
