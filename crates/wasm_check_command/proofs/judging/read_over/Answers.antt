use Rattle.std.proofs.Common.{refl, subst, sym}
use Rattle.std.proofs.KnownBytes.{Keeps-refl}
use Rattle.wasm_check_command.specs.Faults.{FailsReading}
use Rattle.wasm_check_command.proofs.judging.read_over.Goals as goal

pub returns-then-is_err-clause-err : goal.returns-then-is_err-clause-err
returns-then-is_err-clause-err g c = λ said. subst (FailsReading c.args.index said) (sym c.without_reason.ensures) refl

pub returns-then-is_err-clause-kept : goal.returns-then-is_err-clause-kept
returns-then-is_err-clause-kept g c = Keeps-refl (g.R.Read.remaining c.args.reader.now)

pub returns-in-Err-clause-err : goal.returns-in-Err-clause-err
returns-in-Err-clause-err g c = λ said. subst (FailsReading c.args.index said) (sym c.unread.ensures) refl
