use Rattle.std.proofs.Common.{◌^◌, List, ℕ, Option, ap, subst, sym}
use Rattle.wasm_types.specs.settings.Settings.{Settings}
use Rattle.wasm_check_command.specs.Modes.{FailsJudging, HasValid}
use Rattle.wasm_check_command.specs.Settings.{settings_by}
use Rattle.wasm_module_validator.specs.rules.Accepts.{AcceptsUnder}
use Rattle.wasm_module_validator_streaming.specs.Verdicts.{AnswersReader, IsVerdict}
use Rattle.wasm_check_program.specs.Faults.{unjudged}
use Rattle.wasm_check_program.proofs.Pieces.{all_valid, fails_judging}
use Rattle.wasm_check_program.proofs.judging.ValidatingJudge.judge_pieces.Goals as goal

pub returns-in-Ok-clause-ok : goal.returns-in-Ok-clause-ok
returns-in-Ok-clause-ok g c =
    let z : Settings = settings_by c.args.features.0 c.args.limits in
    let before = g.R.Read.remaining c.new-watched.result.reader.now in
    let after = g.R.Read.remaining c.validate_reader_limited.new.reader.reader.now in
    subst (λ (said : Option (List ℕ)). HasValid (AcceptsUnder z) said) (ap (λ r. g.R.Read.remaining r.now) c.new-watched.ensures.reader)
    (all_valid (AcceptsUnder z) (IsVerdict z c.new-id.result) before after c.in-Ok._types (λ text v. v.0)
    (subst (λ answer. AnswersReader z c.new-id.result (2 ^ 30) before after answer) c.in-Ok.is c.validate_reader_limited.ensures.answer))

pub returns-in-Err-clause-err : goal.returns-in-Err-clause-err
returns-in-Err-clause-err g c =
    let z : Settings = settings_by c.args.features.0 c.args.limits in
    let before = g.R.Read.remaining c.new-watched.result.reader.now in
    let after = g.R.Read.remaining c.validate_reader_limited.new.reader.reader.now in
    subst (λ (u : _). FailsJudging (AcceptsUnder z) (g.R.Read.remaining c.args.reader.now) u) (sym c.unjudged.ensures)
    (subst (λ (said : Option (List ℕ)). FailsJudging (AcceptsUnder z) said (unjudged c.in-Err.fault)) (ap (λ r. g.R.Read.remaining r.now) c.new-watched.ensures.reader)
    (fails_judging (AcceptsUnder z) (IsVerdict z c.new-id.result) before after c.in-Err.fault
    (subst (λ answer. AnswersReader z c.new-id.result (2 ^ 30) before after answer) c.in-Err.is c.validate_reader_limited.ensures.answer)))
