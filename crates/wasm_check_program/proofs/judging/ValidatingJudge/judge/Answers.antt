use Rattle.std.proofs.Common.{subst}
use Rattle.wasm_types.specs.decoding.Denials.{Denies}
use Rattle.wasm_types.specs.settings.Settings.{Settings}
use Rattle.wasm_module_validator.specs.rules.Accepts.{AcceptsUnder}
use Rattle.wasm_check_program.proofs.judging.ValidatingJudge.judge.Goals as goal

pub returns : goal.returns
returns c =
    let v = c.new_with_limits-validator in
    subst (λ (z : Settings). Denies c.in-Err.error.kind (AcceptsUnder z c.args.bytes.now)) v.ensures.settings (c.in-Err.ensures.alone v.ensures.empty)
