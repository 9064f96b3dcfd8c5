use Rattle.std.proofs.Common.{subst}
use Rattle.wasm_types.specs.decoding.Denials.{Denies}
use Rattle.wasm_types.specs.settings.Settings.{Settings}
use Rattle.wasm_module_validator_import_export_places.specs.rules.Accepts.{AcceptsUnder}
use Rattle.durskeyl_c.proofs.validate.judge.Goals as goal

-- the validator's settings are those that it was made with
pub returns : goal.returns
returns c =
    subst (λ (z : Settings). Denies c.in-Err.error.kind (AcceptsUnder z c.args.bytes.now)) c.new_with_limits-validator.ensures.settings
    (c.in-Err.ensures.alone c.new_with_limits-validator.ensures.empty)
