use Rattle.std.proofs.Common.{sym, subst}
use Rattle.wasm_types.specs.decoding.Denials.{Denies}
use Rattle.wasm_types.specs.settings.Settings.{Settings}
use Rattle.wasm_module_validator_import_export_places.specs.rules.Accepts.{AcceptsUnder}
use Rattle.wasm_module_validator.specs.Accepts.{IsShown}
use Rattle.wasm_module_validator.specs.Lists.{AreToldUnder}
use Rattle.wasm_module_validator.specs.Shown.{Learned}
use Rattle.durskeyl_c.proofs.types.judge.Goals as goal

-- the validator's settings are those that it was made with
pub returns-in-Err-clause-verdict : goal.returns-in-Err-clause-verdict
returns-in-Err-clause-verdict c =
    subst (λ (z : Settings). Denies c.in-Err.error.kind (AcceptsUnder z c.args.bytes.now)) c.new_with_limits-validator.ensures.settings
    (c.in-Err.ensures.alone c.new_with_limits-validator.ensures.empty)

-- and the box has the types
pub returns-in-Ok-new-clause-shown : goal.returns-in-Ok-new-clause-shown
returns-in-Ok-new-clause-shown c =
    let judged_by : Settings = record { features = c.args.features.0; limits = c.args.limits } in
    subst (λ (l : Learned). IsShown judged_by c.args.bytes.now l) (sym c.in-Ok-new.ensures.ok)
    (subst (λ (z : Settings). IsShown z c.args.bytes.now c.in-Ok.types) c.new_with_limits-validator.ensures.settings c.in-Ok.ensures.shown)

pub returns-in-Ok-new-clause-told : goal.returns-in-Ok-new-clause-told
returns-in-Ok-new-clause-told c =
    let judged_by : Settings = record { features = c.args.features.0; limits = c.args.limits } in
    subst (λ (l : Learned). AreToldUnder judged_by l.kept.groups l.kept.groups) (sym c.in-Ok-new.ensures.ok)
    (subst (λ (z : Settings). AreToldUnder z c.in-Ok.types.kept.groups c.in-Ok.types.kept.groups) c.new_with_limits-validator.ensures.settings c.in-Ok.ensures.told)
