use Rattle.std.proofs.Common.{◌≡◌, refl, sym, subst, Option, arith, rules}
use Rattle.wasm_types.specs.settings.Limits.{IsWithinCeilings}
use Rattle.wasm_types.specs.settings.Settings.{Settings}
use Rattle.wasm_module_validator_import_export_places.specs.rules.Accepts.{AcceptsUnder}
use Rattle.wasm_module_validator.specs.Accepts.{IsShown}
use Rattle.wasm_module_validator.specs.Lists.{AreToldUnder}
use Rattle.wasm_module_validator.specs.Shown.{Learned}
use Rattle.durskeyl_c.specs.Kept.{Keeps}
use Rattle.durskeyl_c.specs.Settings.{settings_in, AreSettings}
use Rattle.durskeyl_c.proofs.types.durskeyl_validate_types.Goals as goal

pub returns-in-Ok-clause-verdict : goal.returns-in-Ok-clause-verdict
returns-in-Ok-clause-verdict c =
    let judged_by : Settings = record { features = c.in-Some.features.0; limits = c.limits_of-limits.result } in
    let same : judged_by ≡ settings_in c.args.settings.now = λ i. record { features = c.in-Some.ensures.0 i; limits = c.limits_of-limits.ensures i } in
    record {
      valid = λ e. subst (λ (z : Settings). AcceptsUnder z c.args.bytes.now) same c.in-Ok.ensures.verdict;
      invalid = λ other memory settings. absurd (other refl);
      settings = λ e. absurd (omega (arith, e));
      judged = search rules;
    }

pub returns-in-Ok-clause-kept : goal.returns-in-Ok-clause-kept
returns-in-Ok-clause-kept c e =
    let judged_by : Settings = record { features = c.in-Some.features.0; limits = c.limits_of-limits.result } in
    let same : judged_by ≡ settings_in c.args.settings.now = λ i. record { features = c.in-Some.ensures.0 i; limits = c.limits_of-limits.ensures i } in
    let within = c.is_within_ceilings.ensures.0 c.if-not-is_within_ceilings.false in
    let taken : AreSettings c.args.settings.now = record {
      features = c.in-Some.ensures.1;
      limits = subst IsWithinCeilings c.limits_of-limits.ensures within;
      later = c.leaves_later.ensures.0 c.if-not-leaves_later.false;
    } in
    let it : Learned = c.in-Ok.it.value in
    subst (λ (o : Option Learned). Keeps o c.args.settings.now c.args.bytes.now) (sym c.put.ensures)
    (record {
      settings = taken;
      shown = subst (λ (z : Settings). IsShown z c.args.bytes.now it) same c.in-Ok.ensures.shown;
      told = subst (λ (z : Settings). AreToldUnder z it.kept.groups it.kept.groups) same c.in-Ok.ensures.told;
    })
