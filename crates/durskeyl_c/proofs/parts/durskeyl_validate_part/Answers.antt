use Rattle.std.proofs.Common.{◌≡◌, refl, subst, arith, rules}
use Rattle.wasm_types.specs.settings.Settings.{Settings}
use Rattle.wasm_module_validator.specs.Parts.{AcceptsPart}
use Rattle.durskeyl_c.specs.Settings.{settings_in}
use Rattle.durskeyl_c.proofs.parts.durskeyl_validate_part.Goals as goal

pub returns-in-Ok-clause-verdict : goal.returns-in-Ok-clause-verdict
returns-in-Ok-clause-verdict c =
    let judged_by : Settings = record { features = c.in-Some.features.0; limits = c.limits_of-limits.result } in
    let same : judged_by ≡ settings_in c.args.settings.now = λ i. record { features = c.in-Some.ensures.0 i; limits = c.limits_of-limits.ensures i } in
    record {
      valid = λ e. subst (λ (z : Settings). AcceptsPart z c.args.part c.args.parts c.args.bytes.now) same c.in-Ok.ensures.ok;
      invalid = λ other memory settings. absurd (other refl);
      settings = λ e. absurd (omega (arith, e));
      judged = search rules;
    }
