use Rattle.std.proofs.Common.{◌≡◌, refl, sym, subst, arith, ◌∙◌}
use Rattle.wasm_types.specs.settings.Limits.{IsWithinCeilings}
use Rattle.wasm_types.specs.settings.LimitsRowLaws.{default_within}
use Rattle.durskeyl_c.proofs.settings.durskeyl_settings_default.Goals as goal

pub returns-clause-features : goal.returns-clause-features
returns-clause-features c = c.bits.ensures tt ∙ c.default.ensures

pub returns-clause-limits : goal.returns-clause-limits
returns-clause-limits c = c.default-limits.ensures

-- src/settings.rt:28:1
pub returns-clause-taken : goal.returns-clause-taken
returns-clause-taken c = record {
  features = let e : c.bits.result ≡ 105643519 = c.bits.ensures tt ∙ c.default.ensures in omega (arith, e);
  limits = subst IsWithinCeilings (sym c.default-limits.ensures) default_within;
  later = record { first = refl; second = refl; third = refl };
}
