use Rattle.std.proofs.Common.{sym, subst}
use Rattle.wasm_types.specs.settings.Limits.{IsWithinCeilings}
use Rattle.wasm_types.specs.settings.LimitsRowLaws.{default_within}
use Rattle.durskeyl_c.proofs.validate.durskeyl_is_valid.Goals as goal

pub judge-requires : goal.judge-requires
judge-requires c = record { within = subst IsWithinCeilings (sym c.default-2.ensures) default_within }
