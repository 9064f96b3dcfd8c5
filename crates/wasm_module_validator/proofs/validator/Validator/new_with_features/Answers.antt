use Rattle.std.proofs.Common.{sym, subst}
use Rattle.wasm_types.specs.settings.Limits.{IsWithinCeilings}
use Rattle.wasm_types.specs.settings.LimitsRowLaws.{default_within}
use Rattle.wasm_module_validator.proofs.validator.Validator.new_with_features.Goals as goal

pub new_with_limits-requires : goal.new_with_limits-requires
new_with_limits-requires c = record { within = subst IsWithinCeilings (sym c.default.ensures) default_within }
