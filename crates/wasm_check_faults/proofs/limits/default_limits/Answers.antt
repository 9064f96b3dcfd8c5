use Rattle.std.proofs.Common.{subst, sym}
use Rattle.wasm_types.specs.settings.Limits.{IsWithinCeilings}
use Rattle.wasm_types.specs.settings.LimitsRowLaws.{default_within}
use Rattle.wasm_check_faults.proofs.limits.default_limits.Goals as goal

pub returns-clause-within : goal.returns-clause-within
returns-clause-within c = subst IsWithinCeilings (sym c.default.ensures) default_within
