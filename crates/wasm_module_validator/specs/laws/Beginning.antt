-- A validator behind a header stands for a module of which nothing was judged: so what its methods promise of whatever was judged so far
-- holds from the first section on.
use Rattle.std.proofs.Common.{[], refl}
use Rattle.wasm_types.specs.settings.Settings.{Settings}
use Rattle.wasm_module_validator_drivers.specs.Sharing.{Reached, renewed_behind, IsReached}
use Rattle.wasm_module_validator_drivers.specs.reading.laws.Walking.{nothing_is_at}
use Rattle.wasm_module_validator_drivers.specs.payloads.Progress.{kept_groups}
use Rattle.wasm_module_validator_section_order.specs.rules_in_order.Steps.{nothing}

pub nothing_is_reached : (z : Settings) (r : Reached) → IsReached z (renewed_behind z r) nothing
nothing_is_reached z r = ([], refl, nothing_is_at (kept_groups z r.progress.kept) z)
