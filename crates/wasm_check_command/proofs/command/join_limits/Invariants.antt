-- The lists that are left decide.
use Rattle.std.proofs.Common.{◌≡◌, drop}
use Rattle.wasm_types.specs.settings.Limits.{IsWithinCeilings}
use Rattle.wasm_check_command.specs.Settings.{limits_by}
use Rattle.wasm_check_faults.specs.Lists.{through_lists}
use Rattle.wasm_check_faults.specs.LimitLists.{limits_along}
use Rattle.wasm_check_command.specs.Files.{texts}
use Rattle.wasm_check_command.proofs.command.join_limits.Given as goal

abbrev pub invariant-loop-place : goal.invariant-loop-place
invariant-loop-place l = (limits_by (texts l.lists) ≡ through_lists limits_along (drop l.place (texts l.lists)) l.limits) × IsWithinCeilings l.limits
