-- The lists that are left decide.
use Rattle.std.proofs.Common.{◌≡◌, drop}
use Rattle.wasm_check_command.specs.Settings.{features_by}
use Rattle.wasm_check_faults.specs.Lists.{through_lists}
use Rattle.wasm_check_faults.specs.FeatureLists.{features_along}
use Rattle.wasm_check_command.specs.Files.{texts}
use Rattle.wasm_check_command.proofs.command.join_features.Given as goal

abbrev pub invariant-loop-place : goal.invariant-loop-place
invariant-loop-place l = (features_by (texts l.lists) ≡ through_lists features_along (drop l.place (texts l.lists)) l.features.0)
