use Rattle.std.proofs.Common.{rules, ◌≡◌, ◌∙◌, ◌*◌, ◌+◌, ◌<◌, ◌≤◌, ℕ, List, [], ◌∷◌, length, ap, sym, subst, refl, arith, true, false, Some, None}
use Rattle.std.specs.Prelude.{slice_get}
use Rattle.wasm_module_validator_type_storage.proofs.WorkedProofs.{chains_worked}
use Rattle.wasm_module_validator_type_storage.proofs.displays.laws.chains_worked.Goals as goal

pub returns : goal.returns
returns c = chains_worked
