-- The worked places of derivations.
use Rattle.std.proofs.Common.{refl}
use Rattle.wasm_operator_validator_soundness.specs.runs.worked.Placed.{PlacedWorked}

pub placed_worked : PlacedWorked
placed_worked = record {
  operators = λ g f set o more s t. record { after_it = refl; no_block = refl; further = refl };
  blocks = λ g f set o body more s t. record { in_it = refl; after_it = refl; no_operator = refl };
  parts = λ g f set o more s t. record { in_it = refl };
  ends = λ g b before set o s t u. record { without_else = refl; no_part = refl };
}
