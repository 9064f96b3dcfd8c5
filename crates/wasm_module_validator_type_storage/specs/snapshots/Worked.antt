-- Worked pieces.
use Rattle.std.specs.Prelude.{◌≡◌, ℕ, List, [], ◌∷◌}
use Rattle.wasm_module_validator_type_storage.specs.snapshots.Pieces.{joined, starts_from}

-- three pieces, one of them empty
abbrev pub three : List (List ℕ)
three = (7 ∷ 8 ∷ []) ∷ [] ∷ (9 ∷ []) ∷ []

pub record PiecesWorked : Type 0 where
  pub items : joined three ≡ 7 ∷ 8 ∷ 9 ∷ []
  pub none : joined {T = ℕ} [] ≡ []
  pub starts : starts_from 0 three ≡ 0 ∷ 2 ∷ 2 ∷ []
  pub starts_behind : starts_from 5 three ≡ 5 ∷ 7 ∷ 7 ∷ []
