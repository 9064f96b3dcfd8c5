-- What holds of each label that was met.
use Rattle.std.proofs.Common.{◌≡◌, ℕ, List, [], ⊎_elim, sym, subst}
use Rattle.wasm_operator_validator_locals.specs.labels.Among.{IsAmong, KeepsOne}

-- none was met
pub of_none : (P : ℕ → Type 0) (labels : List ℕ) → labels ≡ [] → (k : ℕ) → IsAmong k labels → P k
of_none P labels q k e = let f : IsAmong k [] = subst (IsAmong k) q e in cc

-- one more was asked
pub of_kept : (P : ℕ → Type 0) (labels kept : List ℕ) (l : ℕ) → ((k : ℕ) → IsAmong k labels → P k) → P l → KeepsOne labels l kept → (k : ℕ) → IsAmong k kept → P k
of_kept P labels kept l f p s k e = ⊎_elim (λ a. f k a) (λ q. subst P (sym q) p) (s k e)
