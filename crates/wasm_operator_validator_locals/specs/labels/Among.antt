-- Labels among others.
use Rattle.std.specs.Prelude.{◌≡◌, ◌⊎◌, ◌==◌, ℕ, Bool, true, List}
use Rattle.std.specs.List.{list_any}

-- labels that were met
pub record Labels : Type 0 where
  pub items : List ℕ

abbrev pub is_among : ℕ → List ℕ → Bool
is_among l labels = list_any (λ k. k == l) labels

abbrev pub IsAmong : ℕ → List ℕ → Type 0
IsAmong l labels = is_among l labels ≡ true

-- what is kept was there before, or is this one
abbrev pub KeepsOne : List ℕ → ℕ → List ℕ → Type 0
KeepsOne labels l kept = (k : ℕ) → IsAmong k kept → IsAmong k labels ⊎ (k ≡ l)

-- a label is among both or among neither
abbrev pub SameLabels : List ℕ → List ℕ → Type 0
SameLabels some others = (l : ℕ) → is_among l some ≡ is_among l others
