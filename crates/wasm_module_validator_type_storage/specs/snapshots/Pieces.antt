-- A list in pieces: those that were committed, one after the other, and what was pushed since.
use Rattle.std.specs.Prelude.{◌≡◌, ℕ, ◌+◌, ◌<◌, ◌^◌, List, [], ◌∷◌, ◌++◌, length}

-- what a contract sees of a list: its items, and how many more it takes before it asks for memory
pub record Listed (T : Type 0) : Type 0 where
  pub items : List T
  pub room : ℕ

-- the items of all pieces, in order
abbrev pub joined : {T : Type 0} → List (List T) → List T
joined [] = []
joined (p ∷ ps) = p ++ joined ps

-- how many items stand before each piece, and `n` more
abbrev pub starts_from : {T : Type 0} → ℕ → List (List T) → List ℕ
starts_from n [] = []
starts_from n (p ∷ ps) = n ∷ starts_from (n + length p) ps

-- each piece knows how many items stand before it, the total is that of all pieces, and all items can be counted
pub record IsLaidOut {T : Type 0} (pieces : List (List T)) (priors : List ℕ) (total : ℕ) (current : List T) : Type 0 where
  pub starts : priors ≡ starts_from 0 pieces
  pub counted : total ≡ length (joined pieces)
  pub fits : total + length current < 2 ^ 64
