-- Locals that have values wherever they are read, as a list apart.
use Rattle.std.proofs.Common.{◌≡◌, ◌<◌, ◌∙◌, ℕ, zero, suc, List, [], ◌∷◌, refl, ap, subst, arith, length, take, get_or}

taken : (n x : ℕ) (xs : List ℕ) → x < length (take n xs) → (x < n) × (x < length xs) × (get_or (take n xs) x 0 ≡ get_or xs x 0)
taken zero x xs lt = absurd (omega (arith, lt))
taken (suc n) x [] lt = absurd (omega (arith, lt))
taken (suc n) zero (y ∷ xs) lt = (omega arith, omega arith, refl)
taken (suc n) (suc x) (y ∷ xs) lt =
    let (few, within, same) = taken n x xs (omega (arith, lt)) in
    (omega (arith, few), omega (arith, within), same)

pub sure : (n x : ℕ) (xs ls : List ℕ) → ls ≡ take n xs → x < length ls → (x < n) × (x < length xs) × (get_or ls x 0 ≡ get_or xs x 0)
sure n x xs ls is lt =
    let (few, within, same) = taken n x xs (subst (λ (l : List ℕ). x < length l) is lt) in
    (few, within, ap (λ (l : List ℕ). get_or l x 0) is ∙ same)
