-- The top of a list whose last item is on top.
use Rattle.std.proofs.Common.{◌≡◌, ℕ, zero, suc, List, [], ◌∷◌, ◌++◌, ◌<◌, ◌-◌, length, take, drop, reverse, refl, ap, ◌∙◌, sym, arith}
use Rattle.std.proofs.lemmas.List.{reverse-append}

-- the first so many and one more
one_more : {T : Type 0} → (xs : List T) (n : ℕ) → n < length xs → (y : T) × (take (suc n) xs ≡ take n xs ++ y ∷ [])
one_more [] n h = let no : ⊥ = omega (arith, h) in absurd no
one_more (x ∷ xs) zero h = (x, refl)
one_more (x ∷ xs) (suc n) h = let (y, e) = one_more xs n (omega (arith, h)) in (y, ap (λ l. x ∷ l) e)

pub without_top : {T : Type 0} → (xs : List T) (n : ℕ) → 0 < n → n - 1 < length xs → reverse (take (n - 1) xs) ≡ drop 1 (reverse (take n xs))
without_top xs zero h lt = let no : ⊥ = omega (arith, h) in absurd no
without_top xs (suc n) h lt =
    let is : suc n - 1 ≡ n = omega arith in
    let (y, e) = one_more xs n (omega (arith, lt)) in
    ap (λ k. reverse (take k xs)) is ∙ sym (ap (λ l. drop 1 (reverse l)) e ∙ ap (λ l. drop 1 l) (reverse-append (take n xs) (y ∷ [])))
