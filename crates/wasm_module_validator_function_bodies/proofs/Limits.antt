-- How many locals there are, by whether there is one at the limit.
use Rattle.std.proofs.Common.{◌≡◌, ◌∙◌, ◌≤◌, ◌<◌, ℕ, List, length, Option, Some, None, true, false, inl, inr, slice_get, sym, ap, arith}
use Rattle.std.specs.Prelude.{is_some}
use Rattle.std.proofs.lemmas.Option.{slice_get_within, slice_get_cases}

-- there is one at the limit
pub past_most : {A : Type 0} (xs : List A) (o : Option A) (n k : ℕ) → n ≡ k → o ≡ slice_get xs n → is_some o ≡ true → k < length xs
past_most xs None n k e f s = absurd cc
past_most xs (Some x) n k e f s = let h = slice_get_within xs n x (sym f) in omega (arith, e, h)

-- there is none
pub within_most : {A : Type 0} (xs : List A) (o : Option A) (n k : ℕ) → n ≡ k → o ≡ slice_get xs n → is_some o ≡ false → length xs ≤ k
within_most xs o n k e f s =
    elim (slice_get_cases xs n).1 [
      | inl h ↦ (let t : false ≡ true = sym s ∙ ap is_some (f ∙ h.2) in absurd cc)
      | inr h ↦ (let w = h.0 in omega (arith, e, w))
    ]
