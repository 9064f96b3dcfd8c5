-- What is at a place of a list that was made of others.
use Rattle.std.proofs.Common.{◌≡◌, ◌∙◌, ℕ, zero, suc, ◌+◌, ◌-◌, ◌<◌, ◌≤◌, List, [], ◌∷◌, ◌++◌, length, map, take, drop, get_or, refl, ap, sym, Some, None, arith}
use Rattle.std.specs.Prelude.{slice_get, option_map}
use Rattle.std.proofs.lemmas.List.{length-map}
use Rattle.std.proofs.lemmas.Option.{slice_get-map, slice_get_read}

module _ {A : Type 0} where
  -- the same place, by another number
  pub same_at : (xs : List A) (i j : ℕ) → i ≡ j → slice_get xs i ≡ slice_get xs j
  same_at xs i j e = ap (slice_get xs) e

  -- past the end is nothing
  pub at_past : (xs : List A) (i : ℕ) → length xs ≤ i → slice_get xs i ≡ None
  at_past [] i le = refl
  at_past (x ∷ xs) zero le = absurd (omega arith)
  at_past (x ∷ xs) (suc i) le = at_past xs i (omega arith)

  pub none_past : (xs : List A) (i : ℕ) → slice_get xs i ≡ None → length xs ≤ i
  none_past [] i e = omega arith
  none_past (x ∷ xs) zero e = absurd cc
  none_past (x ∷ xs) (suc i) e = let le = none_past xs i e in omega arith

  -- within it is something
  pub at_within : (xs : List A) (i : ℕ) → i < length xs → slice_get xs i ≡ None → ⊥
  at_within [] i lt e = absurd (omega arith)
  at_within (x ∷ xs) zero lt e = cc
  at_within (x ∷ xs) (suc i) lt e = at_within xs i (omega arith) e

  -- so many places on
  pub at_drop : (n i : ℕ) (xs : List A) → slice_get (drop n xs) i ≡ slice_get xs (n + i)
  at_drop zero i xs = same_at xs i (0 + i) (omega arith)
  at_drop (suc n) i [] = refl
  at_drop (suc n) i (x ∷ xs) = at_drop n i xs ∙ same_at (x ∷ xs) (suc (n + i)) (suc n + i) (omega arith)

  -- of the first alone
  pub at_take : (n i : ℕ) (xs : List A) → i < n → slice_get (take n xs) i ≡ slice_get xs i
  at_take zero i xs lt = absurd (omega arith)
  at_take (suc n) i [] lt = refl
  at_take (suc n) zero (x ∷ xs) lt = refl
  at_take (suc n) (suc i) (x ∷ xs) lt = at_take n i xs (omega arith)

  -- in the first of two lists, and in the second
  pub at_left : (xs ys : List A) (i : ℕ) → i < length xs → slice_get (xs ++ ys) i ≡ slice_get xs i
  at_left [] ys i lt = absurd (omega arith)
  at_left (x ∷ xs) ys zero lt = refl
  at_left (x ∷ xs) ys (suc i) lt = at_left xs ys i (omega arith)

  pub at_right : (xs ys : List A) (i : ℕ) → length xs ≤ i → slice_get (xs ++ ys) i ≡ slice_get ys (i - length xs)
  at_right [] ys i le = same_at ys i (i - 0) (omega arith)
  at_right (x ∷ xs) ys zero le = absurd (omega arith)
  at_right (x ∷ xs) ys (suc i) le = at_right xs ys i (omega arith) ∙ same_at ys (i - length xs) (suc i - suc (length xs)) (omega arith)

-- what is made of the items of a list, one by one
module _ {A B C : Type 0} (f : B → C) (g : A → B) where
  long : (xs : List A) → length (map f (map g xs)) ≡ length xs
  long xs = length-map (map g xs) f ∙ length-map xs g

  pub row_at : (xs : List A) (i : ℕ) (x : A) → i < length xs → x ≡ get_or xs i x → Some (f (g x)) ≡ slice_get (map f (map g xs)) i
  row_at xs i x lt e = sym (slice_get-map f (map g xs) i ∙ ap (option_map f) (slice_get-map g xs i ∙ ap (option_map g) (slice_get_read xs (length xs) i x refl lt e)))

  pub row_past : (xs : List A) (i : ℕ) → length xs ≤ i → None ≡ slice_get (map f (map g xs)) i
  row_past xs i le = let l = long xs in sym (at_past (map f (map g xs)) i (omega arith))

  -- and of those of a second list behind them
  pub row_left : (xs ys : List A) (i : ℕ) (x : A) → i < length xs → x ≡ get_or xs i x → Some (f (g x)) ≡ slice_get (map f (map g xs) ++ map f (map g ys)) i
  row_left xs ys i x lt e = let l = long xs in row_at xs i x lt e ∙ sym (at_left (map f (map g xs)) (map f (map g ys)) i (omega arith))

  behind : (xs ys : List A) (i : ℕ) → length xs ≤ i → slice_get (map f (map g ys)) (i - length xs) ≡ slice_get (map f (map g xs) ++ map f (map g ys)) i
  behind xs ys i le =
      let l = long xs in
      same_at (map f (map g ys)) (i - length xs) (i - length (map f (map g xs))) (omega arith)
      ∙ sym (at_right (map f (map g xs)) (map f (map g ys)) i (omega arith))

  pub row_right : (xs ys : List A) (i : ℕ) (x : A) → length xs ≤ i → i - length xs < length ys → x ≡ get_or ys (i - length xs) x
      → Some (f (g x)) ≡ slice_get (map f (map g xs) ++ map f (map g ys)) i
  row_right xs ys i x le lt e = row_at ys (i - length xs) x lt e ∙ behind xs ys i le

  pub row_behind : (xs ys : List A) (i : ℕ) → length xs ≤ i → length ys ≤ i - length xs → None ≡ slice_get (map f (map g xs) ++ map f (map g ys)) i
  row_behind xs ys i le past = row_past ys (i - length xs) past ∙ behind xs ys i le
