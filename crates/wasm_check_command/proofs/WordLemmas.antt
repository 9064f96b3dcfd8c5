-- On the words of a command line.
use Rattle.std.proofs.Common.{◌≡◌, ◌∙◌, ℕ, true, List, [], ◌∷◌, Some, length, slice_get, bytes_eq, map, ap, arith}
use Rattle.std.proofs.lemmas.List.{length-map}
use Rattle.std.proofs.lemmas.Slice.Eq.{bytes_eq-Decides}

-- two words of which the second is this
two_words : (words : List (List ℕ)) (a s : List ℕ) → length words ≡ 2 → slice_get words 1 ≡ Some a → a ≡ s → (own : List ℕ) × (words ≡ own ∷ s ∷ [])
two_words [] a s l e q = absurd cc
two_words (x ∷ []) a s l e q = absurd cc
two_words (x ∷ y ∷ []) a s l e q = let same : y ≡ a = cc in (x, ap (λ w. x ∷ w ∷ []) (same ∙ q))
two_words (x ∷ y ∷ z ∷ words) a s l e q = absurd (omega (arith, l))

-- three of which the others are these
three_words : (words : List (List ℕ)) (a b s t : List ℕ) → length words ≡ 3 → slice_get words 1 ≡ Some a → slice_get words 2 ≡ Some b → a ≡ s → b ≡ t
    → (own : List ℕ) × (words ≡ own ∷ s ∷ t ∷ [])
three_words [] a b s t l e f q r = absurd cc
three_words (x ∷ []) a b s t l e f q r = absurd cc
three_words (x ∷ y ∷ []) a b s t l e f q r = absurd cc
three_words (x ∷ y ∷ z ∷ []) a b s t l e f q r =
    let first : y ≡ a = cc in let second : z ≡ b = cc in (x, ap (λ w. x ∷ w ∷ z ∷ []) (first ∙ q) ∙ ap (λ w. x ∷ s ∷ w ∷ []) (second ∙ r))
three_words (x ∷ y ∷ z ∷ v ∷ words) a b s t l e f q r = absurd (omega (arith, l))

-- the same of texts of words
module _ {W : Type 0} (text : W → List ℕ) (words : List W) where
  pub are_two : (a s : List ℕ) → length words ≡ 2 → slice_get (map text words) 1 ≡ Some a → bytes_eq a s ≡ true → (own : List ℕ) × (map text words ≡ own ∷ s ∷ [])
  are_two a s l e q = two_words (map text words) a s (length-map words text ∙ l) e ((bytes_eq-Decides a s).0 q)

  pub are_three : (a b s t : List ℕ) → length words ≡ 3 → slice_get (map text words) 1 ≡ Some a → slice_get (map text words) 2 ≡ Some b → bytes_eq a s ≡ true → bytes_eq b t ≡ true
      → (own : List ℕ) × (map text words ≡ own ∷ s ∷ t ∷ [])
  are_three a b s t l e f q r = three_words (map text words) a b s t (length-map words text ∙ l) e f ((bytes_eq-Decides a s).0 q) ((bytes_eq-Decides b t).0 r)
