-- A count of at most one, and as many values.
use Rattle.std.proofs.Common.{◌≡◌, ◌∙◌, ℕ, ◌≤◌, List, [], ◌∷◌, ◌++◌, length, refl, ap, sym, arith}
use Rattle.std.proofs.lemmas.List.{length-append}
use Rattle.wasm_types_decoding.specs.Decoder.{State, Outcome, Done, Decoder, continue_with, repeated}
use Rattle.wasm_types_decoding.specs.Lists.{size_within, listed_within}
use Rattle.wasm_types_decoding.specs.ListLaws.{decides-size_within}

pub small_size : (limit n : ℕ) (s t : State) → size_within limit s ≡ Done n t → n ≤ limit
small_size limit n s t e = let p = (decides-size_within limit).sound s t n e in p.2.within

module _ {A : Type 0} (d : Decoder A) (s t : State) (n : ℕ) (e : size_within 1 s ≡ Done n t) where
  counted : listed_within 1 d s ≡ repeated n d t
  unfolding listed_within
  counted = ap (λ (o : Outcome ℕ). continue_with o (λ k. repeated k d)) e

  none_left : repeated 0 d t ≡ Done [] t
  unfolding repeated
  none_left = refl

  pub only_none : (xs : List A) → n ≡ 0 → xs ≡ [] → listed_within 1 d s ≡ Done xs t
  only_none xs z none = counted ∙ ap (λ (k : ℕ). repeated k d t) z ∙ none_left ∙ ap (λ (ys : List A). Done ys t) (sym none)

  pub only_one : (n ≡ 0 → ⊥) → listed_within 1 d s ≡ repeated 1 d t
  only_one more = counted ∙ ap (λ (k : ℕ). repeated k d t) (omega (arith, small_size 1 n s t e, more))

-- two lists stay as long as each other
pub even_push : {A B : Type 0} (xs : List A) (ys : List B) (x : A) (y : B) → length xs ≡ length ys → length (xs ++ x ∷ []) ≡ length (ys ++ y ∷ [])
even_push xs ys x y e = omega (arith, length-append xs (x ∷ []), length-append ys (y ∷ []), e)
