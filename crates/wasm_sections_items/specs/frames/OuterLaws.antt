-- Bytes are the frames of at most one module.
use Rattle.std.proofs.Common.{◌≡◌, ℕ, zero, suc, List, [], ◌∷◌, ◌++◌, length, refl, sym, ap, ◌∙◌, subst, arith}
use Rattle.wasm_types.specs.decoding.Decoder.{State, Outcome, Done, Decoder, Grammar, Decides, Many}
use Rattle.wasm_types.specs.decoding.ExactLaws.{value_is, state_is}
use Rattle.wasm_types.specs.settings.Settings.{Settings, no_features}
use Rattle.wasm_sections_items.specs.frames.Outer.{SpelledHeader, SpelledPart, Outer, SpelledOuter}
use Rattle.wasm_sections_items.specs.frames.Decode.{header, part}
use Rattle.wasm_sections_items.specs.frames.PartLaws.{decides-header, decides-part, part_some}

-- a reader that stands before these bytes, and behind some of them
abbrev before : List ℕ → State
before text = record { rest = text; place = 0; settings = no_features; start = 0 }

abbrev behind : List ℕ → List ℕ → State
behind front back = record { rest = back; place = length front; settings = no_features; start = 0 }

-- what is read exactly has one value and one spelling at the front of bytes
module _ {A : Type 0} (d : Decoder A) (g : Grammar A) (dg : Decides d g) where
  abbrev done : A → State → Outcome A
  done x s = Done x s

  at_front : (x : A) (text front back : List ℕ) → text ≡ front ++ back → g x front → d (before text) ≡ Done x (behind front back)
  at_front x text front back e h = dg.complete (before text) (behind front back) x front (record { parts = e; place = omega arith; settings = refl; start = refl }) h

  pub one : (x y : A) (text front back other rest : List ℕ) → text ≡ front ++ back → g x front → text ≡ other ++ rest → g y other → (x ≡ y) × (back ≡ rest)
  one x y text front back other rest e h f k =
      let both : done x (behind front back) ≡ done y (behind other rest) = sym (at_front x text front back e h) ∙ at_front y text other rest f k in
      (value_is x y (behind front back) (behind other rest) both, ap (λ (s : State). s.rest) (state_is x y (behind front back) (behind other rest) both))

  many_one : ((x : A) → g x [] → ⊥) → (n m : ℕ) (xs ys : List A) (text : List ℕ) → Many g n xs text → Many g m ys text → xs ≡ ys
  many_one some zero zero [] [] text h k = refl
  many_one some zero m (x ∷ xs) ys text h k = absurd h
  many_one some n zero xs (y ∷ ys) text h k = absurd k
  many_one some (suc n) m [] ys text h k = absurd h
  many_one some n (suc m) xs [] text h k = absurd k
  many_one some zero (suc m) [] (y ∷ ys) text h k = absurd (some y (subst (g y) (no_front k.0 k.1 (sym k.4 ∙ h)) k.2))
    where
      no_front : (front back : List ℕ) → front ++ back ≡ [] → front ≡ []
      no_front [] back e = refl
      no_front (b ∷ front) back e = absurd cc
  many_one some (suc n) zero (x ∷ xs) [] text h k = absurd (some x (subst (g x) (no_front h.0 h.1 (sym h.4 ∙ k)) h.2))
    where
      no_front : (front back : List ℕ) → front ++ back ≡ [] → front ≡ []
      no_front [] back e = refl
      no_front (b ∷ front) back e = absurd cc
  many_one some (suc n) (suc m) (x ∷ xs) (y ∷ ys) text h k =
      let first = one x y text h.0 h.1 k.0 k.1 h.4 h.2 k.4 k.2 in
      let others = many_one some n m xs ys k.1 (subst (Many g n xs) first.1 h.3) k.3 in
      λ i. first.0 i ∷ others i

pub one_outer : (z : Settings) (m n : Outer) (text : List ℕ) → SpelledOuter z m text → SpelledOuter z n text → m ≡ n
one_outer z m n text h k =
    let heads = one header SpelledHeader decides-header m.header n.header text h.header_text h.parts_text k.header_text k.parts_text h.whole h.headed k.whole k.headed in
    let parts = many_one (part z) (SpelledPart z) (decides-part z) (part_some z) (length m.parts) (length n.parts) m.parts n.parts k.parts_text
    (subst (Many (SpelledPart z) (length m.parts) m.parts) heads.1 h.each) k.each in
    λ i. record { header = heads.0 i; parts = parts i }
