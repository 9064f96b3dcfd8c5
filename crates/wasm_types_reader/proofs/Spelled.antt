-- The number that a few bytes spell, and the text that some bytes are.
use Rattle.std.proofs.Common.{◌≡◌, ℕ, ◌-◌, List, [], ◌∷◌, length, get_or, refl, sym, ap, arith, Bool, true, false, w32, w64}
use Rattle.std.specs.Int.{from_le_bytes}
use Rattle.std.specs.Str.{IsUtf8, is_utf8}
use Rattle.std.proofs.lemmas.Str.{IsUtf8-from_is_utf8, is_utf8-from_IsUtf8}
use Rattle.wasm_types_decoding.specs.declared.Refusal.TheVariants.{Other}
use Rattle.wasm_types_decoding.specs.Decoder.{State, Done, Fault, bytes}
use Rattle.wasm_types_decoding.specs.ExactLaws.{decides-bytes}
use Rattle.wasm_types_decoding.specs.Text.{little_endian, word, text_of}

pub of_four : (text : List ℕ) (n : ℕ) → length text ≡ 4 → n ≡ from_le_bytes w32 (get_or text 0 0 ∷ get_or text 1 0 ∷ get_or text 2 0 ∷ get_or text 3 0 ∷ []) → n ≡ little_endian text
of_four [] n l e = absurd (omega arith)
of_four (a ∷ []) n l e = absurd (omega arith)
of_four (a ∷ b ∷ []) n l e = absurd (omega arith)
of_four (a ∷ b ∷ c ∷ []) n l e = absurd (omega arith)
of_four (a ∷ b ∷ c ∷ d ∷ []) n l e = omega (arith, e)
of_four (a ∷ b ∷ c ∷ d ∷ x ∷ more) n l e = absurd (omega arith)

pub of_eight : (text : List ℕ) (n : ℕ) → length text ≡ 8 → n ≡ from_le_bytes w64 (get_or text 0 0 ∷ get_or text 1 0 ∷ get_or text 2 0 ∷ get_or text 3 0 ∷ get_or text 4 0 ∷ get_or text 5 0 ∷ get_or text 6 0 ∷ get_or text 7 0 ∷ []) → n ≡ little_endian text
of_eight [] n l e = absurd (omega arith)
of_eight (a ∷ []) n l e = absurd (omega arith)
of_eight (a ∷ b ∷ []) n l e = absurd (omega arith)
of_eight (a ∷ b ∷ c ∷ []) n l e = absurd (omega arith)
of_eight (a ∷ b ∷ c ∷ d ∷ []) n l e = absurd (omega arith)
of_eight (a ∷ b ∷ c ∷ d ∷ f ∷ []) n l e = absurd (omega arith)
of_eight (a ∷ b ∷ c ∷ d ∷ f ∷ g ∷ []) n l e = absurd (omega arith)
of_eight (a ∷ b ∷ c ∷ d ∷ f ∷ g ∷ h ∷ []) n l e = absurd (omega arith)
of_eight (a ∷ b ∷ c ∷ d ∷ f ∷ g ∷ h ∷ i ∷ []) n l e = omega (arith, e)
of_eight (a ∷ b ∷ c ∷ d ∷ f ∷ g ∷ h ∷ i ∷ x ∷ more) n l e = absurd (omega arith)

module _ (k : ℕ) (s t : State) (text : List ℕ) (e : bytes k s ≡ Done text t) where
  pub count_is : length text ≡ k
  count_is = ((decides-bytes k).sound s t text e).2.0

  pub word_done : (n : ℕ) → n ≡ little_endian text → word k s ≡ Done n t
  unfolding word
  word_done n h = rw e (ap (λ (m : ℕ). Done m t) (sym h))

  pub text_done : IsUtf8 text → text_of k s ≡ Done text t
  unfolding text_of
  text_done h = let c : is_utf8 text ≡ true = is_utf8-from_IsUtf8 text h in rw (e, c) refl

  no_text : (IsUtf8 text → ⊥) → (b : Bool) → is_utf8 text ≡ b → is_utf8 text ≡ false
  no_text h true c = absurd (h (IsUtf8-from_is_utf8 text c))
  no_text h false c = c

  pub text_refused : (IsUtf8 text → ⊥) → text_of k s ≡ Fault Other (t.place - 1)
  unfolding text_of
  text_refused h = let c : is_utf8 text ≡ false = no_text h (is_utf8 text) refl in rw (e, c) refl
