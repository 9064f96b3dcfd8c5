-- On lists of features of which none can be left out.
use Rattle.std.proofs.Common.{◌≡◌, ◌∙◌, ◌+◌, ◌<◌, ◌≤◌, ◌⊎◌, ℕ, List, ◌++◌, ap, subst, sym, arith, length, map, take, drop, inl, inr}
use Rattle.std.proofs.lemmas.Bool.{cases_eq}
use Rattle.std.proofs.lemmas.List.{drop-map, length-map, map-append, take-map}
use Rattle.std.specs.Prelude.{IfSome, Ok, Option, Some}
use Rattle.std.specs.Int.RustNames.{bit_or}
use Rattle.wasm_types.specs.settings.Features.{vectors_bit}
use Rattle.wasm_check_faults.specs.FeatureLists.{features_of}
use Rattle.wasm_check_faults.specs.WordLists.{AreFeatures, HasBits, IsMinimal, Lacks, Suffices, listed, without_word, words_in}
use Rattle.wasm_check_faults.specs.declared.word_lists.FeatureWord.{FeatureWord}
use Rattle.wasm_check_faults.proofs.WordListLemmas.{fewer_known, words_known}

-- the words without the one at this place, as the words of what is left
pub fewer_words : (ws fewer : List FeatureWord) (place : ℕ) → fewer ≡ take place ws ++ drop (place + 1) ws
    → words_in fewer ≡ without_word place (words_in ws)
fewer_words ws fewer place e =
    ap words_in e ∙ map-append (λ (w : FeatureWord). w.word.now) (take place ws) (drop (place + 1) ws)
    ∙ ap (λ (xs : List (List ℕ)). xs ++ words_in (drop (place + 1) ws)) (sym (take-map (λ (w : FeatureWord). w.word.now) place ws))
    ∙ ap (λ (xs : List (List ℕ)). take place (words_in ws) ++ xs) (sym (drop-map (λ (w : FeatureWord). w.word.now) (place + 1) ws))

pub fewer_features : (ws fewer : List FeatureWord) (place : ℕ) → fewer ≡ take place ws ++ drop (place + 1) ws → AreFeatures ws → AreFeatures fewer
fewer_features ws fewer place e h = subst AreFeatures (sym e) (fewer_known ws place h)

-- a fact of what is there
pub some_of : {X : Type 0} (P : X → Type 0) (o : Option X) (x : X) → o ≡ Some x → IfSome o P → P x
some_of P o x e h = subst (λ p. IfSome p P) e h

module _ (accepts : ℕ → Type 0) where
  -- by the features of a list it is valid, or not
  pub suffices_by : (words : List (List ℕ)) (bits : ℕ) → HasBits words bits → accepts bits → Suffices accepts words
  suffices_by words bits h a = record { features = h.0; named = h.1; valid = subst accepts h.2 a }

  pub lacks_by : (words : List (List ℕ)) (bits : ℕ) → HasBits words bits → ¬ accepts bits → Lacks accepts words
  lacks_by words bits h n = record { features = h.0; named = h.1; invalid = λ a. n (subst accepts (sym h.2) a) }

  -- without any one of the words so far, and without this one
  pub lacks_more : (ws : List (List ℕ)) (from at : ℕ) → ((place : ℕ) → from ≤ place → place < at → Lacks accepts (without_word place ws))
      → Lacks accepts (without_word at ws) → (place : ℕ) → from ≤ place → place < at + 1 → Lacks accepts (without_word place ws)
  lacks_more ws from at h l place low high = by (cases_eq place at)
    where
      by : (place ≡ at) ⊎ ((place ≡ at) → ⊥) → Lacks accepts (without_word place ws)
      by (inl e) = subst (λ (p : ℕ). Lacks accepts (without_word p ws)) (sym e) l
      by (inr n) = h place low (omega (arith, high, n))

  -- without this word it is not valid, as the words that are left say
  pub lacks_without : (ws left fewer : List FeatureWord) (place : ℕ) → fewer ≡ left → words_in left ≡ without_word place (words_in ws)
      → Lacks accepts (words_in fewer) → Lacks accepts (without_word place (words_in ws))
  lacks_without ws left fewer place e same l = subst (Lacks accepts) (ap words_in e ∙ same) l

  -- none of them can be left out
  pub minimal_by : (ws slice : List FeatureWord) → slice ≡ ws → AreFeatures ws → Suffices accepts (words_in ws)
      → ((place : ℕ) → 0 ≤ place → place < length slice → Lacks accepts (without_word place (words_in slice))) → IsMinimal accepts (words_in ws)
  minimal_by ws slice e known enough h = record {
    known = words_known ws known;
    enough = enough;
    minimal = λ place l. subst (λ (xs : List FeatureWord). Lacks accepts (without_word place (words_in xs))) e
        (h place (omega arith) (omega (arith, l, ap length e, length-map ws (λ (w : FeatureWord). w.word.now))));
  }

  -- all features are enough
  pub all_suffice : (ws : List FeatureWord) (bits : ℕ) → features_of (listed (words_in ws)) ≡ Ok bits → accepts (bit_or bits vectors_bit) → Suffices accepts (words_in ws)
  all_suffice ws bits e a = record { features = bits; named = e; valid = a }
