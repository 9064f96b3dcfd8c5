-- The decoders of numbers and lists with a limit are lawful, and read exactly what their grammars spell.
use Rattle.std.proofs.Common.{◌≡◌, ℕ, zero, suc, ◌<◌, ◌≤◌, List, [], ◌∷◌, ◌++◌, length, refl, sym, ap, ◌∙◌, subst, arith, ltb}
use Rattle.std.specs.Prelude.{nat_lt}
use Rattle.std.proofs.lemmas.Bool.{ltb-true, ltb-false}
use Rattle.std.proofs.lemmas.List.{append-nil}
use Rattle.wasm_types_decoding.specs.declared.Refusal.{Refusal}
use Rattle.wasm_types_decoding.specs.declared.Refusal.TheVariants.{Other}
use Rattle.wasm_types_decoding.specs.Decoder.{Decoder, ◌>>=◌, pure, IsLawful, Decides, Grammar, Then, repeated, Many}
use Rattle.wasm_types_decoding.specs.Laws.{lawful->>=, lawful-pure, lawful-if, lawful-repeated}
use Rattle.wasm_types_decoding.specs.ExactLaws.{decides->>=, decides-same, decides-pure, decides-if, decides-repeated}
use Rattle.wasm_types_decoding.specs.Leb.{IsUnsigned, u32}
use Rattle.wasm_types_decoding.specs.LebLaws.{lawful-unsigned, decides-u32}
use Rattle.wasm_types_decoding.specs.Lists.{refuse_at, at_most_or, size_within, listed_within, IsSizeWithin, IsListedWithin}

-- ---- a decoder that knows the offset where it begins

module _ {A : Type 0} (d : ℕ → Decoder A) where
  pub lawful-from_place : ((p : ℕ) → IsLawful (d p)) → IsLawful (λ s. d s.place s)
  lawful-from_place l = record { forward = λ s. (l s.place).forward s; steady = λ s more. (l s.place).steady s more }

  pub decides-from_place : (g : Grammar A) → ((p : ℕ) → Decides (d p) g) → Decides (λ s. d s.place s) g
  decides-from_place g dg = record {
    sound = λ s t x e. (dg s.place).sound s t x e;
    complete = λ s t x text p h. (dg s.place).complete s t x text p h;
  }

pub lawful-refuse_at : {A : Type 0} (k : Refusal) (place : ℕ) → IsLawful (refuse_at {A = A} k place)
lawful-refuse_at k place = record { forward = λ s. tt; steady = λ s more. refl }

pub decides-refuse_at : {A : Type 0} (k : Refusal) (place : ℕ) (g : Grammar A) → ((y : A) (text : List ℕ) → g y text → ⊥) → Decides (refuse_at k place) g
decides-refuse_at k place g none = record {
  sound = λ s t y e. absurd cc;
  complete = λ s t y text p q. absurd (none y text q);
}

-- ---- a number with a limit

module _ (limit : ℕ) where
  pub lawful-size_within : IsLawful (size_within limit)
  unfolding size_within
  lawful-size_within = lawful-from_place (λ p. u32 >>= at_most_or limit p)
      (λ p. lawful->>= u32 (at_most_or limit p) (lawful-unsigned 4 4) (λ n. lawful-if (nat_lt limit n) (refuse_at Other p) (pure n) (lawful-refuse_at Other p) (lawful-pure n)))

  -- the number itself, and nothing behind it
  abbrev only : ℕ → Grammar ℕ
  only n m text = (m ≡ n) × (text ≡ []) × (n ≤ limit)

  only_decides : (p n : ℕ) → Decides (at_most_or limit p n) (only n)
  only_decides p n = decides-if (ltb limit n) (refuse_at Other p) (pure n) (only n)
      (λ t. let large : limit < n = ltb-true _ _ t in decides-refuse_at Other p (only n) (λ y text h. omega (arith, h.2, large)))
      (λ f. let small : n ≤ limit = ltb-false _ _ f in decides-pure n (only n) (refl, refl, small) (λ y text h. (h.0, h.1)))

  size_to : (m : ℕ) (text : List ℕ) → Then (IsUnsigned 32) only m text → IsSizeWithin limit m text
  size_to m text h = record {
    number = subst (λ (z : List ℕ). IsUnsigned 32 m z) (sym (h.whole ∙ ap (λ (z : List ℕ). h.front ++ z) h.second.1 ∙ append-nil h.front))
        (subst (λ (k : ℕ). IsUnsigned 32 k h.front) (sym h.second.0) h.first);
    within = omega (arith, h.second.0, h.second.2);
  }

  size_from : (m : ℕ) (text : List ℕ) → IsSizeWithin limit m text → Then (IsUnsigned 32) only m text
  size_from m text h = record { value = m; front = text; back = []; first = h.number; second = (refl, refl, h.within); whole = sym (append-nil text) }

  pub decides-size_within : Decides (size_within limit) (IsSizeWithin limit)
  unfolding size_within
  decides-size_within = decides-from_place (λ p. u32 >>= at_most_or limit p) (IsSizeWithin limit)
      (λ p. decides-same (u32 >>= at_most_or limit p) (Then (IsUnsigned 32) only) (IsSizeWithin limit)
      (decides->>= u32 (at_most_or limit p) (IsUnsigned 32) only decides-u32 (only_decides p)) size_to size_from)

-- ---- lists

count_of : {A : Type 0} (g : Grammar A) (n : ℕ) (xs : List A) (text : List ℕ) → Many g n xs text → n ≡ length xs
count_of g zero [] text h = refl
count_of g zero (x ∷ xs) text h = absurd h
count_of g (suc n) [] text h = absurd h
count_of g (suc n) (x ∷ xs) text h = ap suc (count_of g n xs h.1 h.3)

module _ {A : Type 0} (limit : ℕ) (d : Decoder A) where
  pub lawful-listed_within : IsLawful d → IsLawful (listed_within limit d)
  unfolding listed_within
  lawful-listed_within l = lawful->>= (size_within limit) (λ n. repeated n d) (lawful-size_within limit) (λ n. lawful-repeated n d l)

  module _ (g : Grammar A) where
    within_to : (xs : List A) (text : List ℕ) → Then (IsSizeWithin limit) (Many g) xs text → IsListedWithin limit g xs text
    within_to xs text h =
        let n = count_of g h.value xs h.back h.second in
        record {
          listed = record {
            count = h.front;
            values = h.back;
            counted = subst (λ (k : ℕ). IsUnsigned 32 k h.front) n h.first.number;
            each = subst (λ (k : ℕ). Many g k xs h.back) n h.second;
            whole = h.whole;
          };
          within = omega (arith, n, h.first.within);
        }

    within_from : (xs : List A) (text : List ℕ) → IsListedWithin limit g xs text → Then (IsSizeWithin limit) (Many g) xs text
    within_from xs text h = record {
      value = length xs;
      front = h.listed.count;
      back = h.listed.values;
      first = record { number = h.listed.counted; within = h.within };
      second = h.listed.each;
      whole = h.listed.whole;
    }

    pub decides-listed_within : Decides d g → Decides (listed_within limit d) (IsListedWithin limit g)
    unfolding listed_within
    decides-listed_within dg = decides-same _ _ (IsListedWithin limit g)
        (decides->>= (size_within limit) (λ n. repeated n d) (IsSizeWithin limit) (Many g) (decides-size_within limit) (λ n. decides-repeated d g dg n))
        within_to within_from
