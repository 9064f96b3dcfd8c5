-- The flags of memory arguments are read lawfully, and exactly where bytes spell them.
use Rattle.std.proofs.Common.{◌≡◌, ℕ, ◌+◌, ◌/◌, ◌%◌, ◌<◌, ◌≤◌, List, [], ◌++◌, refl, sym, ap, ◌∙◌, subst, arith, ltb, eqb, Bool, true, false}
use Rattle.std.specs.Prelude.{nat_lt, ◌==◌}
use Rattle.std.proofs.lemmas.Bool.{eqb-true, eqb-false, ltb-true, ltb-false}
use Rattle.std.proofs.lemmas.List.{append-nil}
use Rattle.wasm_types.specs.decoding.declared.Refusal.TheVariants.{Other}
use Rattle.wasm_types.specs.decoding.Decoder.{Grammar, ◌>>=◌, IsLawful, Decides, Then}
use Rattle.wasm_types.specs.decoding.Laws.{lawful->>=, lawful-pure, lawful-if}
use Rattle.wasm_types.specs.decoding.ExactLaws.{decides->>=, decides-same, decides-pure, decides-if}
use Rattle.wasm_types.specs.decoding.ListLaws.{lawful-from_place, decides-from_place, lawful-refuse_at, decides-refuse_at}
use Rattle.wasm_types.specs.decoding.Leb.{u32, IsUnsigned}
use Rattle.wasm_types.specs.decoding.LebLaws.{lawful-unsigned, decides-u32}
use Rattle.wasm_operators_encoding.specs.declared.immediates.memory_argument.Flags.{Flags}
use Rattle.wasm_operators_encoding.specs.immediates.MemoryArguments.{weight, number_of, flags_in, lacks, allowed, flags_from, flags, SpelledFlags}

module _ (order memory : Bool) where
  lawful-allowed : (place : ℕ) (f : Flags) → IsLawful (allowed order memory place f)
  lawful-allowed place f = lawful-if (lacks f.has_ordering order) _ _ (lawful-refuse_at Other place)
      (lawful-if (lacks f.has_memory memory) _ _ (lawful-refuse_at Other place) (lawful-pure f))

  lawful-flags_from : (place n : ℕ) → IsLawful (flags_from order memory place n)
  lawful-flags_from place n = lawful-if (nat_lt n 128) _ _ (lawful-if (n / 16 % 2 == 0) _ _ (lawful-allowed place (flags_in n))
      (lawful-refuse_at Other place)) (lawful-refuse_at Other place)

  pub lawful-flags : IsLawful (flags order memory)
  unfolding flags
  lawful-flags = lawful-from_place (λ p. u32 >>= flags_from order memory p) (λ p. lawful->>= u32 (flags_from order memory p) (lawful-unsigned 4 4) (λ n. lawful-flags_from p n))

-- ---- the flags that a number is

abbrev with_flags : ℕ → Bool → Bool → Flags
with_flags a o m = record { align = a; has_ordering = o; has_memory = m }

eqb-is : (a b : ℕ) → a ≡ b → eqb b b ≡ true → (a == b) ≡ true
eqb-is a b e t = rw e t

eqb-is_not : (a : ℕ) → a ≡ 0 → (a == 1) ≡ false
eqb-is_not a e = rw e refl

-- what n says, if it is the number of such flags
pub record Says (n a : ℕ) (o m : Bool) : Type 0 where
  pub small : n < 128
  pub free : n / 16 % 2 ≡ 0
  pub same : flags_in n ≡ with_flags a o m

same_flags : (a b : ℕ) (o p m q : Bool) → a ≡ b → o ≡ p → m ≡ q → with_flags a o m ≡ with_flags b p q
same_flags a b o p m q e f g = λ i. with_flags (e i) (f i) (g i)

says : (n a : ℕ) (o m : Bool) → a < 16 → n ≡ a + weight o 0x20 + weight m 0x40 → Says n a o m
says n a true true lt e = record {
  small = omega arith;
  free = omega arith;
  same = same_flags _ _ _ _ _ _ (omega arith)
      (eqb-is (n / 32 % 2) 1 (omega arith) refl) (eqb-is (n / 64) 1 (omega arith) refl);
}
says n a true false lt e = record {
  small = omega arith;
  free = omega arith;
  same = same_flags _ _ _ _ _ _ (omega arith)
      (eqb-is (n / 32 % 2) 1 (omega arith) refl) (eqb-is_not (n / 64) (omega arith));
}
says n a false true lt e = record {
  small = omega arith;
  free = omega arith;
  same = same_flags _ _ _ _ _ _ (omega arith)
      (eqb-is_not (n / 32 % 2) (omega arith)) (eqb-is (n / 64) 1 (omega arith) refl);
}
says n a false false lt e = record {
  small = omega arith;
  free = omega arith;
  same = same_flags _ _ _ _ _ _ (omega arith)
      (eqb-is_not (n / 32 % 2) (omega arith)) (eqb-is_not (n / 64) (omega arith));
}

-- the number of the flags that n says is n
back : (n : ℕ) → n < 128 → n / 16 % 2 ≡ 0 → n ≡ number_of (flags_in n)
back n lt free = go (n / 32 % 2 == 1) (n / 64 == 1) refl refl
  where
    go : (o m : Bool) → (n / 32 % 2 == 1) ≡ o → (n / 64 == 1) ≡ m → n ≡ n % 16 + weight o 0x20 + weight m 0x40
    go true true e f = let x = eqb-true _ _ e in let y = eqb-true _ _ f in omega (arith, x, y)
    go true false e f = let x = eqb-true _ _ e in let y = eqb-false _ _ f in omega (arith, x, y)
    go false true e f = let x = eqb-false _ _ e in let y = eqb-true _ _ f in omega (arith, x, y)
    go false false e f = let x = eqb-false _ _ e in let y = eqb-false _ _ f in omega (arith, x, y)

-- ---- exact

module _ (order memory : Bool) where
  -- flags of this number, if they are allowed
  pub record Of (n : ℕ) (f : Flags) : Type 0 where
    pub number : n ≡ number_of f
    pub align : f.align < 16
    pub may_order : f.has_ordering ≡ true → order ≡ true
    pub may_name : f.has_memory ≡ true → memory ≡ true

  abbrev After : ℕ → Grammar Flags
  After n f text = Of n f × (text ≡ [])

lacks_not : (asked have : Bool) → lacks asked have ≡ false → asked ≡ true → have ≡ true
lacks_not true true l a = refl
lacks_not true false l a = absurd cc
lacks_not false have l a = absurd cc

lacks_so : (asked have : Bool) → lacks asked have ≡ true → (asked ≡ true → have ≡ true) → ⊥
lacks_so true true l h = cc
lacks_so true false l h = let no : false ≡ true = h refl in cc
lacks_so false have l h = cc

module _ (order memory : Bool) (place n : ℕ) where
  is_of : (f : Flags) → Of order memory n f → Says n f.align f.has_ordering f.has_memory
  is_of f h = says n f.align f.has_ordering f.has_memory h.align h.number

  decides-allowed : n < 128 → n / 16 % 2 ≡ 0 → Decides (allowed order memory place (flags_in n)) (After order memory n)
  decides-allowed lt free =
      decides-if (lacks (flags_in n).has_ordering order) _ _ _
      (λ t. decides-refuse_at Other place _ (λ f text q. lacks_so _ _ t (subst (λ (g : Flags). g.has_ordering ≡ true → order ≡ true) (sym (is_of f q.0).same) q.0.may_order)))
      (λ l. decides-if (lacks (flags_in n).has_memory memory) _ _ _
      (λ t. decides-refuse_at Other place _ (λ f text q. lacks_so _ _ t (subst (λ (g : Flags). g.has_memory ≡ true → memory ≡ true) (sym (is_of f q.0).same) q.0.may_name)))
      (λ k. decides-pure (flags_in n) (After order memory n)
      (record { number = back n lt free; align = omega arith; may_order = lacks_not _ _ l; may_name = lacks_not _ _ k }, refl)
      (λ f text q. (sym (is_of f q.0).same, q.1))))

  decides-flags_from : Decides (flags_from order memory place n) (After order memory n)
  decides-flags_from = decides-if (ltb n 128) _ _ _
      (λ t. let lt : n < 128 = ltb-true _ _ t in
      decides-if (eqb (n / 16 % 2) 0) _ _ _
      (λ u. decides-allowed lt (eqb-true _ _ u))
      (λ v. decides-refuse_at Other place _ (λ f text q. eqb-false _ _ v (is_of f q.0).free)))
      (λ w. let le : 128 ≤ n = ltb-false _ _ w in decides-refuse_at Other place _ (λ f text q. omega (arith, (is_of f q.0).small, le)))

module _ (order memory : Bool) where
  flags_to : (f : Flags) (text : List ℕ) → Then (IsUnsigned 32) (After order memory) f text → SpelledFlags order memory f text
  flags_to f text h =
      let o : Of order memory h.value f = h.second.0 in
      let same : h.front ≡ text = sym (h.whole ∙ ap (λ (z : List ℕ). h.front ++ z) h.second.1 ∙ append-nil h.front) in
      record {
        number = subst (λ (z : List ℕ). IsUnsigned 32 (number_of f) z) same (subst (λ (k : ℕ). IsUnsigned 32 k h.front) o.number h.first);
        align = o.align;
        may_order = o.may_order;
        may_name = o.may_name;
      }

  flags_back : (f : Flags) (text : List ℕ) → SpelledFlags order memory f text → Then (IsUnsigned 32) (After order memory) f text
  flags_back f text h = record {
    value = number_of f;
    front = text;
    back = [];
    first = h.number;
    second = (record { number = refl; align = h.align; may_order = h.may_order; may_name = h.may_name }, refl);
    whole = sym (append-nil text);
  }

  pub decides-flags : Decides (flags order memory) (SpelledFlags order memory)
  unfolding flags
  decides-flags = decides-from_place (λ p. u32 >>= flags_from order memory p) (SpelledFlags order memory)
      (λ p. decides-same (u32 >>= flags_from order memory p) (Then (IsUnsigned 32) (After order memory)) (SpelledFlags order memory)
      (decides->>= u32 (flags_from order memory p) (IsUnsigned 32) (After order memory) decides-u32 (λ n. decides-flags_from order memory p n)) flags_to flags_back)
