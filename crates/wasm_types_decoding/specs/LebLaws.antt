-- The decoder of numbers is lawful, and reads exactly what the specification's productions spell.
use Rattle.std.proofs.Common.{◌≡◌, ℕ, zero, suc, ◌+◌, ◌-◌, ◌*◌, ◌^◌, ◌<◌, ◌≤◌, List, [], ◌∷◌, length, refl, ap, subst, arith, ltb, ◌⊎◌, inl, inr}
use Rattle.std.specs.Prelude.{nat_lt}
use Rattle.std.proofs.lemmas.Bool.{ltb-true, ltb-false}
use Rattle.std.proofs.Math.Pow.{pow_mono}
use Rattle.wasm_types_decoding.specs.declared.Refusal.{Refusal}
use Rattle.wasm_types_decoding.specs.declared.Refusal.TheVariants.{Other}
use Rattle.wasm_types_decoding.specs.Decoder.{Decoder, ◌>>=◌, pure, refuse, byte, IsLawful, Decides, Grammar, Then, repeated, Many}
use Rattle.wasm_types_decoding.specs.Laws.{lawful-byte, lawful->>=, lawful-pure, lawful-refuse, lawful-if, lawful-repeated}
use Rattle.wasm_types_decoding.specs.ExactLaws.{decides->>=, decides-same, decides-pure, decides-refuse, decides-if, decides-byte, decides-map, decides-repeated}
use Rattle.wasm_types_decoding.specs.Leb.{IsUnsigned, last, more, unsigned, u32, u64, listed, IsListed}

pub lawful-unsigned : (k r : ℕ) → IsLawful (unsigned k r)
unfolding unsigned
lawful-unsigned zero r = lawful->>= byte _ lawful-byte (λ b. lawful-if (nat_lt b (2 ^ r)) (pure b) (refuse Other 1) (lawful-pure b) (lawful-refuse _ 1))
lawful-unsigned (suc k) r = lawful->>= byte _ lawful-byte (λ b. lawful-if (nat_lt b 128) (pure b) (unsigned k r >>= λ m. pure (128 * m + (b - 128)))
    (lawful-pure b) (lawful->>= (unsigned k r) _ (lawful-unsigned k r) (λ m. lawful-pure _)))

-- ---- what the productions say of the first byte

not_empty : (N v : ℕ) → IsUnsigned N v [] → ⊥
not_empty N v h = elim h [ ]

-- either production, of n and what follows it
pub record IsLast (N v n : ℕ) (text : List ℕ) : Type 0 where
  pub small : n < 2 ^ 7
  pub fits : n < 2 ^ N
  pub value : v ≡ n
  pub end : text ≡ []

pub record IsMore (N v n : ℕ) (text : List ℕ) : Type 0 where
  pub high : ℕ
  pub large : 2 ^ 7 ≤ n
  pub wide : 7 < N
  pub rest : IsUnsigned (N - 7) high text
  pub value : v ≡ 2 ^ 7 * high + (n - 2 ^ 7)

cases_unsigned : {N v n : ℕ} {text : List ℕ} → IsUnsigned N v (n ∷ text) → IsLast N v n text ⊎ IsMore N v n text
cases_unsigned (last N v n small fits e) = inl (record { small = small; fits = fits; value = e; end = refl })
cases_unsigned (more N v n m text large wide rest e) = inr (record { high = m; large = large; wide = wide; rest = rest; value = e })

-- ---- by the number of groups that may follow

above : (b r : ℕ) → r ≤ 7 → b < 2 ^ r → b < 2 ^ 7
above b r le lt = omega (arith, pow_mono {i = r} {j = 7} le)

module _ (r : ℕ) (le : r ≤ 7) where
  abbrev after_byte : ℕ → ℕ → Grammar ℕ
  after_byte N b v text = IsUnsigned N v (b ∷ text)

  one_only : (N b : ℕ) → (N < 8) ⊎ (b < 128) → (v : ℕ) (text : List ℕ) → after_byte N b v text → IsLast N v b text
  one_only N b c v text h = elim (cases_unsigned h) [
    | inl l ↦ l
    | inr m ↦ absurd (elim c [ inl x ↦ omega (arith, m.wide, x) | inr x ↦ omega (arith, m.large, x) ])
  ]

  ends : (N b : ℕ) → (N < 8) ⊎ (b < 128) → b < 2 ^ 7 → b < 2 ^ N → Decides (pure b) (after_byte N b)
  ends N b c small fits = decides-pure b (after_byte N b) (last N b b small fits refl) (λ v text h. let l = one_only N b c v text h in (l.value, l.end))

  refused : (N b : ℕ) (k : Refusal) → N < 8 → 2 ^ N ≤ b → Decides (refuse k 1) (after_byte N b)
  refused N b k lt large = decides-refuse k 1 (after_byte N b) (λ v text h. let l = one_only N b (inl lt) v text h in omega (arith, l.fits, large))

  goes_on : (N b : ℕ) (d : Decoder ℕ) → 2 ^ 7 ≤ b → 7 < N → Decides d (IsUnsigned (N - 7)) → Decides (d >>= λ m. pure (128 * m + (b - 128))) (after_byte N b)
  goes_on N b d large wide dg = decides-same _ _ (after_byte N b) (decides-map d (λ m. 128 * m + (b - 128)) (IsUnsigned (N - 7)) dg)
      (λ v text h. more N v b h.0 text large wide h.1 h.2)
      (λ v text h. elim (cases_unsigned h) [ inl l ↦ absurd (omega (arith, l.small, large)) | inr m ↦ (m.high, m.rest, m.value) ])

  pub decides-unsigned : (k N : ℕ) → N ≡ 7 * k + r → 0 < r → Decides (unsigned k r) (IsUnsigned N)
  unfolding unsigned
  decides-unsigned zero N e some = decides-byte _ (IsUnsigned N) (not_empty N) (λ b.
      let n-is : N ≡ r = omega arith in
      decides-if (ltb b (2 ^ r)) (pure b) _ (after_byte N b)
      (λ t. let small : b < 2 ^ r = ltb-true _ _ t in ends N b (inl (omega arith)) (above b r le small) (rw n-is small))
      (λ f. let large : 2 ^ r ≤ b = ltb-false _ _ f in refused N b _ (omega arith) (rw n-is large)))
  decides-unsigned (suc k) N e some = decides-byte _ (IsUnsigned N) (not_empty N) (λ b.
      let at_least : 7 ≤ N = omega arith in
      decides-if (ltb b 128) (pure b) _ (after_byte N b)
      (λ t. let small : b < 128 = ltb-true _ _ t in ends N b (inr small) small (omega (arith, pow_mono {i = 7} {j = N} at_least)))
      (λ f. let large : 128 ≤ b = ltb-false _ _ f in goes_on N b (unsigned k r) large (omega arith) (decides-unsigned k (N - 7) (omega arith) some)))

pub decides-u32 : Decides u32 (IsUnsigned 32)
decides-u32 = decides-unsigned 4 (omega arith) 4 32 refl (omega arith)

pub decides-u64 : Decides u64 (IsUnsigned 64)
decides-u64 = decides-unsigned 1 (omega arith) 9 64 refl (omega arith)

-- ---- lists

pub lawful-listed : {A : Type 0} (d : Decoder A) → IsLawful d → IsLawful (listed d)
unfolding listed
lawful-listed d l = lawful->>= u32 (λ n. repeated n d) (lawful-unsigned 4 4) (λ n. lawful-repeated n d l)

module _ {A : Type 0} (g : Grammar A) where
  many_count : (n : ℕ) (xs : List A) (text : List ℕ) → Many g n xs text → n ≡ length xs
  many_count zero [] text h = refl
  many_count zero (x ∷ xs) text h = absurd h
  many_count (suc n) [] text h = absurd h
  many_count (suc n) (x ∷ xs) text h = ap suc (many_count n xs h.1 h.3)

  listed_to : (xs : List A) (text : List ℕ) → Then (IsUnsigned 32) (Many g) xs text → IsListed g xs text
  listed_to xs text h =
      let n = many_count h.value xs h.back h.second in
      record {
        count = h.front;
        values = h.back;
        counted = subst (λ (k : ℕ). IsUnsigned 32 k h.front) n h.first;
        each = subst (λ (k : ℕ). Many g k xs h.back) n h.second;
        whole = h.whole;
      }

  listed_from : (xs : List A) (text : List ℕ) → IsListed g xs text → Then (IsUnsigned 32) (Many g) xs text
  listed_from xs text h = record { value = length xs; front = h.count; back = h.values; first = h.counted; second = h.each; whole = h.whole }

  pub decides-listed : (d : Decoder A) → Decides d g → Decides (listed d) (IsListed g)
  unfolding listed
  decides-listed d dg = decides-same _ _ (IsListed g) (decides->>= u32 (λ n. repeated n d) (IsUnsigned 32) (Many g) decides-u32
      (λ n. decides-repeated d g dg n)) listed_to listed_from
