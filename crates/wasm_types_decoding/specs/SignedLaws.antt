-- The decoder of signed numbers is lawful, and reads exactly what the specification's productions spell.
use Rattle.std.proofs.Common.{◌≡◌, ℕ, zero, suc, ◌+◌, ◌-◌, ◌*◌, ◌^◌, ◌<◌, ◌≤◌, List, [], ◌∷◌, refl, arith, ltb, cond, Bool, true, false, ◌⊎◌, inl, inr}
use Rattle.std.specs.Prelude.{nat_lt, ℤ, pos, ◌+ℤ◌, ◌-ℤ◌, ◌*ℤ◌}
use Rattle.std.proofs.lemmas.Bool.{ltb-true, ltb-false}
use Rattle.std.proofs.Math.Pow.{pow_mono}
use Rattle.wasm_types_decoding.specs.declared.Refusal.{Refusal}
use Rattle.wasm_types_decoding.specs.declared.Refusal.TheVariants.{Other}
use Rattle.wasm_types_decoding.specs.Decoder.{Decoder, ◌>>=◌, pure, refuse, byte, IsLawful, Decides, Grammar}
use Rattle.wasm_types_decoding.specs.Laws.{lawful-byte, lawful->>=, lawful-pure, lawful-refuse, lawful-if}
use Rattle.wasm_types_decoding.specs.ExactLaws.{decides-same, decides-pure, decides-refuse, decides-if, decides-byte, decides-map}
use Rattle.wasm_types_decoding.specs.Leb.{IsSigned, nonnegative, negative, longer, seven_bits, last_bits, signed, s32, s33, s64}

lawful-last_bits : (r b : ℕ) → IsLawful (last_bits r b)
unfolding last_bits
lawful-last_bits r b =
    lawful-if (ltb b (2 ^ (r - 1))) _ _ (lawful-pure (pos b)) (
    lawful-if (ltb b (128 - 2 ^ (r - 1))) _ _ (lawful-refuse Other 1) (
    lawful-if (ltb b 128) _ _ (lawful-pure (pos b -ℤ pos 128)) (lawful-refuse Other 1)))

pub lawful-signed : (k r : ℕ) → IsLawful (signed k r)
unfolding signed
lawful-signed zero r = lawful->>= byte (last_bits r) lawful-byte (λ b. lawful-last_bits r b)
lawful-signed (suc k) r = lawful->>= byte _ lawful-byte (λ b. lawful-if (nat_lt b 128) (pure (seven_bits b))
    (signed k r >>= λ m. pure (pos 128 *ℤ m +ℤ pos (b - 128))) (lawful-pure _) (lawful->>= (signed k r) _ (lawful-signed k r) (λ m. lawful-pure _)))

-- ---- what the productions say of the first byte

not_empty : (N : ℕ) (v : ℤ) → IsSigned N v [] → ⊥
not_empty N v h = elim h [ ]

-- each production, of n and what follows it
pub record IsNonnegative (N : ℕ) (v : ℤ) (n : ℕ) (text : List ℕ) : Type 0 where
  pub small : n < 2 ^ 6
  pub fits : n < 2 ^ (N - 1)
  pub value : v ≡ pos n
  pub end : text ≡ []

pub record IsNegative (N : ℕ) (v : ℤ) (n : ℕ) (text : List ℕ) : Type 0 where
  pub sign : 2 ^ 6 ≤ n
  pub small : n < 2 ^ 7
  pub fits : 2 ^ 7 - 2 ^ (N - 1) ≤ n
  pub value : v ≡ pos n -ℤ pos (2 ^ 7)
  pub end : text ≡ []

pub record IsLonger (N : ℕ) (v : ℤ) (n : ℕ) (text : List ℕ) : Type 0 where
  pub high : ℤ
  pub large : 2 ^ 7 ≤ n
  pub wide : 7 < N
  pub rest : IsSigned (N - 7) high text
  pub value : v ≡ pos (2 ^ 7) *ℤ high +ℤ pos (n - 2 ^ 7)

pub data SignedCase (N : ℕ) (v : ℤ) (n : ℕ) (text : List ℕ) : Type 0 where
  as_nonnegative : IsNonnegative N v n text → SignedCase N v n text
  as_negative : IsNegative N v n text → SignedCase N v n text
  as_longer : IsLonger N v n text → SignedCase N v n text

cases_signed : {N : ℕ} {v : ℤ} {n : ℕ} {text : List ℕ} → IsSigned N v (n ∷ text) → SignedCase N v n text
cases_signed (nonnegative N v n small fits e) = as_nonnegative (record { small = small; fits = fits; value = e; end = refl })
cases_signed (negative N v n sign small fits e) = as_negative (record { sign = sign; small = small; fits = fits; value = e; end = refl })
cases_signed (longer N v n m text large wide rest e) = as_longer (record { high = m; large = large; wide = wide; rest = rest; value = e })

-- ---- by the number of groups that may follow

module _ (N b : ℕ) where
  abbrev after_byte : Grammar ℤ
  after_byte v text = IsSigned N v (b ∷ text)

  -- a last byte whose sign bit is 0
  ends_nonnegative : b < 2 ^ 6 → b < 2 ^ (N - 1) → Decides (pure (pos b)) after_byte
  ends_nonnegative small fits = decides-pure (pos b) after_byte (nonnegative N (pos b) b small fits refl) (λ v text h. elim (cases_signed h) [
    | as_nonnegative p ↦ (p.value, p.end)
    | as_negative p ↦ absurd (omega (arith, p.sign, small))
    | as_longer p ↦ absurd (omega (arith, p.large, small))
  ])

  -- a last byte whose sign bit is 1
  ends_negative : 2 ^ 6 ≤ b → b < 2 ^ 7 → 2 ^ 7 - 2 ^ (N - 1) ≤ b → Decides (pure (pos b -ℤ pos 128)) after_byte
  ends_negative sign small fits = decides-pure (pos b -ℤ pos 128) after_byte (negative N (pos b -ℤ pos 128) b sign small fits refl) (λ v text h. elim (cases_signed h) [
    | as_nonnegative p ↦ absurd (omega (arith, p.small, sign))
    | as_negative p ↦ (p.value, p.end)
    | as_longer p ↦ absurd (omega (arith, p.large, small))
  ])

  -- no production begins with such a byte
  refused : (k : Refusal) → N < 8 → 2 ^ (N - 1) ≤ b → (b < 2 ^ 7 - 2 ^ (N - 1)) ⊎ (2 ^ 7 ≤ b) → Decides (refuse k 1) after_byte
  refused k lt above out = decides-refuse k 1 after_byte (λ v text h. elim (cases_signed h) [
    | as_nonnegative p ↦ omega (arith, p.fits, above)
    | as_negative p ↦ elim out [ inl x ↦ omega (arith, p.fits, x) | inr x ↦ omega (arith, p.small, x) ]
    | as_longer p ↦ omega (arith, p.wide, lt)
  ])

  goes_on : (d : Decoder ℤ) → 2 ^ 7 ≤ b → 7 < N → Decides d (IsSigned (N - 7)) → Decides (d >>= λ m. pure (pos 128 *ℤ m +ℤ pos (b - 128))) after_byte
  goes_on d large wide dg = decides-same _ _ after_byte (decides-map d (λ m. pos 128 *ℤ m +ℤ pos (b - 128)) (IsSigned (N - 7)) dg)
      (λ v text h. longer N v b h.0 text large wide h.1 h.2)
      (λ v text h. elim (cases_signed h) [
        | as_nonnegative p ↦ absurd (omega (arith, p.small, large))
        | as_negative p ↦ absurd (omega (arith, p.small, large))
        | as_longer p ↦ (p.high, p.rest, p.value)
      ])

  decides-last_bits : N ≤ 7 → 0 < N → Decides (last_bits N b) after_byte
  unfolding last_bits
  decides-last_bits le some =
      let half : 2 ^ (N - 1) ≤ 2 ^ 6 = pow_mono {i = N - 1} {j = 6} (omega arith) in
      decides-if (ltb b (2 ^ (N - 1))) (pure (pos b)) _ after_byte
      (λ t. let small : b < 2 ^ (N - 1) = ltb-true _ _ t in ends_nonnegative (omega arith) small)
      (λ f. let above : 2 ^ (N - 1) ≤ b = ltb-false _ _ f in
      decides-if (ltb b (128 - 2 ^ (N - 1))) (refuse Other 1) _ after_byte
      (λ t. let below : b < 128 - 2 ^ (N - 1) = ltb-true _ _ t in refused Other (omega arith) above (inl below))
      (λ f'. let enough : 128 - 2 ^ (N - 1) ≤ b = ltb-false _ _ f' in
      decides-if (ltb b 128) (pure (pos b -ℤ pos 128)) (refuse Other 1) after_byte
      (λ t. let small : b < 128 = ltb-true _ _ t in ends_negative (omega arith) small enough)
      (λ f''. let large : 128 ≤ b = ltb-false _ _ f'' in refused Other (omega arith) above (inr large))))

  decides-seven_bits : 8 ≤ N → b < 128 → Decides (pure (seven_bits b)) after_byte
  decides-seven_bits wide small =
      let half : 2 ^ 7 ≤ 2 ^ (N - 1) = pow_mono {i = 7} {j = N - 1} (omega arith) in
      go (ltb b 64) refl
    where
      go : (t : Bool) → ltb b 64 ≡ t → Decides (pure (cond t (pos b) (pos b -ℤ pos 128))) after_byte
      go true e = let low : b < 64 = ltb-true _ _ e in ends_nonnegative low (omega (arith, pow_mono {i = 7} {j = N - 1} (omega arith)))
      go false e = let high : 64 ≤ b = ltb-false _ _ e in ends_negative high small (omega (arith, pow_mono {i = 7} {j = N - 1} (omega arith)))

module _ (r : ℕ) (le : r ≤ 7) (some : 0 < r) where
  pub decides-signed : (k N : ℕ) → N ≡ 7 * k + r → Decides (signed k r) (IsSigned N)
  unfolding signed
  decides-signed zero N e = decides-byte (last_bits r) (IsSigned N) (not_empty N) (λ b.
      let n-is : r ≡ N = omega arith in
      rw n-is (decides-last_bits N b (omega arith) (omega arith)))
  decides-signed (suc k) N e = decides-byte _ (IsSigned N) (not_empty N) (λ b.
      decides-if (ltb b 128) (pure (seven_bits b)) _ (after_byte N b)
      (λ t. let small : b < 128 = ltb-true _ _ t in decides-seven_bits N b (omega arith) small)
      (λ f. let large : 128 ≤ b = ltb-false _ _ f in goes_on N b (signed k r) large (omega arith) (decides-signed k (N - 7) (omega arith))))

pub decides-s32 : Decides s32 (IsSigned 32)
decides-s32 = decides-signed 4 (omega arith) (omega arith) 4 32 refl

pub decides-s33 : Decides s33 (IsSigned 33)
decides-s33 = decides-signed 5 (omega arith) (omega arith) 4 33 refl

pub decides-s64 : Decides s64 (IsSigned 64)
decides-s64 = decides-signed 1 (omega arith) (omega arith) 9 64 refl
