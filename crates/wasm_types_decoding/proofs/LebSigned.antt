-- The loop over the groups of a signed number, of any width.
use Rattle.std.proofs.Common.{◌≡◌, ℕ, zero, suc, ◌+◌, ◌-◌, ◌*◌, ◌/◌, ◌%◌, ◌^◌, ◌<◌, ◌≤◌, refl, sym, ap, ◌∙◌, subst, arith, ltb, true, false, ◌⊎◌, inl}
use Rattle.std.proofs.Common.{inr, pow-add, pow_mono, pow_pos, mul-add, add-mul, suc-mul, to_z, of_z}
use Rattle.std.specs.Prelude.{bit_and, bit_or, FitsSigned, ℤ, pos, negsuc, ◌+ℤ◌, ◌-ℤ◌, ◌*ℤ◌}
use Rattle.std.specs.Int.{w32, w64, cast_signed, cast_unsigned}
use Rattle.std.specs.Int.Bits.{or_shifted_r}
use Rattle.std.proofs.lemmas.Bool.{le-ltb, lt-ltb, cases_lt}
use Rattle.std.proofs.lemmas.Int.{ints, to_z_pos, to_z-of_z}
use Rattle.wasm_types_decoding.specs.declared.Refusal.TheVariants.{Other}
use Rattle.wasm_types_decoding.specs.Decoder.{State, Outcome, Done, Short, Fault, continue_with, pure, byte}
use Rattle.wasm_types_decoding.specs.Leb.{signed, seven_bits, last_bits}
use Rattle.wasm_types_decoding.specs.Numbers.{signed_of, IsWithin, EndsSigned}
use Rattle.wasm_types_decoding.proofs.LebGroups.{low_bits, scaled, scaled_next, joins}

-- ---- seven bits

seven_low : (b : ℕ) → b < 64 → seven_bits b ≡ pos b
seven_low b lt = let c : ltb b 64 ≡ true = lt-ltb _ _ lt in rw c refl

seven_high : (b : ℕ) → 64 ≤ b → seven_bits b ≡ pos b -ℤ pos 128
seven_high b le = let c : ltb b 64 ≡ false = le-ltb _ _ le in rw c refl

below_zero : (b : ℕ) → b < 128 → pos b -ℤ pos 128 ≡ negsuc (127 - b)
below_zero b lt = omega (arith, ints)

pub seven_within : (b : ℕ) → b < 128 → IsWithin 6 (seven_bits b)
seven_within b lt = elim (cases_lt b 64) [
  | inl low ↦ rw (seven_low b low) (omega arith)
  | inr high ↦ rw (seven_high b high, below_zero b lt) (omega arith)
]

-- r of the seven bits are enough where the byte ends the number with its sign
last_within : (r b : ℕ) → 0 < r → r ≤ 7 → EndsSigned r b → IsWithin (r - 1) (seven_bits b)
last_within r b some few (inl lt) =
    let half : 2 ^ (r - 1) ≤ 2 ^ 6 = pow_mono {i = r - 1} {j = 6} (omega arith) in
    rw (seven_low b (omega arith)) lt
last_within r b some few (inr h) =
    let half : 2 ^ (r - 1) ≤ 2 ^ 6 = pow_mono {i = r - 1} {j = 6} (omega arith) in
    let z = h.0 in let y = h.1 in
    rw (seven_high b (omega arith), below_zero b h.1) (omega arith)

pub fits_64 : (k : ℕ) (v : ℤ) → k ≤ 63 → IsWithin k v → FitsSigned w64 v
fits_64 k (pos n) le h = record { sfits = omega (arith, pow_mono {i = k} {j = 63} le) }
fits_64 k (negsuc n) le h = record { sfits = omega (arith, pow_mono {i = k} {j = 63} le) }

pub fits_32 : (k : ℕ) (v : ℤ) → k ≤ 31 → IsWithin k v → FitsSigned w32 v
fits_32 k (pos n) le h = record { sfits = omega (arith, pow_mono {i = k} {j = 31} le) }
fits_32 k (negsuc n) le h = record { sfits = omega (arith, pow_mono {i = k} {j = 31} le) }

-- ---- one byte

module _ (r : ℕ) (s t : State) (b : ℕ) (e : byte s ≡ Done b t) where
  small : (k : ℕ) → b < 128 → signed (suc k) r s ≡ Done (seven_bits b) t
  unfolding signed
  small k lt = let c : ltb b 128 ≡ true = lt-ltb _ _ lt in rw (e, c) refl

  large : (k : ℕ) → 128 ≤ b → signed (suc k) r s ≡ continue_with (signed k r t) (λ m. pure (pos 128 *ℤ m +ℤ pos (b - 128)))
  unfolding signed
  large k le = let c : ltb b 128 ≡ false = le-ltb _ _ le in rw (e, c) refl

  last : 0 < r → r ≤ 7 → EndsSigned r b → signed zero r s ≡ Done (seven_bits b) t
  unfolding signed last_bits
  last some few (inl lt) =
      let half : 2 ^ (r - 1) ≤ 2 ^ 6 = pow_mono {i = r - 1} {j = 6} (omega arith) in
      let c : ltb b (2 ^ (r - 1)) ≡ true = lt-ltb _ _ lt in
      let v : seven_bits b ≡ pos b = seven_low b (omega arith) in
      rw (e, c, v) refl
  last some few (inr h) =
      let half : 2 ^ (r - 1) ≤ 2 ^ 6 = pow_mono {i = r - 1} {j = 6} (omega arith) in
      let from : 2 ^ 7 - 2 ^ (r - 1) ≤ b = h.0 in
      let c : ltb b (2 ^ (r - 1)) ≡ false = le-ltb _ _ (omega arith) in
      let d : ltb b (128 - 2 ^ (r - 1)) ≡ false = le-ltb _ _ from in
      let f : ltb b 128 ≡ true = lt-ltb _ _ h.1 in
      let high : ltb b 64 ≡ false = le-ltb _ _ (omega arith) in
      rw (e, c, d, f, high) refl

  no_last : (EndsSigned r b → ⊥) → signed zero r s ≡ Fault Other (t.place - 1)
  unfolding signed last_bits
  no_last none = elim (cases_lt b (2 ^ (r - 1))) [
    | inl lt ↦ absurd (none (inl lt))
    | inr ge ↦
        let c : ltb b (2 ^ (r - 1)) ≡ false = le-ltb _ _ ge in
        elim (cases_lt b (128 - 2 ^ (r - 1))) [
          | inl lt ↦ let d : ltb b (128 - 2 ^ (r - 1)) ≡ true = lt-ltb _ _ lt in rw (e, c, d) refl
          | inr ge' ↦
              let d : ltb b (128 - 2 ^ (r - 1)) ≡ false = le-ltb _ _ ge' in
              elim (cases_lt b 128) [
                | inl lt ↦ absurd (none (inr (ge', lt)))
                | inr ge'' ↦ let f : ltb b 128 ≡ false = le-ltb _ _ ge'' in rw (e, c, d, f) refl
              ]
        ]
  ]

ends_short : (k r p h : ℕ) (s : State) → byte s ≡ Short p h → signed k r s ≡ Short p h
unfolding signed
ends_short zero r p h s e = rw e refl
ends_short (suc k) r p h s e = rw e refl

-- ---- a high part and a low part

-- scale * m + low, for a low part below the scale
abbrev pub placed : ℕ → ℕ → ℤ → ℤ
placed scale low (pos a) = pos (scale * a + low)
placed scale low (negsuc a) = negsuc (scale * suc a - suc low)

placed_none : (m : ℤ) → placed 1 0 m ≡ m
placed_none (pos a) = ap pos (omega arith)
placed_none (negsuc a) = ap negsuc (omega arith)

lowered : (a c : ℕ) → c < 128 → pos 128 *ℤ negsuc a +ℤ pos c ≡ negsuc (128 * suc a - suc c)
lowered a c lt = omega (arith, ints)

placed_twice : (scale low c : ℕ) (m : ℤ) → low < scale → c < 128 → placed scale low (pos 128 *ℤ m +ℤ pos c) ≡ placed (scale * 128) (c * scale + low) m
placed_twice scale low c (pos a) lt small = ap pos (omega arith)
placed_twice scale low c (negsuc a) lt small =
    let d : 128 * suc a - suc c + suc c ≡ 128 * suc a = omega arith in
    let e : scale * (128 * suc a - suc c + suc c) ≡ scale * (128 * suc a) = ap (λ (n : ℕ). scale * n) d in
    let f : scale * (128 * suc a - suc c + suc c) ≡ scale * (128 * suc a - suc c) + scale * suc c = mul-add scale (128 * suc a - suc c) (suc c) in
    rw (lowered a c small) (ap negsuc (omega arith))

-- a word with its highest bit
at_sign : (k n : ℕ) → n ≡ suc k → n ≤ 2 ^ 63 → cast_signed w64 (18446744073709551616 - n) ≡ negsuc k
at_sign k n e le =
    let c : ltb (18446744073709551616 - n) (2 ^ 63) ≡ false = le-ltb _ _ (omega arith) in
    rw c (ap negsuc (omega arith))

-- the machine's word for it
module _ (e shift low : ℕ) (room : e + shift ≤ 63) (below : low < 2 ^ shift) where
  word_high : (a : ℕ) → a < 2 ^ e → cast_signed w64 (bit_or low (a * 2 ^ shift % 18446744073709551616)) ≡ pos (2 ^ shift * a + low)
  word_high a lt =
      let whole = scaled a e shift 63 low lt room below in
      let j : bit_or low (a * 2 ^ shift % 18446744073709551616) ≡ a * 2 ^ shift + low = joins low a shift below (omega arith) in
      rw j (to_z_pos w64 (a * 2 ^ shift + low) whole ∙ ap pos (omega arith))

  word_low : (a : ℕ) → a < 2 ^ e → cast_signed w64 (bit_or low ((18446744073709551616 - suc a) * 2 ^ shift % 18446744073709551616)) ≡ negsuc (2 ^ shift * suc a - suc low)
  word_low a lt =
      let big : suc a * 2 ^ shift ≤ 2 ^ 63 = scaled_next a e shift 63 lt room in
      let some : 0 < 2 ^ shift = pow_pos shift in
      let x : 18446744073709551616 - suc a + suc a ≡ 18446744073709551616 = omega (arith, pow_mono {i = e} {j = 63} (omega arith)) in
      let x-all : (18446744073709551616 - suc a) * 2 ^ shift + suc a * 2 ^ shift ≡ 18446744073709551616 * 2 ^ shift =
      sym (add-mul (18446744073709551616 - suc a) (suc a) (2 ^ shift)) ∙ ap (λ (n : ℕ). n * 2 ^ shift) x in
      let y : 2 ^ (64 - shift) - suc a + suc a ≡ 2 ^ (64 - shift) = omega (arith, pow_mono {i = e} {j = 64 - shift} (omega arith)) in
      let whole : 2 ^ (64 - shift) * 2 ^ shift ≡ 2 ^ 64 = (let q : 64 - shift + shift ≡ 64 = omega arith in sym (pow-add 2 (64 - shift) shift) ∙ ap (λ (n : ℕ). 2 ^ n) q) in
      let y-all : (2 ^ (64 - shift) - suc a) * 2 ^ shift + suc a * 2 ^ shift ≡ 2 ^ 64 = sym (add-mul (2 ^ (64 - shift) - suc a) (suc a) (2 ^ shift))
      ∙ ap (λ (n : ℕ). n * 2 ^ shift) y ∙ whole in
      let next : suc a * 2 ^ shift ≡ a * 2 ^ shift + 2 ^ shift = suc-mul a (2 ^ shift) in
      let word : (18446744073709551616 - suc a) * 2 ^ shift % 18446744073709551616 ≡ (2 ^ (64 - shift) - suc a) * 2 ^ shift = omega arith in
      let j : bit_or low ((18446744073709551616 - suc a) * 2 ^ shift % 18446744073709551616) ≡ (2 ^ (64 - shift) - suc a) * 2 ^ shift + low =
      rw word (or_shifted_r (2 ^ (64 - shift) - suc a) shift low below) in
      let n : (2 ^ (64 - shift) - suc a) * 2 ^ shift + low ≡ 18446744073709551616 - (2 ^ shift * suc a - low) = omega arith in
      rw (j, n) (at_sign (2 ^ shift * suc a - suc low) (2 ^ shift * suc a - low) (omega arith) (omega arith))

  pub word_is : (m : ℤ) → IsWithin e m → cast_signed w64 (bit_or low (cast_unsigned w64 m * 2 ^ shift % 18446744073709551616)) ≡ placed (2 ^ shift) low m
  word_is (pos a) h = word_high a h
  word_is (negsuc a) h = word_low a h

pub placed_within : (e shift low : ℕ) (m : ℤ) (bits : ℕ) → e + shift ≤ bits → low < 2 ^ shift → IsWithin e m → IsWithin bits (placed (2 ^ shift) low m)
placed_within e shift low (pos a) bits le lt h = let p = scaled a e shift bits low h le lt in omega arith
placed_within e shift low (negsuc a) bits le lt h = let p = scaled_next a e shift bits h le in omega (arith, pow_pos bits)

-- ---- the loop

-- the number, once its low part is read
abbrev pub joined : ℕ → ℕ → Outcome ℤ → Outcome ℤ
joined low scale o = continue_with o (λ m. pure (placed scale low m))

-- so many more groups may come, and what they give with the low part is the answer
pub record Remains (bits shift low : ℕ) (s : State) (total : Outcome ℤ) : Type 0 where
  pub groups : ℕ
  pub last_bits : ℕ
  pub sizes : 7 * groups + last_bits + shift ≡ bits
  pub some : 0 < last_bits
  pub few : last_bits ≤ 7
  pub below : low < 2 ^ shift
  pub answer : joined low (2 ^ shift) (signed groups last_bits s) ≡ total

joined_none : (o : Outcome ℤ) → joined 0 1 o ≡ o
joined_none (Done m t) = ap (λ (n : ℤ). Done n t) (placed_none m)
joined_none (Short p h) = refl
joined_none (Fault k p) = refl

pub begins : (bits : ℕ) (s : State) → 0 < bits → Remains bits 0 0 s (signed_of bits s)
begins bits s some = record {
  groups = (bits - 1) / 7;
  last_bits = (bits - 1) % 7 + 1;
  sizes = omega arith;
  some = omega arith;
  few = omega arith;
  below = omega arith;
  answer = joined_none _;
}

-- the last byte's bits are a number's
abbrev pub FitsThere : ℕ → ℕ → ℕ → Type 0
FitsThere bits shift b = (shift + 7 < bits) ⊎ EndsSigned (bits - shift) b

-- the byte that ends the number has nothing above its seven bits
pub ends_low : (bits shift b : ℕ) → FitsThere bits shift b → (bits ≤ shift + 7) ⊎ (b < 128) → b < 128
ends_low bits shift b f (inr lt) = lt
ends_low bits shift b (inl more) (inl le) = absurd (omega arith)
ends_low bits shift b (inr (inl lt)) (inl le) = omega (arith, pow_mono {i = bits - shift - 1} {j = 7} (omega arith))
ends_low bits shift b (inr (inr h)) (inl le) = h.1

rejoined : (low scale c : ℕ) (o : Outcome ℤ) → low < scale → c < 128
    → joined low scale (continue_with o (λ m. pure (pos 128 *ℤ m +ℤ pos c))) ≡ joined (c * scale + low) (scale * 128) o
rejoined low scale c (Done m t) lt small = ap (λ (n : ℤ). Done n t) (placed_twice scale low c m lt small)
rejoined low scale c (Short p h) lt small = refl
rejoined low scale c (Fault k p) lt small = refl

module _ (bits shift low : ℕ) (s : State) (total : Outcome ℤ) (before : Remains bits shift low s total) (room : bits ≤ 64) where
  pub stops : (p : ℕ) → byte s ≡ Short p 1 → total ≡ Short p 1
  stops p e = let u = ends_short before.groups before.last_bits p 1 s e in sym before.answer ∙ rw u refl

  module _ (t : State) (b : ℕ) (e : byte s ≡ Done b t) where
    left : before.groups ≡ 0 → bits - shift ≡ before.last_bits
    left z = omega (arith, before.sizes)

    ends_at : (g : ℕ) → 7 * g + before.last_bits + shift ≡ bits → FitsThere bits shift b → b < 128
        → (signed g before.last_bits s ≡ Done (seven_bits b) t) × ((k : ℕ) × (k + shift + 1 ≤ bits) × IsWithin k (seven_bits b))
    ends_at zero z (inl more) lt = absurd (omega (arith, before.few))
    ends_at zero z (inr f) lt =
        let r : bits - shift ≡ before.last_bits = omega arith in
        let f' : EndsSigned before.last_bits b = subst (λ (n : ℕ). EndsSigned n b) r f in
        (last before.last_bits s t b e before.some before.few f', (before.last_bits - 1, omega (arith, before.some), last_within before.last_bits b before.some before.few f'))
    ends_at (suc g) z f lt = (small before.last_bits s t b e g lt, (6, omega (arith, before.some), seven_within b lt))

    -- the number is whole
    pub ends : FitsThere bits shift b → b < 128 → (v : ℤ) → v ≡ seven_bits b → (word : ℕ) → word ≡ cast_unsigned w64 (to_z w64 (of_z w64 v)) →
        (w : ℤ) → w ≡ cast_signed w64 (bit_or low (word * 2 ^ shift % 18446744073709551616)) →
        (total ≡ Done (to_z w64 (of_z w64 w)) t) × IsWithin (bits - 1) (to_z w64 (of_z w64 w))
    ends f lt v v-is word word-is w w-is =
        let u = ends_at before.groups before.sizes f lt in
        let k = u.1.0 in
        let in_word : FitsSigned w64 (seven_bits b) = fits_64 6 (seven_bits b) (omega arith) (seven_within b lt) in
        let high : word ≡ cast_unsigned w64 (seven_bits b) = word-is ∙ ap (λ (z : ℤ). cast_unsigned w64 (to_z w64 (of_z w64 z))) v-is
        ∙ ap (λ (z : ℤ). cast_unsigned w64 z) (to_z-of_z w64 (seven_bits b) in_word) in
        let j : w ≡ placed (2 ^ shift) low (seven_bits b) = w-is ∙ rw high (word_is k shift low (omega (arith, u.1.1)) before.below (seven_bits b) u.1.2) in
        let p : IsWithin (bits - 1) (placed (2 ^ shift) low (seven_bits b)) = placed_within k shift low (seven_bits b) (bits - 1) (omega (arith, u.1.1)) before.below u.1.2 in
        let again : to_z w64 (of_z w64 (placed (2 ^ shift) low (seven_bits b))) ≡ placed (2 ^ shift) low (seven_bits b) = to_z-of_z w64 _ (fits_64 (bits - 1) _ (omega arith) p) in
        rw (j, again) (sym before.answer ∙ rw u.0 refl, p)

    -- the last byte is no number's
    pub refused : (p : ℕ) → t.place ≡ p + 1 → bits ≤ shift + 7 → (EndsSigned (bits - shift) b → ⊥) → total ≡ Fault Other p
    refused p at_p le none =
        let z : before.groups ≡ 0 = omega (arith, before.sizes, before.some) in
        let r : bits - shift ≡ before.last_bits = left z in
        let there : t.place - 1 ≡ p = omega arith in
        let u : signed before.groups before.last_bits s ≡ Fault Other (t.place - 1) = rw z (no_last before.last_bits s t b e (subst (λ (n : ℕ). EndsSigned n b → ⊥) r none)) in
        sym before.answer ∙ rw (u, there) refl

    next_at : (g : ℕ) → 7 * g + before.last_bits + shift ≡ bits → FitsThere bits shift b → 128 ≤ b → (k : ℕ) × (g ≡ suc k)
    next_at zero z (inl more) le = absurd (omega (arith, before.few))
    next_at zero z (inr (inl f)) le = absurd (omega (arith, pow_mono {i = bits - shift - 1} {j = 7} (omega (arith, before.few))))
    next_at zero z (inr (inr f)) le = absurd (omega (arith, f.1))
    next_at (suc k) z f le = (k, refl)

    -- one group more
    pub goes : b < 256 → FitsThere bits shift b → 128 ≤ b → Remains bits (shift + 7) (bit_or low (bit_and b 127 * 2 ^ shift % 18446744073709551616)) t total
    goes is_byte f le =
        let c : bit_and b 127 ≡ b - 128 = rw low_bits (omega arith) in
        let k = next_at before.groups before.sizes f le in
        let whole = scaled (b - 128) 7 shift (shift + 7) low (omega arith) (omega arith) before.below in
        let in_64 : (b - 128) * 2 ^ shift < 2 ^ 64 = omega (arith, pow_mono {i = shift + 7} {j = 64} (omega (arith, before.sizes, k.1))) in
        let j : bit_or low (bit_and b 127 * 2 ^ shift % 18446744073709551616) ≡ (b - 128) * 2 ^ shift + low = rw c (joins low (b - 128) shift before.below in_64) in
        let scale : 2 ^ (shift + 7) ≡ 2 ^ shift * 128 = pow-add 2 shift 7 in
        let at_k : joined low (2 ^ shift) (signed (suc k.0) before.last_bits s) ≡ total = rw k.1 at before.answer in
        let u = large before.last_bits s t b e k.0 le in
        record {
          groups = k.0;
          last_bits = before.last_bits;
          sizes = omega (arith, before.sizes, k.1);
          some = before.some;
          few = before.few;
          below = rw j whole;
          answer = rw (j, scale) (sym (rejoined low (2 ^ shift) (b - 128) (signed k.0 before.last_bits t) before.below (omega arith)) ∙ rw u at at_k);
        }
