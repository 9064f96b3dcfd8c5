-- The loop over the groups of an unsigned number, of any width.
use Rattle.std.proofs.Common.{◌≡◌, ℕ, zero, suc, ◌+◌, ◌-◌, ◌*◌, ◌/◌, ◌%◌, ◌^◌, ◌<◌, ◌≤◌, refl, sym, ap, ◌∙◌, arith, ltb, true, false, ◌⊎◌, inl, inr, pow-add, pow_mono}
use Rattle.std.specs.Prelude.{bit_and, bit_or}
use Rattle.std.proofs.lemmas.Bool.{le-ltb, lt-ltb}
use Rattle.std.proofs.Math.Nat.{mod-eq_of_lt}
use Rattle.wasm_types_decoding.specs.declared.Refusal.TheVariants.{Other}
use Rattle.wasm_types_decoding.specs.Decoder.{State, Outcome, Done, Short, Fault, continue_with, pure, byte}
use Rattle.wasm_types_decoding.specs.Leb.{unsigned}
use Rattle.wasm_types_decoding.specs.Numbers.{unsigned_of}
use Rattle.wasm_types_decoding.proofs.LebGroups.{one_shl, low_bits, scaled, joins}

-- ---- one byte

module _ (r : ℕ) (s t : State) (b : ℕ) (e : byte s ≡ Done b t) where
  small : (k : ℕ) → b < 128 → unsigned (suc k) r s ≡ Done b t
  unfolding unsigned
  small k lt = let c : ltb b 128 ≡ true = lt-ltb _ _ lt in rw (e, c) refl

  large : (k : ℕ) → 128 ≤ b → unsigned (suc k) r s ≡ continue_with (unsigned k r t) (λ m. pure (128 * m + (b - 128)))
  unfolding unsigned
  large k le = let c : ltb b 128 ≡ false = le-ltb _ _ le in rw (e, c) refl

  last : b < 2 ^ r → unsigned zero r s ≡ Done b t
  unfolding unsigned
  last lt = let c : ltb b (2 ^ r) ≡ true = lt-ltb _ _ lt in rw (e, c) refl

  too_large : 2 ^ r ≤ b → unsigned zero r s ≡ Fault Other (t.place - 1)
  unfolding unsigned
  too_large le = let c : ltb b (2 ^ r) ≡ false = le-ltb _ _ le in rw (e, c) refl

ends_short : (k r p h : ℕ) (s : State) → byte s ≡ Short p h → unsigned k r s ≡ Short p h
unfolding unsigned
ends_short zero r p h s e = rw e refl
ends_short (suc k) r p h s e = rw e refl

-- ---- the loop

-- the number, once its low part is read
abbrev pub joined : ℕ → ℕ → Outcome ℕ → Outcome ℕ
joined low scale o = continue_with o (λ m. pure (scale * m + low))

-- so many more groups may come, and what they give with the low part is the answer
pub record Remains (bits shift low : ℕ) (s : State) (total : Outcome ℕ) : Type 0 where
  pub groups : ℕ
  pub last_bits : ℕ
  pub sizes : 7 * groups + last_bits + shift ≡ bits
  pub some : 0 < last_bits
  pub few : last_bits ≤ 7
  pub below : low < 2 ^ shift
  pub answer : joined low (2 ^ shift) (unsigned groups last_bits s) ≡ total

joined_none : (o : Outcome ℕ) → joined 0 1 o ≡ o
joined_none (Done m t) = ap (λ (n : ℕ). Done n t) (omega arith)
joined_none (Short p h) = refl
joined_none (Fault k p) = refl

pub begins : (bits : ℕ) (s : State) → 0 < bits → Remains bits 0 0 s (unsigned_of bits s)
begins bits s some = record {
  groups = (bits - 1) / 7;
  last_bits = (bits - 1) % 7 + 1;
  sizes = omega arith;
  some = omega arith;
  few = omega arith;
  below = omega arith;
  answer = joined_none _;
}

-- the last byte's bits have room
abbrev pub FitsThere : ℕ → ℕ → ℕ → Type 0
FitsThere bits shift b = (shift + 7 < bits) ⊎ (b < 2 ^ (bits - shift))

pub fits_last : (bits shift b : ℕ) → bits ≤ shift + 7 → b < 1 * 2 ^ (bits - shift) % 256 → FitsThere bits shift b
fits_last bits shift b le lt = inr (rw (one_shl (bits - shift) (omega arith)) at lt)

-- the byte that ends the number has nothing above its seven bits
pub ends_low : (bits shift b : ℕ) → FitsThere bits shift b → (bits ≤ shift + 7) ⊎ (b < 128) → b < 128
ends_low bits shift b f (inr lt) = lt
ends_low bits shift b (inl more) (inl le) = absurd (omega arith)
ends_low bits shift b (inr lt) (inl le) = omega (arith, pow_mono {i = bits - shift} {j = 7} (omega arith))

rejoined : (low scale c : ℕ) (o : Outcome ℕ) → joined low scale (continue_with o (λ m. pure (128 * m + c))) ≡ joined (c * scale + low) (scale * 128) o
rejoined low scale c (Done m t) = ap (λ (n : ℕ). Done n t) (omega arith)
rejoined low scale c (Short p h) = refl
rejoined low scale c (Fault k p) = refl

module _ (bits shift low : ℕ) (s : State) (total : Outcome ℕ) (before : Remains bits shift low s total) (room : bits ≤ 64) where
  pub stops : (p : ℕ) → byte s ≡ Short p 1 → total ≡ Short p 1
  stops p e = let u = ends_short before.groups before.last_bits p 1 s e in sym before.answer ∙ rw u refl

  module _ (t : State) (b : ℕ) (e : byte s ≡ Done b t) where
    -- a byte with its bits where they count
    fits : (g : ℕ) → 7 * g + before.last_bits + shift ≡ bits → FitsThere bits shift b → (x : ℕ) → x ≤ b → x < 128 → x * 2 ^ shift + low < 2 ^ bits
    fits zero z (inl more) x le lt = absurd (omega (arith, before.few))
    fits zero z (inr f) x le lt = scaled x (bits - shift) shift bits low (omega arith) (omega (arith, before.some)) before.below
    fits (suc g) z f x le lt = scaled x 7 shift bits low lt (omega (arith, before.some)) before.below

    in_64 : (x : ℕ) → x * 2 ^ shift + low < 2 ^ bits → x * 2 ^ shift < 2 ^ 64
    in_64 x lt = omega (arith, pow_mono {i = bits} {j = 64} room)

    ends_at : (g : ℕ) → 7 * g + before.last_bits + shift ≡ bits → FitsThere bits shift b → b < 128 → unsigned g before.last_bits s ≡ Done b t
    ends_at zero z (inl more) lt = absurd (omega (arith, before.few))
    ends_at zero z (inr f) lt = let r : bits - shift ≡ before.last_bits = omega arith in last before.last_bits s t b e (rw r at f)
    ends_at (suc g) z f lt = small before.last_bits s t b e g lt

    -- the number is whole
    pub ends : FitsThere bits shift b → b < 128 → (total ≡ Done (bit_or low (bit_and b 127 * 2 ^ shift % 18446744073709551616)) t)
        × (bit_or low (bit_and b 127 * 2 ^ shift % 18446744073709551616) < 2 ^ bits)
    ends f lt =
        let whole = fits before.groups before.sizes f b (omega arith) lt in
        let same : bit_and b 127 ≡ b = low_bits b ∙ mod-eq_of_lt lt in
        let j : bit_or low (bit_and b 127 * 2 ^ shift % 18446744073709551616) ≡ b * 2 ^ shift + low = rw same (joins low b shift before.below (in_64 b whole)) in
        let u = ends_at before.groups before.sizes f lt in
        (sym before.answer ∙ rw (u, j) (ap (λ (n : ℕ). Done n t) (omega arith)), rw j whole)

    -- the last byte is no number's
    pub refused : (p : ℕ) → t.place ≡ p + 1 → bits ≤ shift + 7 → 1 * 2 ^ (bits - shift) % 256 ≤ b → total ≡ Fault Other p
    refused p at_p le no_room =
        let many : 2 ^ (bits - shift) ≤ b = rw (one_shl (bits - shift) (omega arith)) at no_room in
        let there : t.place - 1 ≡ p = omega arith in
        let z : before.groups ≡ 0 = omega (arith, before.sizes, before.some) in
        let r : bits - shift ≡ before.last_bits = omega (arith, before.sizes) in
        let u : unsigned before.groups before.last_bits s ≡ Fault Other (t.place - 1) = rw z (too_large before.last_bits s t b e (rw r at many)) in
        sym before.answer ∙ rw (u, there) refl

    next_at : (g : ℕ) → 7 * g + before.last_bits + shift ≡ bits → FitsThere bits shift b → 128 ≤ b → (k : ℕ) × (g ≡ suc k)
    next_at zero z (inl more) le = absurd (omega (arith, before.few))
    next_at zero z (inr f) le = absurd (omega (arith, pow_mono {i = bits - shift} {j = 7} (omega (arith, before.few))))
    next_at (suc k) z f le = (k, refl)

    -- one group more
    pub goes : b < 256 → FitsThere bits shift b → 128 ≤ b → Remains bits (shift + 7) (bit_or low (bit_and b 127 * 2 ^ shift % 18446744073709551616)) t total
    goes is_byte f le =
        let c : bit_and b 127 ≡ b - 128 = rw low_bits (omega arith) in
        let whole = fits before.groups before.sizes f (b - 128) (omega arith) (omega arith) in
        let j : bit_or low (bit_and b 127 * 2 ^ shift % 18446744073709551616) ≡ (b - 128) * 2 ^ shift + low =
        rw c (joins low (b - 128) shift before.below (in_64 (b - 128) whole)) in
        let k = next_at before.groups before.sizes f le in
        let scale : 2 ^ (shift + 7) ≡ 2 ^ shift * 128 = pow-add 2 shift 7 in
        let at_k : joined low (2 ^ shift) (unsigned (suc k.0) before.last_bits s) ≡ total = rw k.1 at before.answer in
        let u = large before.last_bits s t b e k.0 le in
        record {
          groups = k.0;
          last_bits = before.last_bits;
          sizes = omega (arith, before.sizes, k.1);
          some = before.some;
          few = before.few;
          below = rw j (scaled (b - 128) 7 shift (shift + 7) low (omega arith) (omega arith) before.below);
          answer = rw (j, scale) (sym (rejoined low (2 ^ shift) (b - 128) (unsigned k.0 before.last_bits t)) ∙ rw u at at_k);
        }
