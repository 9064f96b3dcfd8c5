-- Sets of bits, one bit at a time.
use Rattle.std.proofs.Common.{◌≡◌, ℕ, zero, suc, ◌+◌, ◌-◌, ◌*◌, ◌^◌, ◌<◌, ◌≤◌, ◌&&◌, ◌||◌, min, max, Bool, true, false, cond, not, nat_eq, refl, sym, ap, ◌∙◌, arith}
use Rattle.std.specs.Int.{bit_at, w32}
use Rattle.std.specs.Int.RustNames.{bit_and, bit_or}
use Rattle.std.proofs.lemmas.Bool.{eq-eqb, ne_eqb}
use Rattle.std.proofs.lemmas.Nat.Bits.{bit_at_and, bit_at_or, bit_at_not, bit_at-lt, bit_at-zero, and_pow, same_from_bits}
use Rattle.std.proofs.lemmas.Nat.{pow_pos, or_disjoint, and_le_r}
use Rattle.wasm_types_settings.specs.Features.{has_bit}
use Rattle.bitflags.specs.Sets.{without}
use Rattle.wasm_types_settings.specs.Inflated.{setting}

joined_digits : (a b : ℕ) → a < 2 → b < 2 → nat_eq (max a b) 1 ≡ cond (nat_eq b 1) true (nat_eq a 1)
joined_digits zero zero p q = refl
joined_digits zero (suc zero) p q = refl
joined_digits zero (suc (suc b)) p q = absurd (omega arith)
joined_digits (suc zero) zero p q = refl
joined_digits (suc zero) (suc zero) p q = refl
joined_digits (suc zero) (suc (suc b)) p q = absurd (omega arith)
joined_digits (suc (suc a)) b p q = absurd (omega arith)

cleared_digits : (a b : ℕ) → a < 2 → b < 2 → nat_eq (min a (1 - b)) 1 ≡ cond (nat_eq b 1) false (nat_eq a 1)
cleared_digits zero zero p q = refl
cleared_digits zero (suc zero) p q = refl
cleared_digits zero (suc (suc b)) p q = absurd (omega arith)
cleared_digits (suc zero) zero p q = refl
cleared_digits (suc zero) (suc zero) p q = refl
cleared_digits (suc zero) (suc (suc b)) p q = absurd (omega arith)
cleared_digits (suc (suc a)) b p q = absurd (omega arith)

-- setting the bits of m decides those and keeps the others
pub setting_bit : (v : Bool) (m k bits : ℕ) → m < 2 ^ 32 → k < 32
    → has_bit k (setting v m bits) ≡ cond (has_bit k m) v (has_bit k bits)
unfolding setting
setting_bit true m k bits fits inside =
    ap (λ x. nat_eq x 1) (bit_at_or bits m k) ∙ joined_digits (bit_at bits k) (bit_at m k) (bit_at-lt bits k) (bit_at-lt m k)
setting_bit false m k bits fits inside =
    ap (λ x. nat_eq x 1) (bit_at_and bits (2 ^ 32 - 1 - m) k ∙ ap (min (bit_at bits k)) (bit_at_not w32 m k fits inside))
    ∙ cleared_digits (bit_at bits k) (bit_at m k) (bit_at-lt bits k) (bit_at-lt m k)

-- ---- the operations of sets, at one bit

or_digits : (a b : ℕ) → a < 2 → b < 2 → nat_eq (max a b) 1 ≡ nat_eq a 1 || nat_eq b 1
or_digits zero zero p q = refl
or_digits zero (suc zero) p q = refl
or_digits zero (suc (suc b)) p q = absurd (omega arith)
or_digits (suc zero) zero p q = refl
or_digits (suc zero) (suc zero) p q = refl
or_digits (suc zero) (suc (suc b)) p q = absurd (omega arith)
or_digits (suc (suc a)) b p q = absurd (omega arith)

and_digits : (a b : ℕ) → a < 2 → b < 2 → nat_eq (min a b) 1 ≡ nat_eq a 1 && nat_eq b 1
and_digits zero zero p q = refl
and_digits zero (suc zero) p q = refl
and_digits zero (suc (suc b)) p q = absurd (omega arith)
and_digits (suc zero) zero p q = refl
and_digits (suc zero) (suc zero) p q = refl
and_digits (suc zero) (suc (suc b)) p q = absurd (omega arith)
and_digits (suc (suc a)) b p q = absurd (omega arith)

not_digit : (b : ℕ) → b < 2 → nat_eq (1 - b) 1 ≡ not (nat_eq b 1)
not_digit zero q = refl
not_digit (suc zero) q = refl
not_digit (suc (suc b)) q = absurd (omega arith)

pub or_bit : (k a b : ℕ) → has_bit k (bit_or a b) ≡ has_bit k a || has_bit k b
or_bit k a b = ap (λ x. nat_eq x 1) (bit_at_or a b k) ∙ or_digits (bit_at a k) (bit_at b k) (bit_at-lt a k) (bit_at-lt b k)

pub and_bit : (k a b : ℕ) → has_bit k (bit_and a b) ≡ has_bit k a && has_bit k b
and_bit k a b = ap (λ x. nat_eq x 1) (bit_at_and a b k) ∙ and_digits (bit_at a k) (bit_at b k) (bit_at-lt a k) (bit_at-lt b k)

pub without_bit : (k a b : ℕ) → k < 32 → b < 2 ^ 32 → has_bit k (without 32 a b) ≡ has_bit k a && not (has_bit k b)
without_bit k a b inside fits =
    and_bit k a (2 ^ 32 - 1 - b)
    ∙ ap (λ x. has_bit k a && x) (ap (λ x. nat_eq x 1) (bit_at_not w32 b k fits inside) ∙ not_digit (bit_at b k) (bit_at-lt b k))

-- ---- the test of a mask

digit_test : (d p : ℕ) → d < 2 → 0 < p → nat_eq (d * p) p ≡ nat_eq d 1
digit_test zero p l some = ne_eqb (zero * p) p (λ e. omega arith)
digit_test (suc zero) p l some = eq-eqb (1 * p) p (omega arith)
digit_test (suc (suc d)) p l some = absurd (omega arith)

-- the test of a mask of one bit
pub one_bit : (k n : ℕ) → nat_eq (bit_and n (2 ^ k)) (2 ^ k) ≡ has_bit k n
one_bit k n = ap (λ x. nat_eq x (2 ^ k)) (and_pow n k) ∙ digit_test (bit_at n k) (2 ^ k) (bit_at-lt n k) (pow_pos k)

-- the part of a set in two masks together
and_or : (a m n : ℕ) → bit_and a (bit_or m n) ≡ bit_or (bit_and a m) (bit_and a n)
and_or a m n = same_from_bits _ _ (λ i.
    omega (arith, bit_at_and a (bit_or m n) i, bit_at_or m n i, bit_at_or (bit_and a m) (bit_and a n) i, bit_at_and a m i, bit_at_and a n i))

parts_apart : (a m n : ℕ) → bit_and m n ≡ 0 → bit_and (bit_and a m) (bit_and a n) ≡ 0
parts_apart a m n apart = same_from_bits _ 0 (λ i.
    omega (arith, bit_at_and (bit_and a m) (bit_and a n) i, bit_at_and a m i, bit_at_and a n i, bit_at_and m n i, ap (λ x. bit_at x i) apart, bit_at-zero i))

sum_test : (x y m n : ℕ) → x ≤ m → y ≤ n → nat_eq (x + y) (m + n) ≡ nat_eq x m && nat_eq y n
sum_test x y m n p q = grind arith

-- the test of two masks together is the test of each
pub two_masks : (a m n : ℕ) → bit_and m n ≡ 0 → nat_eq (bit_and a (m + n)) (m + n) ≡ nat_eq (bit_and a m) m && nat_eq (bit_and a n) n
two_masks a m n apart =
    let split : bit_and a (m + n) ≡ bit_and a m + bit_and a n =
    ap (bit_and a) (sym (or_disjoint m n apart)) ∙ and_or a m n ∙ or_disjoint _ _ (parts_apart a m n apart) in
    ap (λ x. nat_eq x (m + n)) split ∙ sum_test (bit_and a m) (bit_and a n) m n (and_le_r a m) (and_le_r a n)

pub two_bits : (j k n : ℕ) → bit_and (2 ^ j) (2 ^ k) ≡ 0 → nat_eq (bit_and n (2 ^ j + 2 ^ k)) (2 ^ j + 2 ^ k) ≡ has_bit j n && has_bit k n
two_bits j k n apart =
    two_masks n (2 ^ j) (2 ^ k) apart ∙ ap (λ x. x && nat_eq (bit_and n (2 ^ k)) (2 ^ k)) (one_bit j n) ∙ ap (λ x. has_bit j n && x) (one_bit k n)
