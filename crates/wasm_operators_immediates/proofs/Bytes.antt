-- Numbers of 128 bits and their bytes, the lowest first.
use Rattle.std.proofs.Common.{◌≡◌, List, [], ◌∷◌, length, ℕ, zero, suc, ◌+◌, ◌*◌, ◌/◌, ◌%◌, ◌^◌, ◌<◌, refl, sym, ap, ◌∙◌, arith}
use Rattle.std.proofs.Math.Nat as nat
use Rattle.std.specs.List.{All}
use Rattle.std.specs.Int.{bytes_low_first, w128, to_le_bytes, from_le_bytes, byte_at, byte_worth, sum_through}

-- one more byte of a quotient
split : (q p : ℕ) → q % 256 * p + q / 256 * (256 * p) ≡ q * p
split q p =
    let a : q / 256 * (256 * p) ≡ q / 256 * 256 * p = sym (nat.mul_assoc (q / 256) 256 p) in
    let b : q % 256 * p + q / 256 * 256 * p ≡ (q % 256 + q / 256 * 256) * p = sym (nat.add-mul (q % 256) (q / 256 * 256) p) in
    let c : q % 256 + q / 256 * 256 ≡ q = omega arith in
    ap (λ (z : ℕ). q % 256 * p + z) a ∙ b ∙ ap (λ (z : ℕ). z * p) c

-- the lowest bytes, and what is above them
low : (n k : ℕ) → sum_through (λ i. byte_worth i (byte_at i n)) k + n / 256 ^ suc k * 256 ^ suc k ≡ n
low n zero = omega arith
low n (suc k) =
    let p = 256 ^ suc k in
    let q = n / p in
    let e : 256 ^ suc (suc k) ≡ 256 * p = nat.pow-succ' 256 (suc k) in
    let d : n / 256 ^ suc (suc k) ≡ q / 256 = ap (λ (z : ℕ). n / z) (nat.pow-suc 256 (suc k)) ∙ sym (nat.div-div-eq-div-mul n p 256) in
    let s = sum_through (λ i. byte_worth i (byte_at i n)) k in
    rw (d, e) (nat.add_assoc s (q % 256 * p) (q / 256 * (256 * p)) ∙ ap (λ (z : ℕ). s + z) (split q p) ∙ low n k)

none_above : (s q p n : ℕ) → q ≡ 0 → s + q * p ≡ n → s ≡ n
none_above s q p n z e =
    let f : q * p ≡ 0 = rw z (nat.zero-mul p) in
    omega (arith, e, f)

pub back_again : (n : ℕ) → n < 2 ^ 128 → from_le_bytes w128 (to_le_bytes w128 n) ≡ n
back_again n h =
    let z : n / 256 ^ 16 ≡ 0 = nat.div-eq_of_lt h in
    none_above (sum_through (λ i. byte_worth i (byte_at i n)) 15) (n / 256 ^ 16) (256 ^ 16) n z (low n 15)

-- the number of bytes, the lowest first
abbrev value : List ℕ → ℕ
value [] = 0
value (b ∷ bs) = b + 256 * value bs

-- without the lowest byte
above : (b m i : ℕ) → b < 256 → byte_at (suc i) (b + 256 * m) ≡ byte_at i m
above b m zero h = omega arith
above b m (suc i) h =
    let e : 256 ^ suc (suc i) ≡ 256 * 256 ^ suc i = nat.pow-succ' 256 (suc i) in
    let d : (b + 256 * m) / 256 ≡ m = omega arith in
    ap (λ (z : ℕ). (b + 256 * m) / z % 256) e ∙ ap (λ (z : ℕ). z % 256) (sym (nat.div-div-eq-div-mul (b + 256 * m) 256 (256 ^ suc i)) ∙ ap (λ (z : ℕ). z / 256 ^ suc i) d)

all_above : (b m i k : ℕ) → b < 256 → bytes_low_first (suc i) k (b + 256 * m) ≡ bytes_low_first i k m
all_above b m i zero h = refl
all_above b m i (suc k) h = let a = above b m i h in let r = all_above b m (suc i) k h in cc

written : (bs : List ℕ) → All (λ b. b < 256) bs → bytes_low_first 0 (length bs) (value bs) ≡ bs
written [] h = refl
written (b ∷ bs) h =
    let first : (b + 256 * value bs) % 256 ≡ b = let low : b < 256 = h 0 0 (omega arith) in omega (arith, low) in
    let rest = all_above b (value bs) 0 (length bs) (h 0 0 (omega arith)) in
    let r = written bs (λ k d lt. h (suc k) d (omega (arith, lt))) in
    let c : bytes_low_first 1 (length bs) (b + 256 * value bs) ≡ bs = rest ∙ r in
    λ i. first i ∷ c i

sixteen : (b0 b1 b2 b3 b4 b5 b6 b7 b8 b9 b10 b11 b12 b13 b14 b15 : ℕ) → from_le_bytes w128
    (b0 ∷ b1 ∷ b2 ∷ b3 ∷ b4 ∷ b5 ∷ b6 ∷ b7 ∷ b8 ∷ b9 ∷ b10 ∷ b11 ∷ b12 ∷ b13 ∷ b14 ∷ b15 ∷ []) ≡ value
    (b0 ∷ b1 ∷ b2 ∷ b3 ∷ b4 ∷ b5 ∷ b6 ∷ b7 ∷ b8 ∷ b9 ∷ b10 ∷ b11 ∷ b12 ∷ b13 ∷ b14 ∷ b15 ∷ [])
sixteen b0 b1 b2 b3 b4 b5 b6 b7 b8 b9 b10 b11 b12 b13 b14 b15 = omega arith

pub bytes_again : (bs : List ℕ) → length bs ≡ 16 → All (λ b. b < 256) bs → to_le_bytes w128 (from_le_bytes w128 bs) ≡ bs
bytes_again (b0 ∷ b1 ∷ b2 ∷ b3 ∷ b4 ∷ b5 ∷ b6 ∷ b7 ∷ b8 ∷ b9 ∷ b10 ∷ b11 ∷ b12 ∷ b13 ∷ b14 ∷ b15 ∷ []) e h = ap (λ n. bytes_low_first 0 16 n)
    (sixteen b0 b1 b2 b3 b4 b5 b6 b7 b8 b9 b10 b11 b12 b13 b14 b15) ∙ written (b0 ∷ b1 ∷ b2 ∷ b3 ∷ b4 ∷ b5 ∷ b6 ∷ b7 ∷ b8 ∷ b9 ∷ b10 ∷ b11 ∷ b12 ∷ b13 ∷ b14 ∷ b15 ∷ []) h
bytes_again bs e h = absurd (omega arith)
