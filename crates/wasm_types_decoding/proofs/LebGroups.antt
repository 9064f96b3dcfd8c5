-- What both loops over the groups of a number take from a byte and its offset.
use Rattle.std.proofs.Common.{◌≡◌, ℕ, suc, ◌+◌, ◌-◌, ◌*◌, ◌%◌, ◌^◌, ◌<◌, ◌≤◌, List, [], ◌∷◌, length, take, drop, get_or, refl, sym, ap, arith}
use Rattle.std.proofs.Common.{pow-add, pow_mono, mul-le-mul_right, suc-mul, add-one}
use Rattle.std.specs.Prelude.{bit_and, bit_or}
use Rattle.std.specs.Int.Bits.{or_shifted_r}
use Rattle.std.proofs.Math.Seq.{drop-cons, take_all}
use Rattle.std.proofs.lemmas.List.{length-drop}
use Rattle.std.proofs.Math.Nat.{mod-eq_of_lt}
use Rattle.std.proofs.lemmas.Grind.{and_numeral}
use Rattle.wasm_types_decoding.specs.Decoder.{State, Done, Short, byte}
use Rattle.wasm_types_decoding.specs.Numbers.{behind}

-- ---- offsets

pub behind_none : (s : State) → behind 0 s ≡ s
behind_none s = let e : s.place + 0 ≡ s.place = omega arith in ap (λ (p : ℕ). record s { place = p }) e

byte_there : (s : State) (i : ℕ) → i < length s.rest → byte (behind i s) ≡ Done (get_or s.rest i 0) (behind (i + 1) s)
byte_there s i lt = let e : drop i s.rest ≡ get_or s.rest i 0 ∷ drop (i + 1) s.rest = rw (add-one, drop-cons s.rest i 0) refl in
    let p : s.place + i + 1 ≡ s.place + (i + 1) = omega arith in rw (e, p) refl

pub byte_here : (s : State) (rest : List ℕ) (i : ℕ) → rest ≡ s.rest → i < length rest → byte (behind i s) ≡ Done (get_or rest i 0) (behind (i + 1) s)
byte_here s rest i e lt = rw e (byte_there s i (omega (arith, ap length e)))

no_byte_there : (s : State) (i : ℕ) → length s.rest ≤ i → byte (behind i s) ≡ Short (s.place + i) 1
no_byte_there s i le = go (drop i s.rest) refl
  where
    go : (r : List ℕ) → drop i s.rest ≡ r → byte (behind i s) ≡ Short (s.place + i) 1
    go [] e = rw e refl
    go (b ∷ r) e = absurd (omega (arith, ap length e, length-drop i s.rest))

pub no_byte_here : (s : State) (rest : List ℕ) (i p : ℕ) → rest ≡ s.rest → length rest ≤ i → p ≡ s.place + i → byte (behind i s) ≡ Short p 1
no_byte_here s rest i p e le q = rw q (no_byte_there s i (omega (arith, ap length e)))

-- what a slice from an offset on holds

pub left_is : (text : List ℕ) (i : ℕ) → i ≤ length text → take (length text - i) (drop i text) ≡ drop i text
left_is text i le = take_all (length text - i) (drop i text) (omega (arith, length-drop i text))

pub inside_left : (text : List ℕ) (i n : ℕ) → i ≤ length text → n < length (take (length text - i) (drop i text)) → i + n < length text
inside_left text i n le lt = omega (arith, lt, ap length (left_is text i le), length-drop i text)

-- ---- a group

pub one_shl : (k : ℕ) → k ≤ 7 → 1 * 2 ^ k % 256 ≡ 2 ^ k
one_shl k le = let p : 2 ^ k ≤ 2 ^ 7 = pow_mono le in let q : 1 * 2 ^ k ≡ 2 ^ k = omega arith in rw q (mod-eq_of_lt (omega arith))

pub low_bits : (b : ℕ) → bit_and b 127 ≡ b % 128
low_bits b = and_numeral b 126 refl

pub scaled_next : (x e shift bits : ℕ) → x < 2 ^ e → e + shift ≤ bits → suc x * 2 ^ shift ≤ 2 ^ bits
scaled_next x e shift bits lt le =
    let above : suc x * 2 ^ shift ≤ 2 ^ e * 2 ^ shift = mul-le-mul_right (2 ^ shift) lt in
    let room : 2 ^ e * 2 ^ shift ≤ 2 ^ bits = rw (← pow-add 2 e shift) (pow_mono le) in
    omega arith

-- what is below 2 ^ e, above the low bits, stays below 2 ^ bits
pub scaled : (x e shift bits low : ℕ) → x < 2 ^ e → e + shift ≤ bits → low < 2 ^ shift → x * 2 ^ shift + low < 2 ^ bits
scaled x e shift bits low lt le small = omega (arith, scaled_next x e shift bits lt le, suc-mul x (2 ^ shift))

pub joins : (low x shift : ℕ) → low < 2 ^ shift → x * 2 ^ shift < 2 ^ 64 → bit_or low (x * 2 ^ shift % 18446744073709551616) ≡ x * 2 ^ shift + low
joins low x shift lt fits = rw (mod-eq_of_lt fits) (or_shifted_r x shift low lt)
