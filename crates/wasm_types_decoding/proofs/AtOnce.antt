-- Numbers of one and two bytes.
use Rattle.std.proofs.Common.{◌≡◌, ℕ, zero, suc, ◌+◌, ◌-◌, ◌*◌, ◌<◌, ◌≤◌, pos, negsuc, ℤ, ◌+ℤ◌, ◌*ℤ◌, List, [], ◌∷◌, length, drop, get_or, refl, sym, ap, ◌∙◌, arith, to_z, of_z}
use Rattle.std.specs.Int.{w32, w64}
use Rattle.std.proofs.lemmas.Bool.{lt-ltb, le-ltb}
use Rattle.std.proofs.lemmas.Int.{ints, to_z-of_z}
use Rattle.std.proofs.lemmas.List.{length-drop, get_or-drop}
use Rattle.wasm_types_decoding.specs.Decoder.{State, Done, Decoder, byte}
use Rattle.wasm_types_decoding.specs.Leb.{unsigned, signed, seven_bits}
use Rattle.wasm_types_decoding.specs.Numbers.{behind, two_groups, IsWithin, GivesAt, RefusedAt, IsRefused}
use Rattle.wasm_types_decoding.proofs.LebSigned.{fits_64, fits_32, seven_within}
use Rattle.wasm_types_decoding.proofs.LebGroups.{byte_here, behind_none}

-- ---- small numbers keep their value in a word

two_within : (m : ℤ) (c : ℕ) → c < 128 → IsWithin 6 m → IsWithin 13 (pos 128 *ℤ m +ℤ pos c)
two_within (pos n) c lt h = omega arith
two_within (negsuc n) c lt h = let e : pos 128 *ℤ negsuc n +ℤ pos c ≡ negsuc (128 * suc n - suc c) = omega (arith, ints) in rw e (omega arith)

module _ (b : ℕ) (lt : b < 128) where
  one_in_64 : to_z w64 (of_z w64 (seven_bits b)) ≡ seven_bits b
  one_in_64 = to_z-of_z w64 _ (fits_64 6 _ (omega arith) (seven_within b lt))

  one_in_32 : to_z w32 (of_z w32 (seven_bits b)) ≡ seven_bits b
  one_in_32 = to_z-of_z w32 _ (fits_32 6 _ (omega arith) (seven_within b lt))

module _ (a b : ℕ) (is_byte : a < 256) (lt : b < 128) where
  two_in_64 : to_z w64 (of_z w64 (two_groups a b)) ≡ two_groups a b
  two_in_64 = to_z-of_z w64 _ (fits_64 13 _ (omega arith) (two_within (seven_bits b) (a - 128) (omega arith) (seven_within b lt)))

  two_in_32 : to_z w32 (of_z w32 (two_groups a b)) ≡ two_groups a b
  two_in_32 = to_z-of_z w32 _ (fits_32 13 _ (omega arith) (two_within (seven_bits b) (a - 128) (omega arith) (seven_within b lt)))

-- ---- bytes

-- the bytes of a slice, for a reader that stands at an offset in it
byte_at : (text : List ℕ) (i n : ℕ) (s : State) → s.rest ≡ drop i text → i + n < length text → byte (behind n s) ≡ Done (get_or text (i + n) 0) (behind (n + 1) s)
byte_at text i n s same lt =
    rw (get_or-drop i text n 0) at (byte_here s (drop i text) n (sym same) (omega (arith, lt, length-drop i text)))

first_at : (text : List ℕ) (i : ℕ) (s : State) → s.rest ≡ drop i text → i < length text → byte s ≡ Done (get_or text i 0) (behind 1 s)
first_at text i s same lt =
    let z : i + 0 ≡ i = omega arith in
    rw (behind_none s, z) at (byte_at text i 0 s same (omega arith))

pub one_byte : (text : List ℕ) (i : ℕ) → i < length text → GivesAt byte text i (get_or text i 0) (i + 1)
one_byte text i lt = record {
  forward = omega arith;
  inside = omega arith;
  gives = λ s e. let n : i + 1 - i ≡ 1 = omega arith in rw n (first_at text i s e lt);
}

pub no_byte : (text : List ℕ) (i : ℕ) → length text ≤ i → RefusedAt byte text i
no_byte text i le = λ s e. go (drop i text) refl s e
  where
    go : (r : List ℕ) → drop i text ≡ r → (s : State) → s.rest ≡ drop i text → IsRefused (byte s)
    go [] none s e = let empty : s.rest ≡ [] = e ∙ none in rw empty tt
    go (b ∷ r) some s e = absurd (omega (arith, ap length some, length-drop i text))

module _ (text : List ℕ) (i : ℕ) (two : i + 1 < length text) where
  first : (s : State) → s.rest ≡ drop i text → byte s ≡ Done (get_or text i 0) (behind 1 s)
  first s e = first_at text i s e (omega (arith, two))

  second : (s : State) → s.rest ≡ drop i text → byte (behind 1 s) ≡ Done (get_or text (i + 1) 0) (behind 2 s)
  second s e = byte_at text i 1 s e two

  by_one : {X : Type 0} (d : Decoder X) (x : X) → ((s : State) → s.rest ≡ drop i text → d s ≡ Done x (behind 1 s)) → GivesAt d text i x (i + 1)
  by_one d x h = record { forward = omega arith; inside = omega (arith, two); gives = λ s e. let n : i + 1 - i ≡ 1 = omega arith in rw n (h s e) }

  by_two : {X : Type 0} (d : Decoder X) (x : X) → ((s : State) → s.rest ≡ drop i text → d s ≡ Done x (behind 2 s)) → GivesAt d text i x (i + 2)
  by_two d x h = record { forward = omega arith; inside = omega (arith, two); gives = λ s e. let n : i + 2 - i ≡ 2 = omega arith in rw n (h s e) }

  module _ (k r : ℕ) where
    pub unsigned_of_one : get_or text i 0 < 128 → GivesAt (unsigned (suc k) r) text i (get_or text i 0) (i + 1)
    unfolding unsigned
    unsigned_of_one low = by_one (unsigned (suc k) r) _ (λ s e. rw (first s e, lt-ltb (get_or text i 0) 128 low) refl)

    pub unsigned_of_two : 128 ≤ get_or text i 0 → get_or text (i + 1) 0 < 128
        → GivesAt (unsigned (suc (suc k)) r) text i (get_or text (i + 1) 0 * 128 + (get_or text i 0 - 128)) (i + 2)
    unfolding unsigned
    unsigned_of_two high low = by_two (unsigned (suc (suc k)) r) _ (λ s e.
        let turned : get_or text (i + 1) 0 * 128 + (get_or text i 0 - 128) ≡ 128 * get_or text (i + 1) 0 + (get_or text i 0 - 128) = omega arith in
        rw (turned, first s e, le-ltb (get_or text i 0) 128 high, second s e, lt-ltb (get_or text (i + 1) 0) 128 low) refl)

    signed_of_one_byte : get_or text i 0 < 128 → GivesAt (signed (suc k) r) text i (seven_bits (get_or text i 0)) (i + 1)
    unfolding signed
    signed_of_one_byte low = by_one (signed (suc k) r) _ (λ s e. rw (first s e, lt-ltb (get_or text i 0) 128 low) refl)

    signed_of_two_bytes : 128 ≤ get_or text i 0 → get_or text (i + 1) 0 < 128
        → GivesAt (signed (suc (suc k)) r) text i (pos 128 *ℤ seven_bits (get_or text (i + 1) 0) +ℤ pos (get_or text i 0 - 128)) (i + 2)
    unfolding signed
    signed_of_two_bytes high low = by_two (signed (suc (suc k)) r) _ (λ s e.
        rw (first s e, le-ltb (get_or text i 0) 128 high, second s e, lt-ltb (get_or text (i + 1) 0) 128 low) refl)

    -- as the machine holds them
    module _ (v : ℤ) where
      pub signed_of_one : get_or text i 0 < 128 → v ≡ seven_bits (get_or text i 0) → GivesAt (signed (suc k) r) text i (to_z w64 (of_z w64 v)) (i + 1)
      signed_of_one low is = rw (is, one_in_64 (get_or text i 0) low) (signed_of_one_byte low)

      pub signed_of_one_32 : get_or text i 0 < 128 → v ≡ seven_bits (get_or text i 0) → GivesAt (signed (suc k) r) text i (to_z w32 (of_z w32 (to_z w64 (of_z w64 v)))) (i + 1)
      signed_of_one_32 low is = rw (is, one_in_64 (get_or text i 0) low, one_in_32 (get_or text i 0) low) (signed_of_one_byte low)

      pub signed_of_two : 128 ≤ get_or text i 0 → get_or text (i + 1) 0 < 128 → get_or text i 0 < 256
          → v ≡ two_groups (get_or text i 0) (get_or text (i + 1) 0) → GivesAt (signed (suc (suc k)) r) text i (to_z w64 (of_z w64 v)) (i + 2)
      signed_of_two high low is_byte is = rw (is, two_in_64 (get_or text i 0) (get_or text (i + 1) 0) is_byte low) (signed_of_two_bytes high low)

      pub signed_of_two_32 : 128 ≤ get_or text i 0 → get_or text (i + 1) 0 < 128 → get_or text i 0 < 256
          → v ≡ two_groups (get_or text i 0) (get_or text (i + 1) 0) → GivesAt (signed (suc (suc k)) r) text i (to_z w32 (of_z w32 (to_z w64 (of_z w64 v)))) (i + 2)
      signed_of_two_32 high low is_byte is = rw (
        is,
        two_in_64 (get_or text i 0) (get_or text (i + 1) 0) is_byte low,
        two_in_32 (get_or text i 0) (get_or text (i + 1) 0) is_byte low,
      ) (signed_of_two_bytes high low)
