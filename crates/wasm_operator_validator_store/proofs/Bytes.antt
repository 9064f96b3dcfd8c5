-- Lists of bytes: what is read after a write, which bytes are as they were, when they are there; and numbers as bytes.
use Rattle.std.proofs.Common.{◌≡◌, ℕ, zero, suc, ◌+◌, ◌*◌, ◌/◌, ◌%◌, ◌-◌, ◌^◌, ◌<◌, ◌≤◌, Bool, true, false, not, IsTrue, nat_lt, List, [], ◌∷◌, ◌++◌, Option, Some, None, is_some, if◌then◌else◌, option_map, length, take, drop, replicate, slice_get, refl, sym, ap, subst, ◌∙◌, true≢false, arith}
use Rattle.std.proofs.lemmas.Bool.{lt-ltb, ltb-true, ltb-false}
use Rattle.std.proofs.lemmas.Nat.{mod_below, pow-add}
use Rattle.wasm_types.specs.trees.Types.{Number, StorageOf}
use Rattle.wasm_types.specs.trees.Trees.{TypeTree}
use Rattle.wasm_operator_validator_store.specs.Stores.{front, range, over, placed}
use Rattle.wasm_operator_validator_store.specs.Memories.{number_of, bytes_of, past, stored_type, stored_size, number_count, numbers_from, elements_from}
use Rattle.wasm_operator_validator_store.specs.ValidStores.{Each, IsByte}
use Rattle.wasm_operator_validator_store.specs.Traps.{is_missing}
use Rattle.wasm_operator_validator_store.proofs.Lists.{none_some, same_some, map_some}

-- ---- when they are there

module _ {A : Type 0} where
  pub front_length : (n : ℕ) (xs ys : List A) → front n xs ≡ Some ys → length ys ≡ n
  front_length zero xs ys e = ap length (sym (same_some [] ys e))
  front_length (suc n) [] ys e = absurd (none_some ys e)
  front_length (suc n) (x ∷ xs) ys e = let m = map_some (λ zs. x ∷ zs) (front n xs) ys e in ap length (sym m.2) ∙ ap suc (front_length n xs m.0 m.1)

  pub range_length : (xs : List A) (i n : ℕ) (ys : List A) → range xs i n ≡ Some ys → length ys ≡ n
  range_length [] zero n ys e = front_length n [] ys e
  range_length (x ∷ xs) zero n ys e = front_length n (x ∷ xs) ys e
  range_length [] (suc i) n ys e = absurd (none_some ys e)
  range_length (x ∷ xs) (suc i) n ys e = range_length xs i n ys e

  front_there : (n : ℕ) (xs : List A) → n ≤ length xs → is_missing (front n xs) ≡ false
  front_there zero xs l = refl
  front_there (suc n) [] l = absurd (omega (arith, l))
  front_there (suc n) (x ∷ xs) l = mapped (front n xs) (front_there n xs (omega (arith, l)))
    where
      mapped : (o : Option (List A)) → is_missing o ≡ false → is_missing (option_map (λ zs. x ∷ zs) o) ≡ false
      mapped None h = h
      mapped (Some zs) h = refl

  front_missing : (n : ℕ) (xs : List A) → length xs < n → is_missing (front n xs) ≡ true
  front_missing zero xs l = absurd (omega (arith, l))
  front_missing (suc n) [] l = refl
  front_missing (suc n) (x ∷ xs) l = mapped (front n xs) (front_missing n xs (omega (arith, l)))
    where
      mapped : (o : Option (List A)) → is_missing o ≡ true → is_missing (option_map (λ zs. x ∷ zs) o) ≡ true
      mapped None h = refl
      mapped (Some zs) h = absurd (true≢false (sym h))

  range_there : (xs : List A) (i n : ℕ) → i + n ≤ length xs → is_missing (range xs i n) ≡ false
  range_there [] zero n l = front_there n [] (omega (arith, l))
  range_there (x ∷ xs) zero n l = front_there n (x ∷ xs) (omega (arith, l))
  range_there [] (suc i) n l = absurd (omega (arith, l))
  range_there (x ∷ xs) (suc i) n l = range_there xs i n (omega (arith, l))

  range_gone : (xs : List A) (i n : ℕ) → length xs < i + n → is_missing (range xs i n) ≡ true
  range_gone [] zero n l = front_missing n [] (omega (arith, l))
  range_gone (x ∷ xs) zero n l = front_missing n (x ∷ xs) (omega (arith, l))
  range_gone [] (suc i) n l = refl
  range_gone (x ∷ xs) (suc i) n l = range_gone xs i n (omega (arith, l))

  over_there : (ys xs : List A) → length ys ≤ length xs → is_missing (over ys xs) ≡ false
  over_there [] xs l = refl
  over_there (y ∷ ys) [] l = absurd (omega (arith, l))
  over_there (y ∷ ys) (x ∷ xs) l = mapped (over ys xs) (over_there ys xs (omega (arith, l)))
    where
      mapped : (o : Option (List A)) → is_missing o ≡ false → is_missing (option_map (λ zs. y ∷ zs) o) ≡ false
      mapped None h = h
      mapped (Some zs) h = refl

  over_gone : (ys xs : List A) → length xs < length ys → is_missing (over ys xs) ≡ true
  over_gone [] xs l = absurd (omega (arith, l))
  over_gone (y ∷ ys) [] l = refl
  over_gone (y ∷ ys) (x ∷ xs) l = mapped (over ys xs) (over_gone ys xs (omega (arith, l)))
    where
      mapped : (o : Option (List A)) → is_missing o ≡ true → is_missing (option_map (λ zs. y ∷ zs) o) ≡ true
      mapped None h = refl
      mapped (Some zs) h = absurd (true≢false (sym h))

  placed_there : (xs : List A) (i : ℕ) (ys : List A) → i + length ys ≤ length xs → is_missing (placed xs i ys) ≡ false
  placed_there [] zero ys l = over_there ys [] (omega (arith, l))
  placed_there (x ∷ xs) zero ys l = over_there ys (x ∷ xs) (omega (arith, l))
  placed_there [] (suc i) ys l = absurd (omega (arith, l))
  placed_there (x ∷ xs) (suc i) ys l = mapped (placed xs i ys) (placed_there xs i ys (omega (arith, l)))
    where
      mapped : (o : Option (List A)) → is_missing o ≡ false → is_missing (option_map (λ zs. x ∷ zs) o) ≡ false
      mapped None h = h
      mapped (Some zs) h = refl

  placed_gone : (xs : List A) (i : ℕ) (ys : List A) → length xs < i + length ys → is_missing (placed xs i ys) ≡ true
  placed_gone [] zero ys l = over_gone ys [] (omega (arith, l))
  placed_gone (x ∷ xs) zero ys l = over_gone ys (x ∷ xs) (omega (arith, l))
  placed_gone [] (suc i) ys l = refl
  placed_gone (x ∷ xs) (suc i) ys l = mapped (placed xs i ys) (placed_gone xs i ys (omega (arith, l)))
    where
      mapped : (o : Option (List A)) → is_missing o ≡ true → is_missing (option_map (λ zs. x ∷ zs) o) ≡ true
      mapped None h = refl
      mapped (Some zs) h = absurd (true≢false (sym h))

  -- exactly past the end
  pub range_missing : (xs : List A) (i n : ℕ) → is_missing (range xs i n) ≡ past (length xs) i n
  range_missing xs i n = at (past (length xs) i n) refl
    where
      at : (b : Bool) → past (length xs) i n ≡ b → is_missing (range xs i n) ≡ past (length xs) i n
      at true e = range_gone xs i n (ltb-true (length xs) (i + n) e) ∙ sym e
      at false e = range_there xs i n (ltb-false (length xs) (i + n) e) ∙ sym e

  pub placed_missing : (xs : List A) (i : ℕ) (ys : List A) → is_missing (placed xs i ys) ≡ past (length xs) i (length ys)
  placed_missing xs i ys = at (past (length xs) i (length ys)) refl
    where
      at : (b : Bool) → past (length xs) i (length ys) ≡ b → is_missing (placed xs i ys) ≡ past (length xs) i (length ys)
      at true e = placed_gone xs i ys (ltb-true (length xs) (i + length ys) e) ∙ sym e
      at false e = placed_there xs i ys (ltb-false (length xs) (i + length ys) e) ∙ sym e

  -- ---- what is read after a write

  over_front : (ys xs zs : List A) → over ys xs ≡ Some zs → front (length ys) zs ≡ Some ys
  over_front [] xs zs e = refl
  over_front (y ∷ ys) [] zs e = absurd (none_some zs e)
  over_front (y ∷ ys) (x ∷ xs) zs e =
      let m = map_some (λ ws. y ∷ ws) (over ys xs) zs e in
      subst (λ ws. front (suc (length ys)) ws ≡ Some (y ∷ ys)) m.2 (ap (option_map (λ ws. y ∷ ws)) (over_front ys xs m.0 m.1))

  range_front : (zs : List A) (n : ℕ) → range zs 0 n ≡ front n zs
  range_front [] n = refl
  range_front (z ∷ zs) n = refl

  pub placed_range : (xs : List A) (i : ℕ) (ys zs : List A) → placed xs i ys ≡ Some zs → range zs i (length ys) ≡ Some ys
  placed_range [] zero ys zs e = range_front zs (length ys) ∙ over_front ys [] zs e
  placed_range (x ∷ xs) zero ys zs e = range_front zs (length ys) ∙ over_front ys (x ∷ xs) zs e
  placed_range [] (suc i) ys zs e = absurd (none_some zs e)
  placed_range (x ∷ xs) (suc i) ys zs e =
      let m = map_some (λ ws. x ∷ ws) (placed xs i ys) zs e in
      subst (λ ws. range ws (suc i) (length ys) ≡ Some ys) m.2 (placed_range xs i ys m.0 m.1)

  -- the others are as they were
  over_other : (ys xs zs : List A) (k : ℕ) → over ys xs ≡ Some zs → length ys ≤ k → slice_get zs k ≡ slice_get xs k
  over_other [] xs zs k e l = ap (λ ws. slice_get ws k) (sym (same_some xs zs e))
  over_other (y ∷ ys) [] zs k e l = absurd (none_some zs e)
  over_other (y ∷ ys) (x ∷ xs) zs zero e l = absurd (omega (arith, l))
  over_other (y ∷ ys) (x ∷ xs) zs (suc k) e l =
      let m = map_some (λ ws. y ∷ ws) (over ys xs) zs e in
      subst (λ ws. slice_get ws (suc k) ≡ slice_get xs k) m.2 (over_other ys xs m.0 k m.1 (omega (arith, l)))

  pub placed_before : (xs : List A) (i : ℕ) (ys zs : List A) (k : ℕ) → placed xs i ys ≡ Some zs → k < i → slice_get zs k ≡ slice_get xs k
  placed_before [] zero ys zs k e l = absurd (omega (arith, l))
  placed_before (x ∷ xs) zero ys zs k e l = absurd (omega (arith, l))
  placed_before [] (suc i) ys zs k e l = absurd (none_some zs e)
  placed_before (x ∷ xs) (suc i) ys zs zero e l = let m = map_some (λ ws. x ∷ ws) (placed xs i ys) zs e in ap (λ ws. slice_get ws 0) (sym m.2)
  placed_before (x ∷ xs) (suc i) ys zs (suc k) e l =
      let m = map_some (λ ws. x ∷ ws) (placed xs i ys) zs e in
      subst (λ ws. slice_get ws (suc k) ≡ slice_get xs k) m.2 (placed_before xs i ys m.0 k m.1 (omega (arith, l)))

  pub placed_after : (xs : List A) (i : ℕ) (ys zs : List A) (k : ℕ) → placed xs i ys ≡ Some zs → i + length ys ≤ k → slice_get zs k ≡ slice_get xs k
  placed_after [] zero ys zs k e l = over_other ys [] zs k e (omega (arith, l))
  placed_after (x ∷ xs) zero ys zs k e l = over_other ys (x ∷ xs) zs k e (omega (arith, l))
  placed_after [] (suc i) ys zs k e l = absurd (none_some zs e)
  placed_after (x ∷ xs) (suc i) ys zs zero e l = absurd (omega (arith, l))
  placed_after (x ∷ xs) (suc i) ys zs (suc k) e l =
      let m = map_some (λ ws. x ∷ ws) (placed xs i ys) zs e in
      subst (λ ws. slice_get ws (suc k) ≡ slice_get xs k) m.2 (placed_after xs i ys m.0 k m.1 (omega (arith, l)))

-- ---- numbers as bytes

pub bytes_length : (k b : ℕ) → length (bytes_of k b) ≡ k
bytes_length zero b = refl
bytes_length (suc k) b = ap suc (bytes_length k (b / 256))

pub byte_within : (b : ℕ) → b < 256 → IsByte b
byte_within b l = lt-ltb b 256 l

pub bytes_are : (k b : ℕ) → Each IsByte (bytes_of k b)
bytes_are zero b = tt
bytes_are (suc k) b = (byte_within (b % 256) (mod_below b 256 (omega arith)), bytes_are k (b / 256))

-- how many numbers have so many bytes
pub many : ℕ → ℕ
many zero = 1
many (suc k) = 256 * many k

pub number_below : (bs : List ℕ) → Each IsByte bs → number_of bs < many (length bs)
unfolding many
number_below [] h = omega arith
number_below (b ∷ bs) h = let low : b < 256 = ltb-true b 256 h.0 in omega (arith, number_below bs h.1, low)

-- the bytes of a number that bytes are, and the number that the bytes of a number are
low_byte : (b n : ℕ) → b < 256 → (b + 256 * n) % 256 ≡ b
low_byte b n l = omega (arith, l)

high_bytes : (b n : ℕ) → b < 256 → (b + 256 * n) / 256 ≡ n
high_bytes b n l = omega (arith, l)

pub bytes_back : (bs : List ℕ) → Each IsByte bs → bytes_of (length bs) (number_of bs) ≡ bs
bytes_back [] h = refl
bytes_back (b ∷ bs) h =
    let low : b < 256 = ltb-true b 256 h.0 in
    ap (λ c. c ∷ bytes_of (length bs) ((b + 256 * number_of bs) / 256)) (low_byte b (number_of bs) low)
    ∙ ap (λ n. b ∷ bytes_of (length bs) n) (high_bytes b (number_of bs) low) ∙ ap (λ cs. b ∷ cs) (bytes_back bs h.1)

pub number_back : (k b : ℕ) → b < many k → number_of (bytes_of k b) ≡ b
unfolding many
number_back zero b l = omega (arith, l)
number_back (suc k) b l =
    let high : b / 256 < many k = omega (arith, l) in
    let rest : number_of (bytes_of k (b / 256)) ≡ b / 256 = number_back k (b / 256) high in
    omega (arith, rest)

many_some : (k : ℕ) → 1 ≤ many k
unfolding many
many_some zero = omega arith
many_some (suc k) = omega (arith, many_some k)

pub many_more : (j k : ℕ) → j ≤ k → many j ≤ many k
unfolding many
many_more zero k l = many_some k
many_more (suc j) zero l = absurd (omega (arith, l))
many_more (suc j) (suc k) l = omega (arith, many_more j k (omega (arith, l)))

-- the numbers of so many bytes as powers of two
pub many_1 : many 1 ≡ 2 ^ 8
unfolding many
many_1 = refl

pub many_2 : many 2 ≡ 2 ^ 16
unfolding many
many_2 = refl

pub many_4 : many 4 ≡ 2 ^ 32
unfolding many
many_4 = refl

pub many_8 : many 8 ≡ 2 ^ 64
unfolding many
many_8 = refl

pub many_16 : many 16 ≡ 2 ^ 128
unfolding many
many_16 = refl

more_bits : (k m : ℕ) → m ≡ 2 ^ (8 * k) → 256 * m ≡ 2 ^ (8 * suc k)
more_bits k m e =
    let same : 8 * k + 8 ≡ 8 * suc k = omega arith in
    let split : 2 ^ (8 * k + 8) ≡ 2 ^ (8 * k) * 2 ^ 8 = pow-add 2 (8 * k) 8 in
    omega (arith, e, split, ap (λ n. 2 ^ n) same)

pub many_bits : (k : ℕ) → many k ≡ 2 ^ (8 * k)
unfolding many
many_bits zero = omega arith
many_bits (suc k) = more_bits k (many k) (many_bits k)

-- a number of no more bytes than there are in so many numbers
pub number_within : (bs : List ℕ) (k m : ℕ) → length bs ≤ k → many k ≤ m → Each IsByte bs → IsTrue (nat_lt (number_of bs) m)
number_within bs k m l h b = lt-ltb (number_of bs) m (omega (arith, number_below bs b, many_more (length bs) k l, h))

-- ---- elements of arrays

numbers_length : (o : Option Number) (k n : ℕ) (bs : List ℕ) → length (numbers_from o k n bs) ≡ number_count o n
numbers_length None k n bs = refl
numbers_length (Some t) k zero bs = refl
numbers_length (Some t) k (suc n) bs = ap suc (numbers_length (Some t) k n (drop k bs))

pub elements_length : (t : StorageOf TypeTree) (n : ℕ) (bs : List ℕ) → length (elements_from t n bs) ≡ number_count (stored_type t) n
elements_length t n bs = numbers_length (stored_type t) (stored_size t) n bs
