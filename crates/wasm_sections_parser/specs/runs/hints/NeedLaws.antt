-- What is needed within a size is the least that settles what it is of: no fewer bytes do, and some so many do.
use Rattle.std.proofs.Common.{◌≡◌, ◌⊎◌, inl, inr, ℕ, zero, suc, ◌+◌, ◌-◌, ◌*◌, ◌<◌, ◌≤◌, ◌^◌, min, List, [], ◌∷◌}
use Rattle.std.proofs.Common.{◌++◌, length, refl, sym, ap, ◌∙◌, subst, arith, cond, Bool, true, false}
use Rattle.std.specs.Prelude.{nat_lt, nat_le, ◌==◌}
use Rattle.std.proofs.Math.Nat.{min-le_left, min-le_right, min-eq_left, min-eq_right, pow-succ', mul-le-mul_left}
use Rattle.std.proofs.lemmas.List.{append-nil}
use Rattle.std.proofs.lemmas.Bool.{eqb-true, ltb-true, ltb-false, lt-ltb, leb-true, leb-false}
use Rattle.wasm_types.specs.settings.Settings.{Settings}
use Rattle.wasm_types.specs.decoding.declared.Refusal.TheVariants.{Other}
use Rattle.wasm_types.specs.decoding.Decoder.{State, Outcome, Done, Short, Fault, Decoder, continue_with, ◌>>=◌, pure, refuse}
use Rattle.wasm_types.specs.decoding.Leb.{u32, unsigned}
use Rattle.wasm_sections_parser.specs.declared.needs.Measured.{Measured}
use Rattle.wasm_sections_parser.specs.declared.needs.Measured.TheVariants.{Late, Section, Code, Body}
use Rattle.wasm_sections_parser.specs.Needs.{wanted, are_not_last, is_cut, low_of, least_within}
use Rattle.wasm_sections_parser.specs.Steps.{Next}
use Rattle.wasm_sections_parser.specs.runs.hints.Hints.{AreBytes}
use Rattle.wasm_sections_parser.specs.runs.hints.CutLaws.{IsSettled, done, at}

-- ---- the least of a range

pub code_few : (room n : ℕ) → wanted Code room n ≤ 1
code_few room n = go (nat_lt room n) (n == 0)
  where
    go : (v w : Bool) → cond v 0 (cond w 0 1) ≤ 1
    go true w = omega arith
    go false true = omega arith
    go false false = omega arith

code_none : (room n : ℕ) → n ≡ 0 → wanted Code room n ≡ 0
code_none room n e = subst (λ (k : ℕ). wanted Code room k ≡ 0) (sym e) (go (nat_lt room 0))
  where
    go : (v : Bool) → cond v zero zero ≡ zero
    go true = refl
    go false = refl

pub body_few : (room n : ℕ) → wanted Body room n ≤ n
body_few room n = go (nat_lt room n)
  where
    go : (v : Bool) → cond v 0 n ≤ n
    go true = omega arith
    go false = omega arith

-- what has no room is refused, and so is what is larger
past : (room n high x : ℕ) → nat_lt room n ≡ true → n ≤ high → cond (nat_lt room high) 0 x ≡ 0
past room n high x e le = ap (λ (v : Bool). cond v 0 x) (lt-ltb room high (omega (arith, ltb-true _ _ e, le)))

-- behind a number of a range no fewer bytes are needed than behind its least or its greatest
wanted_between : (m : Measured) (room low n high : ℕ) → low ≤ n → n ≤ high → min (wanted m room low) (wanted m room high) ≤ wanted m room n
wanted_between Late room low n high l h = min-le_left 0 0
wanted_between Section room low n high l h = omega (arith, min-le_left low high, l)
wanted_between Code room low n high l h = go (nat_lt room n) refl
  where
    none : (w : Bool) → (n == 0) ≡ w → min (wanted Code room low) (wanted Code room high) ≤ cond w 0 1
    none true e = omega (arith, min-le_left (wanted Code room low) (wanted Code room high), code_none room low (omega (arith, l, eqb-true n 0 e)))
    none false e = omega (arith, min-le_left (wanted Code room low) (wanted Code room high), code_few room low)

    go : (v : Bool) → nat_lt room n ≡ v → min (wanted Code room low) (wanted Code room high) ≤ cond v 0 (cond (n == 0) 0 1)
    go true e = omega (arith, min-le_right (wanted Code room low) (wanted Code room high), past room n high (cond (high == 0) 0 1) e h)
    go false e = none (n == 0) refl
wanted_between Body room low n high l h = go (nat_lt room n) refl
  where
    go : (v : Bool) → nat_lt room n ≡ v → min (wanted Body room low) (wanted Body room high) ≤ cond v 0 n
    go true e = omega (arith, min-le_right (wanted Body room low) (wanted Body room high), past room n high high e h)
    go false e = omega (arith, min-le_left (wanted Body room low) (wanted Body room high), body_few room low, l)

-- ---- the least of three

ends_now : (x y z n k : ℕ) → min x y ≤ n → n ≤ k → 1 + min (min x y) z ≤ suc k
ends_now x y z n k h le = omega (arith, min-le_left (min x y) z, h, le)

goes_on : (x y z k : ℕ) → z ≤ k → 1 + min (min x y) z ≤ suc k
goes_on x y z k le = omega (arith, min-le_right (min x y) z, le)

one_of_two : (x y : ℕ) → (min x y ≡ x) ⊎ (min x y ≡ y)
one_of_two x y = go (nat_le x y) refl
  where
    go : (v : Bool) → nat_le x y ≡ v → (min x y ≡ x) ⊎ (min x y ≡ y)
    go true e = inl (min-eq_left (leb-true _ _ e))
    go false e = let lt = leb-false _ _ e in inr (min-eq_right (omega (arith, lt)))

-- ---- numbers

regrouped : (o : Outcome ℕ) (g : ℕ → ℕ) (F G : ℕ → Decoder Next) → ((n : ℕ) → F (g n) ≡ G n)
    → continue_with (continue_with o (λ n. pure (g n))) F ≡ continue_with o G
regrouped (Done n t) g F G e = ap (λ (d : Decoder Next). d t) (e n)
regrouped (Short p h) g F G e = refl
regrouped (Fault k p) g F G e = refl

continued : (o : Outcome ℕ) (F G : ℕ → Decoder Next) → ((n : ℕ) → F n ≡ G n) → continue_with o F ≡ continue_with o G
continued (Done n t) F G e = ap (λ (d : Decoder Next). d t) (e n)
continued (Short p h) F G e = refl
continued (Fault k p) F G e = refl

shifted : (v unit n d : ℕ) → v + unit * (128 * n + d) ≡ v + unit * d + 128 * unit * n
shifted v unit n d = omega arith

prefixed : (low unit n d : ℕ) → 128 * (low + unit * n) + d ≡ d + 128 * low + 128 * unit * n
prefixed low unit n d = omega arith

-- ---- within a size

-- what is read behind a size, up to this offset: so many bytes as are wanted settle it, and no fewer
pub record IsBehind (m : Measured) (limit : ℕ) (f : ℕ → Decoder Next) : Type 0 where
  pub fewer : (n place : ℕ) (rest : List ℕ) (y : Settings) (b : ℕ) → IsSettled (f n (at rest place y b)) → wanted m (limit - place) n ≤ length rest
  pub enough : (n place : ℕ) (y : Settings) (b : ℕ) → (rest : List ℕ) × AreBytes rest × (length rest ≡ wanted m (limit - place) n) × IsSettled (f n (at rest place y b))

module _ (m : Measured) (limit : ℕ) (f : ℕ → Decoder Next) (is : IsBehind m limit f) (y : Settings) (b : ℕ) where
  room_is : (a : ℕ) → limit - (a + 1) ≡ limit - a - 1
  room_is a = omega arith

  -- no fewer settle it, whatever the number is from low to high
  fewer_within : (k v low high unit a : ℕ) (more : List ℕ) → AreBytes more → low ≤ v → v ≤ high
      → IsSettled (continue_with (unsigned k 4 (at more a y b)) (λ n. f (v + unit * n))) → least_within m k low high unit (limit - a) ≤ length more
  unfolding unsigned least_within
  fewer_within zero v low high unit a [] bytes l h s = absurd s
  fewer_within zero v low high unit a (c ∷ more) bytes l h s = omega arith
  fewer_within (suc k) v low high unit a [] bytes l h s = absurd s
  fewer_within (suc k) v low high unit a (c ∷ more) bytes l h s =
      go (fewer_within k (v + unit * (c - 128)) low (high + 127 * unit) (128 * unit) (a + 1) more bytes.1) (nat_lt c 128) refl s
    where
      top : ℕ
      top = high + 127 * unit

      go : (low ≤ v + unit * (c - 128) → v + unit * (c - 128) ≤ top
          → IsSettled (continue_with (unsigned k 4 (at more (a + 1) y b)) (λ n. f (v + unit * (c - 128) + 128 * unit * n)))
          → least_within m k low top (128 * unit) (limit - (a + 1)) ≤ length more)
          → (t : Bool) → nat_lt c 128 ≡ t → IsSettled (continue_with (cond t (pure c) (unsigned k 4 >>= λ n. pure (128 * n + (c - 128))) (at more (a + 1) y b)) (λ n. f (v + unit * n)))
          → 1 + min (min (wanted m (limit - a - 1) low) (wanted m (limit - a - 1) top)) (least_within m k low top (128 * unit) (limit - a - 1)) ≤ suc (length more)
      go rest true e g =
          let here = subst (λ (r : ℕ). wanted m r (v + unit * c) ≤ length more) (room_is a) (is.fewer (v + unit * c) (a + 1) more y b g) in
          let part = mul-le-mul_left {m = c} {n = 127} unit (omega (arith, ltb-true _ _ e)) in
          ends_now (wanted m (limit - a - 1) low) (wanted m (limit - a - 1) top) (least_within m k low top (128 * unit) (limit - a - 1)) (wanted m (limit - a - 1) (v + unit * c)) (length more)
          (wanted_between m (limit - a - 1) low (v + unit * c) top (omega (arith, l)) (omega (arith, h, part))) here
      go rest false e g =
          let there = subst (λ (o : Outcome Next). IsSettled o)
          (regrouped (unsigned k 4 (at more (a + 1) y b)) (λ n. 128 * n + (c - 128)) (λ n. f (v + unit * n)) (λ n. f (v + unit * (c - 128) + 128 * unit * n)) (λ n. ap f (shifted v unit n (c - 128)))) g in
          let part = mul-le-mul_left {m = c - 128} {n = 127} unit (omega (arith, bytes.0)) in
          let next = rest (omega (arith, l)) (omega (arith, h, part)) there in
          goes_on (wanted m (limit - a - 1) low) (wanted m (limit - a - 1) top) (least_within m k low top (128 * unit) (limit - a - 1)) (length more)
          (subst (λ (r : ℕ). least_within m k low top (128 * unit) r ≤ length more) (room_is a) next)

  -- some so many settle it, where the number is low or high
  record Fills (k low high unit a : ℕ) : Type 0 where
    value : ℕ
    side : (value ≡ low) ⊎ (value ≡ high)
    more : List ℕ
    bytes : AreBytes more
    count : length more ≡ least_within m k low high unit (limit - a)
    settles : IsSettled (continue_with (unsigned k 4 (at more a y b)) (λ n. f (value + unit * n)))

  enough_within : (k low high unit a : ℕ) → Fills k low high unit a
  unfolding unsigned least_within
  enough_within zero low high unit a = record { value = low; side = inl refl; more = 16 ∷ []; bytes = (omega arith, tt); count = refl; settles = tt }
  enough_within (suc k) low high unit a = go (enough_within k low (high + 127 * unit) (128 * unit) (a + 1)) (one_of_two (min first second) third) (one_of_two first second)
    where
      top : ℕ
      top = high + 127 * unit

      first : ℕ
      first = wanted m (limit - a - 1) low

      second : ℕ
      second = wanted m (limit - a - 1) top

      third : ℕ
      third = least_within m k low top (128 * unit) (limit - a - 1)

      last : (c v n : ℕ) → nat_lt c 128 ≡ true → c < 256 → n ≡ v + unit * c → (v ≡ low) ⊎ (v ≡ high) → min (min first second) third ≡ wanted m (limit - a - 1) n → Fills (suc k) low high unit a
      last c v n lt byte e side least =
          let r = is.enough n (a + 1) y b in record {
            value = v;
            side = side;
            more = c ∷ r.0;
            bytes = (byte, r.1);
            count = ap suc (r.2 ∙ ap (λ (x : ℕ). wanted m x n) (room_is a) ∙ sym least) ∙ omega arith;
            settles =
                subst (λ (t : Bool). IsSettled (continue_with (cond t (pure c) (unsigned k 4 >>= λ x. pure (128 * x + (c - 128))) (at r.0 (a + 1) y b)) (λ x. f (v + unit * x)))) (sym lt)
                (subst (λ (x : ℕ). IsSettled (f x (at r.0 (a + 1) y b))) e r.3);
          }

      next : (c v : ℕ) (r : Fills k low top (128 * unit) (a + 1)) → nat_lt c 128 ≡ false → c < 256 → r.value ≡ v + unit * (c - 128) → (v ≡ low) ⊎ (v ≡ high)
          → min (min first second) third ≡ third → Fills (suc k) low high unit a
      next c v r ge byte e side least = record {
        value = v;
        side = side;
        more = c ∷ r.more;
        bytes = (byte, r.bytes);
        count = ap suc (r.count ∙ ap (λ (x : ℕ). least_within m k low top (128 * unit) x) (room_is a) ∙ sym least) ∙ omega arith;
        settles =
            subst (λ (t : Bool). IsSettled (continue_with (cond t (pure c) (unsigned k 4 >>= λ x. pure (128 * x + (c - 128))) (at r.more (a + 1) y b)) (λ x. f (v + unit * x)))) (sym ge)
            (subst (λ (o : Outcome Next). IsSettled o)
            (sym (regrouped (unsigned k 4 (at r.more (a + 1) y b)) (λ x. 128 * x + (c - 128)) (λ x. f (v + unit * x)) (λ x. f (r.value + 128 * unit * x))
            (λ x. ap f (shifted v unit x (c - 128) ∙ ap (λ (w : ℕ). w + 128 * unit * x) (sym e))))) r.settles);
      }

      goes : (r : Fills k low top (128 * unit) (a + 1)) → min (min first second) third ≡ third → Fills (suc k) low high unit a
      goes r least = elim r.side [
        | inl e ↦ next 128 low r refl (omega arith) (e ∙ omega arith) (inl refl) least
        | inr e ↦ next 255 high r refl (omega arith) (e ∙ omega arith) (inr refl) least
      ]

      go : Fills k low top (128 * unit) (a + 1) → (min (min first second) third ≡ min first second) ⊎ (min (min first second) third ≡ third) → (min first second ≡ first) ⊎ (min first second ≡ second) → Fills (suc k) low high unit a
      go r (inl e) (inl g) = last 0 low low refl (omega arith) (omega arith) (inl refl) (e ∙ g)
      go r (inl e) (inr g) = last 127 high top refl (omega arith) (omega arith) (inr refl) (e ∙ g)
      go r (inr e) g = goes r e

-- ---- a size that is cut

-- what stands of a size, and what is read behind it
read_cut : (k : ℕ) (size more : List ℕ) (a : ℕ) (y : Settings) (b : ℕ) (F : ℕ → Decoder Next) → length size ≤ k → are_not_last size ≡ true
    → continue_with (unsigned k 4 (at (size ++ more) a y b)) F
    ≡ continue_with (unsigned (k - length size) 4 (at more (a + length size) y b)) (λ n. F (low_of size + 128 ^ length size * n))
unfolding unsigned
read_cut k [] more a y b F few begun =
    ap (λ (x : ℕ). continue_with (unsigned x 4 (at more a y b)) F) same_count ∙ ap (λ (x : ℕ). continue_with (unsigned (k - 0) 4 (at more x y b)) F) same_place
    ∙ continued (unsigned (k - 0) 4 (at more (a + 0) y b)) F (λ n. F (0 + 1 * n)) (λ n. ap F (omega arith))
  where
    same_count : k ≡ k - 0
    same_count = omega arith

    same_place : a ≡ a + 0
    same_place = omega arith
read_cut zero (c ∷ size) more a y b F few begun = absurd (omega (arith, few))
read_cut (suc k) (c ∷ size) more a y b F few begun = go (read_cut k size more (a + 1) y b (λ n. F (128 * n + (c - 128))) (omega (arith, few))) (nat_lt c 128) refl begun
  where
    unit : ℕ
    unit = 128 ^ length size

    grown : (n : ℕ) → 128 * (low_of size + unit * n) + (c - 128) ≡ c - 128 + 128 * low_of size + 128 ^ suc (length size) * n
    grown n = prefixed (low_of size) unit n (c - 128) ∙ ap (λ (x : ℕ). c - 128 + 128 * low_of size + x * n) (sym (pow-succ' 128 (length size)))

    fewer : suc k - suc (length size) ≡ k - length size
    fewer = omega arith

    behind : a + 1 + length size ≡ a + suc (length size)
    behind = omega arith

    go : (are_not_last size ≡ true
        → continue_with (unsigned k 4 (at (size ++ more) (a + 1) y b)) (λ n. F (128 * n + (c - 128)))
        ≡ continue_with (unsigned (k - length size) 4 (at more (a + 1 + length size) y b)) (λ n. F (128 * (low_of size + unit * n) + (c - 128))))
        → (t : Bool) → nat_lt c 128 ≡ t → cond t false (are_not_last size) ≡ true
        → continue_with (cond (nat_lt c 128) (pure c) (unsigned k 4 >>= λ n. pure (128 * n + (c - 128))) (at (size ++ more) (a + 1) y b)) F
        ≡ continue_with (unsigned (suc k - suc (length size)) 4 (at more (a + suc (length size)) y b)) (λ n. F (c - 128 + 128 * low_of size + 128 ^ suc (length size) * n))
    go rest true e g = absurd cc
    go rest false e g =
        ap (λ (t : Bool). continue_with (cond t (pure c) (unsigned k 4 >>= λ n. pure (128 * n + (c - 128))) (at (size ++ more) (a + 1) y b)) F) e
        ∙ regrouped (unsigned k 4 (at (size ++ more) (a + 1) y b)) (λ n. 128 * n + (c - 128)) F (λ n. F (128 * n + (c - 128))) (λ n. refl)
        ∙ rest g
        ∙ continued (unsigned (k - length size) 4 (at more (a + 1 + length size) y b)) (λ n. F (128 * (low_of size + unit * n) + (c - 128)))
        (λ n. F (c - 128 + 128 * low_of size + 128 ^ suc (length size) * n)) (λ n. ap F (grown n))
        ∙ ap (λ (x : ℕ). continue_with (unsigned (k - length size) 4 (at more x y b)) (λ n. F (c - 128 + 128 * low_of size + 128 ^ suc (length size) * n))) behind
        ∙ ap (λ (x : ℕ). continue_with (unsigned x 4 (at more (a + suc (length size)) y b)) (λ n. F (c - 128 + 128 * low_of size + 128 ^ suc (length size) * n))) (sym fewer)

-- of at most four bytes, of which none is the last
pub cut_is : (size : List ℕ) → is_cut size ≡ true → (length size ≤ 4) × (are_not_last size ≡ true)
cut_is size e = go (nat_lt 4 (length size)) refl e
  where
    go : (v : Bool) → nat_lt 4 (length size) ≡ v → cond v false (are_not_last size) ≡ true → (length size ≤ 4) × (are_not_last size ≡ true)
    go true f g = absurd cc
    go false f g = (ltb-false _ _ f, g)

-- how many bytes are needed behind these of a size that begins here
abbrev pub least_behind : Measured → ℕ → List ℕ → ℕ → ℕ
least_behind m limit size a = least_within m (4 - length size) (low_of size) (low_of size) (128 ^ length size) (limit - (a + length size))

module _ (m : Measured) (limit : ℕ) (f : ℕ → Decoder Next) (is : IsBehind m limit f) (size : List ℕ) (cut : is_cut size ≡ true) (a : ℕ) (y : Settings) (b : ℕ) where
  there : (more : List ℕ) → continue_with (u32 (at (size ++ more) a y b)) f
      ≡ continue_with (unsigned (4 - length size) 4 (at more (a + length size) y b)) (λ n. f (low_of size + 128 ^ length size * n))
  there more = let c = cut_is size cut in read_cut 4 size more a y b f c.0 c.1

  pub cut_fewer : (more : List ℕ) → AreBytes more → IsSettled (continue_with (u32 (at (size ++ more) a y b)) f) → least_behind m limit size a ≤ length more
  cut_fewer more bytes s =
      fewer_within m limit f is y b (4 - length size) (low_of size) (low_of size) (low_of size) (128 ^ length size) (a + length size) more bytes (omega arith) (omega arith)
      (subst (λ (o : Outcome Next). IsSettled o) (there more) s)

  pub cut_enough : (more : List ℕ) × AreBytes more × (length more ≡ least_behind m limit size a) × IsSettled (continue_with (u32 (at (size ++ more) a y b)) f)
  cut_enough = go (enough_within m limit f is y b (4 - length size) (low_of size) (low_of size) (128 ^ length size) (a + length size))
    where
      value_is : (v low : ℕ) → (v ≡ low) ⊎ (v ≡ low) → v ≡ low
      value_is v low (inl e) = e
      value_is v low (inr e) = e

      go : Fills m limit f is y b (4 - length size) (low_of size) (low_of size) (128 ^ length size) (a + length size)
          → (more : List ℕ) × AreBytes more × (length more ≡ least_behind m limit size a) × IsSettled (continue_with (u32 (at (size ++ more) a y b)) f)
      go r = (
        r.more,
        r.bytes,
        r.count,
        subst (λ (o : Outcome Next). IsSettled o) (sym (there r.more))
            (subst (λ (v : ℕ). IsSettled (continue_with (unsigned (4 - length size) 4 (at r.more (a + length size) y b)) (λ n. f (v + 128 ^ length size * n)))) (value_is r.value (low_of size) r.side) r.settles),
      )

-- ---- where nothing is there of a size, and where its section ends

-- one byte is needed at least
pub least_some : (m : Measured) (k low high unit room : ℕ) → 1 ≤ least_within m k low high unit room
unfolding least_within
least_some m zero low high unit room = omega arith
least_some m (suc k) low high unit room = omega arith

-- nothing is needed behind a size of no bytes
none_wanted : (m : Measured) (room : ℕ) → wanted m room 0 ≡ 0
none_wanted Late room = refl
none_wanted Section room = refl
none_wanted Code room = code_none room 0 refl
none_wanted Body room = let few = body_few room 0 in omega (arith, few)

-- before a size one byte is needed, as that may be 0
pub least_none : (m : Measured) (room : ℕ) → least_within m 4 0 0 1 room ≡ 1
unfolding least_within
least_none m room =
    let few = ends_now (wanted m (room - 1) 0) (wanted m (room - 1) (0 + 127 * 1)) (least_within m 3 0 (0 + 127 * 1) (128 * 1) (room - 1)) 0 0
    (omega (arith, min-le_left (wanted m (room - 1) 0) (wanted m (room - 1) (0 + 127 * 1)), none_wanted m (room - 1))) (omega arith) in
    let some = least_some m 4 0 0 1 room in
    omega (arith, few, some)

-- a body whose size may still end where its section ends, or behind it
pub least_past : (k low high unit a j end : ℕ) → 0 < unit → 0 < j → end ≤ a + j → least_within Body k low high unit (end - a) ≤ j
unfolding least_within
least_past zero low high unit a j end some bytes le = omega (arith, bytes)
least_past (suc k) low high unit a zero end some bytes le = absurd (omega (arith, bytes))
least_past (suc k) low high unit a (suc zero) end some bytes le =
    let top : ℕ = high + 127 * unit in
    let refused : wanted Body (end - a - 1) top ≡ 0 = ap (λ (v : Bool). cond v 0 top) (lt-ltb (end - a - 1) top (omega (arith, some, le))) in
    ends_now (wanted Body (end - a - 1) low) (wanted Body (end - a - 1) top) (least_within Body k low top (128 * unit) (end - a - 1)) 0 0
    (omega (arith, min-le_right (wanted Body (end - a - 1) low) (wanted Body (end - a - 1) top), refused)) (omega arith)
least_past (suc k) low high unit a (suc (suc j)) end some bytes le =
    let top : ℕ = high + 127 * unit in
    let room : end - (a + 1) ≡ end - a - 1 = omega arith in
    goes_on (wanted Body (end - a - 1) low) (wanted Body (end - a - 1) top) (least_within Body k low top (128 * unit) (end - a - 1)) (suc j)
    (subst (λ (r : ℕ). least_within Body k low top (128 * unit) r ≤ suc j) room (least_past k low top (128 * unit) (a + 1) (suc j) end (omega (arith, some)) (omega arith) (omega (arith, le))))

-- a size that is cut has not ended
pub not_ended : (size : List ℕ) (a : ℕ) (y : Settings) (b x : ℕ) (t : State) → is_cut size ≡ true → u32 (at size a y b) ≡ done x t → ⊥
unfolding unsigned
not_ended size a y b x t cut e =
    let c = cut_is size cut in
    let f : ℕ → Decoder Next = λ n. refuse Other 0 in
    let ends : IsSettled (continue_with (u32 (at (size ++ []) a y b)) f) =
    subst (λ (text : List ℕ). IsSettled (continue_with (u32 (at text a y b)) f)) (sym (append-nil size)) (subst (λ (o : Outcome ℕ). IsSettled (continue_with o f)) (sym e) tt) in
    go (4 - length size) (subst (λ (o : Outcome Next). IsSettled o) (read_cut 4 size [] a y b f c.0 c.1) ends)
  where
    go : (k : ℕ) → IsSettled {A = Next} (continue_with (unsigned k 4 (at [] (a + length size) y b)) (λ n. refuse Other 0)) → ⊥
    go zero s = s
    go (suc k) s = s
