-- A section is not late exactly where the places of a module ascend through its own.
use Rattle.std.proofs.Common.{◌≡◌, ℕ, ◌<◌, List, [], ◌∷◌, refl, subst, arith, cond, Bool, true, false, Option, Some, None}
use Rattle.std.specs.Prelude.{◌==◌, nat_le}
use Rattle.std.proofs.lemmas.Bool.{leb-false, leb-true, eqb-true}
use Rattle.wasm_types.specs.values.Decode.{find}
use Rattle.wasm_sections_items.specs.frames.Outer.{places, rank, with_rank, Ascends}
use Rattle.wasm_sections_parser.specs.Steps.{or_zero}

-- every place is more than 0
abbrev AreSome : List (ℕ × ℕ) → Type 0
AreSome [] = Unit {0}
AreSome (c ∷ cs) = (0 < c.1) × AreSome cs

some_is : (x y : ℕ) → Some x ≡ Some y → x ≡ y
some_is x y q = cc

find_some : (cs : List (ℕ × ℕ)) (b r : ℕ) → AreSome cs → find cs b ≡ Some r → 0 < r
find_some [] b r all e = absurd cc
find_some (c ∷ cs) b r all e = go (b == c.0) (find_some cs b r all.1) e
  where
    go : (k : Bool) → (find cs b ≡ Some r → 0 < r) → cond k (Some c.1) (find cs b) ≡ Some r → 0 < r
    go true others f = subst (λ (x : ℕ). 0 < x) (some_is c.1 r f) all.0
    go false others f = others f

rank_some : (id r : ℕ) → rank id ≡ Some r → 0 < r
rank_some id r e = find_some places id r (
  omega arith,
  (
    omega arith,
    (
      omega arith,
      (
        omega arith,
        (
          omega arith,
          (
            omega arith,
            (omega arith, (omega arith, (omega arith, (omega arith, (omega arith, (omega arith, (omega arith, tt))))))),
          ),
        ),
      ),
    ),
  ),
) e

-- whether a place comes too late behind this one, and the last place behind it
abbrev pub late_at : ℕ → Option ℕ → Bool
late_at low o = cond (or_zero o == 0) false (nat_le (or_zero o) low)

abbrev pub last_at : ℕ → Option ℕ → ℕ
last_at low o = cond (or_zero o == 0) low (or_zero o)

in_order_at : (low : ℕ) (o : Option ℕ) (rs : List ℕ) → ((r : ℕ) → o ≡ Some r → 0 < r) → late_at low o ≡ false → Ascends (last_at low o) rs → Ascends low (with_rank o rs)
in_order_at low None rs some late h = h
in_order_at low (Some r) rs some late h = go (r == 0) refl late h
  where
    go : (b : Bool) → (r == 0) ≡ b → cond b false (nat_le r low) ≡ false → Ascends (cond b low r) rs → (low < r) × Ascends r rs
    go true e f g = absurd (omega (arith, eqb-true _ _ e, some r refl))
    go false e f g = (leb-false _ _ f, g)

pub in_order : (low id : ℕ) (rs : List ℕ) → late_at low (rank id) ≡ false → Ascends (last_at low (rank id)) rs → Ascends low (with_rank (rank id) rs)
in_order low id rs late h = in_order_at low (rank id) rs (rank_some id) late h

some_differs : (low r : ℕ) → low < r → nat_le r low ≡ false
some_differs low r lt = go (nat_le r low) refl
  where
    go : (b : Bool) → nat_le r low ≡ b → b ≡ false
    go true e = absurd (omega (arith, lt, leb-true _ _ e))
    go false e = refl

order_gives_at : (low : ℕ) (o : Option ℕ) (rs : List ℕ) → ((r : ℕ) → o ≡ Some r → 0 < r) → Ascends low (with_rank o rs) → (late_at low o ≡ false) × Ascends (last_at low o) rs
order_gives_at low None rs some h = (refl, h)
order_gives_at low (Some r) rs some h = go (r == 0) refl
  where
    go : (b : Bool) → (r == 0) ≡ b → (cond b false (nat_le r low) ≡ false) × Ascends (cond b low r) rs
    go true e = absurd (omega (arith, eqb-true _ _ e, some r refl))
    go false e = (some_differs low r h.0, h.1)

pub order_gives : (low id : ℕ) (rs : List ℕ) → Ascends low (with_rank (rank id) rs) → (late_at low (rank id) ≡ false) × Ascends (last_at low (rank id)) rs
order_gives low id rs h = order_gives_at low (rank id) rs (rank_some id) h
