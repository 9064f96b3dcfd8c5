-- When signed division is not defined: by zero, and of the least number by -1.
use Rattle.std.proofs.Common.{◌≡◌, ℕ, ℤ, pos, negsuc, zero, suc, ◌+◌, ◌-◌, ◌*◌, ◌/◌, ◌^◌, ◌<◌, ◌≤◌, ◌==◌, ◌-ℤ◌, neg_ℤ, Bool, true, false, nat_lt, int_lt, int_div, Some, None, if◌then◌else◌, refl, sym, subst, subst₂, is_some, ap, ◌∙◌, inl, inr, ⊎_elim, arith, pow_pos, div-le_self, div-one, div-lt_iff_lt-mul, true≢false, ◌%◌, int_rem}
use Rattle.std.specs.Prelude.{◌⊎◌, ◌↔◌}
use Rattle.std.proofs.lemmas.Bool.{lt-ltb, le-ltb, eqb-true, eqb-false, cases_lt}
use Rattle.std.proofs.lemmas.Nat.{mul-le}
use Rattle.std.proofs.lemmas.Int.{ints}
use Rattle.wasm_operator_validator_store.specs.Stores.{integer_bits}
use Rattle.wasm_operator_validator_store.specs.Integers.{signed, quotient, idiv_s}
use Rattle.wasm_operator_validator_store.specs.Folding.{DivisionIsExact, DivisionsAreExact}

-- a number without a sign, and with one
pub low : (n a : ℕ) → a < 2 ^ (n - 1) → signed n a ≡ pos a
low n a h = ap (λ t. if t then pos a else pos a -ℤ pos (2 ^ n)) (lt-ltb a (2 ^ (n - 1)) h)

down : (m a : ℕ) → a < m → pos a -ℤ pos m ≡ negsuc (m - suc a)
down m a h = omega (arith, ints, h)

pub high : (n a : ℕ) → 2 ^ (n - 1) ≤ a → a < 2 ^ n → signed n a ≡ negsuc (2 ^ n - suc a)
high n a l h = ap (λ t. if t then pos a else pos a -ℤ pos (2 ^ n)) (le-ltb a (2 ^ (n - 1)) l) ∙ down (2 ^ n) a h

-- a quotient of a sign or another is too small
small : (x y h : ℕ) → x < h → nat_lt (x / y) h ≡ true
small x y h l = lt-ltb (x / y) h (omega (arith, l, div-le_self x y))

below : (k h : ℕ) → 0 < h → int_lt (neg_ℤ (pos k)) (pos h) ≡ true
below zero h l = lt-ltb 0 h l
below (suc k) h l = refl

-- halved at least
double : (h y : ℕ) → 2 ≤ y → h * 2 ≤ h * y
double h y m = mul-le h 2 h y (omega arith) m

twice : (x y h : ℕ) → 0 < h → x ≤ h → 2 ≤ y → x / y < h
twice x y h p l m = (div-lt_iff_lt-mul (omega (arith, m))).1 (omega (arith, p, l, double h y m))

none : {A : Type 0} (x : ℕ) → Some x ≡ None → A
none x e = absurd (true≢false (ap is_some e))

module _ (n a b : ℕ) (e : 2 ^ n ≡ 2 ^ (n - 1) + 2 ^ (n - 1)) (g : a < 2 ^ n) (h : b < 2 ^ n) where
  -- the least number by -1
  abbrev IsLeast : Type 0
  IsLeast = (a ≡ 2 ^ (n - 1)) × (b ≡ 2 ^ n - 1)

  abbrev fits : ℤ → ℤ → Bool
  fits x y = int_lt (int_div x y) (pos (2 ^ (n - 1)))

  -- the quotient is less than half of the numbers, or it is that one
  abbrev Decided : ℤ → ℤ → Type 0
  Decided x y = ((fits x y ≡ true) × (IsLeast → ⊥)) ⊎ ((fits x y ≡ false) × IsLeast)

  half : 0 < 2 ^ (n - 1)
  half = pow_pos (n - 1)

  both : 2 ^ (n - 1) ≤ a → 2 ^ (n - 1) ≤ b → Decided (negsuc (2 ^ n - suc a)) (negsuc (2 ^ n - suc b))
  both l m = at (cases_lt (suc b) (2 ^ n))
    where
      least : 2 ^ n ≤ suc b → (suc (2 ^ n - suc a) < 2 ^ (n - 1)) ⊎ (2 ^ (n - 1) ≤ suc (2 ^ n - suc a))
          → Decided (negsuc (2 ^ n - suc a)) (negsuc (2 ^ n - suc b))
      least q (inl s) = inl (small (suc (2 ^ n - suc a)) (suc (2 ^ n - suc b)) (2 ^ (n - 1)) s, λ i. absurd (omega (arith, i.0, s, e, g)))
      least q (inr s) = inr (
        le-ltb (suc (2 ^ n - suc a) / suc (2 ^ n - suc b)) (2 ^ (n - 1))
            (subst (λ k. 2 ^ (n - 1) ≤ suc (2 ^ n - suc a) / k) (sym (one q)) (subst (λ k. 2 ^ (n - 1) ≤ k) (sym (div-one (suc (2 ^ n - suc a)))) s)),
        (omega (arith, s, l, e, g), omega (arith, q, h)),
      )
        where
          one : 2 ^ n ≤ suc b → suc (2 ^ n - suc b) ≡ 1
          one q = omega (arith, q, h)

      at : (suc b < 2 ^ n) ⊎ (2 ^ n ≤ suc b) → Decided (negsuc (2 ^ n - suc a)) (negsuc (2 ^ n - suc b))
      at (inl q) = inl (
        lt-ltb (suc (2 ^ n - suc a) / suc (2 ^ n - suc b)) (2 ^ (n - 1))
            (twice (suc (2 ^ n - suc a)) (suc (2 ^ n - suc b)) (2 ^ (n - 1)) half (omega (arith, l, e, g)) (omega (arith, q))),
        λ i. absurd (omega (arith, i.1, q)),
      )
      at (inr q) = least q (cases_lt (suc (2 ^ n - suc a)) (2 ^ (n - 1)))

  decided : Decided (signed n a) (signed n b)
  decided = at (cases_lt a (2 ^ (n - 1))) (cases_lt b (2 ^ (n - 1)))
    where
      at : (a < 2 ^ (n - 1)) ⊎ (2 ^ (n - 1) ≤ a) → (b < 2 ^ (n - 1)) ⊎ (2 ^ (n - 1) ≤ b) → Decided (signed n a) (signed n b)
      at (inl l) (inl m) = subst₂ Decided (sym (low n a l)) (sym (low n b m)) (inl (small a b (2 ^ (n - 1)) l, λ i. absurd (omega (arith, i.0, l))))
      at (inl l) (inr m) = subst₂ Decided (sym (low n a l)) (sym (high n b m h))
          (inl (below (a / suc (2 ^ n - suc b)) (2 ^ (n - 1)) half, λ i. absurd (omega (arith, i.0, l))))
      at (inr l) (inl m) = subst₂ Decided (sym (high n a l g)) (sym (low n b m))
          (inl (below (suc (2 ^ n - suc a) / b) (2 ^ (n - 1)) half, λ i. absurd (omega (arith, i.1, m, e, half))))
      at (inr l) (inr m) = subst₂ Decided (sym (high n a l g)) (sym (high n b m h)) (both l m)

  abbrev q : ℤ
  q = int_div (signed n a) (signed n b)

  undefined : idiv_s n a b ≡ None → (b ≡ 0) ⊎ IsLeast
  undefined = at (b == 0) refl
    where
      less : fits (signed n a) (signed n b) ≡ true → quotient n q ≡ None → IsLeast
      less t d = none (integer_bits n q) (sym (ap (λ k. if k then Some (integer_bits n q) else None) t) ∙ d)

      at : (t : Bool) → (b == 0) ≡ t → (if t then None else quotient n q) ≡ None → (b ≡ 0) ⊎ IsLeast
      at true d k = inl (eqb-true b 0 d)
      at false d k = inr (⊎_elim (λ i. less i.0 k) (λ i. i.1) decided)

  overflows : IsLeast → quotient n q ≡ None
  overflows i = ⊎_elim (λ k. absurd (k.1 i)) (λ k. ap (λ t. if t then Some (integer_bits n q) else None) k.0) decided

  none_defined : (b ≡ 0) ⊎ IsLeast → idiv_s n a b ≡ None
  none_defined k = at (b == 0) refl k
    where
      at : (t : Bool) → (b == 0) ≡ t → (b ≡ 0) ⊎ IsLeast → (if t then None else quotient n q) ≡ None
      at true d k = refl
      at false d (inl z) = absurd (eqb-false b 0 d z)
      at false d (inr i) = overflows i

pub division_exact : (n : ℕ) → 2 ^ n ≡ 2 ^ (n - 1) + 2 ^ (n - 1) → DivisionIsExact n
division_exact n e a b g h = (undefined n a b e g h, none_defined n a b e g h)

-- by zero alone
by_zero : (b x : ℕ) → ((if b == 0 then None else Some x) ≡ None) ↔ (b ≡ 0)
by_zero b x = at (b == 0) refl
  where
    at : (t : Bool) → (b == 0) ≡ t → ((if t then None else Some x) ≡ None) ↔ (b ≡ 0)
    at true d = ((λ k. eqb-true b 0 d), (λ z. refl))
    at false d = ((λ k. none x k), (λ z. absurd (eqb-false b 0 d z)))

pub divisions_exact : DivisionsAreExact
divisions_exact = record {
  narrow = division_exact 32 (omega arith);
  wide = division_exact 64 (omega arith);
  unsigned = λ n a b. by_zero b (a / b);
  rest = λ n a b. by_zero b (integer_bits n (int_rem (signed n a) (signed n b)));
  unsigned_rest = λ n a b. by_zero b (a % b);
}
