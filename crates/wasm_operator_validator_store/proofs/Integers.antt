-- What operators on integers give is within their widths, and what their table says of each.
use Rattle.std.proofs.Common.{◌≡◌, ℕ, ℤ, pos, negsuc, zero, suc, ◌+◌, ◌-◌, ◌*◌, ◌/◌, ◌%◌, ◌^◌, ◌<◌, ◌≤◌, ◌==◌, Bool, true, false, nat_lt, int_lt, int_div, int_rem, List, [], ◌∷◌, Option, Some, None, is_some, if◌then◌else◌, refl, sym, subst, ap, ◌∙◌, inl, inr, arith, pow_pos, div-le_self, true≢false}
use Rattle.std.specs.Prelude.{◌⊎◌}
use Rattle.std.proofs.lemmas.Bool.{eqb-false}
use Rattle.std.proofs.lemmas.Nat.{mod_below, and_le_l, or_lt, xor_lt, shr_below, mul-add-lt, pow-add}
use Rattle.wasm_types.specs.trees.Types.{Number, i32, i64, f32, f64, v128}
use Rattle.wasm_operators_enums.specs.declared.numeric.NumericOperator.{NumericOperator}
use Rattle.wasm_operators_enums.specs.declared.numeric.NumericOperator.TheVariants as numeric
use Rattle.wasm_operators_enums.specs.Table.{info_of}
use Rattle.wasm_operators_enums.specs.Op as op
use Rattle.wasm_operator_validator_soundness.specs.runs.Names.{computed}
use Rattle.wasm_operator_validator_soundness.specs.runs.Progress.{can_trap}
use Rattle.wasm_operator_validator_store.specs.Stores.{width, truth, integer_bits}
use Rattle.wasm_operator_validator_store.specs.Integers.{signed, iadd, isub, imul, idiv_u, quotient, idiv_s, irem_u, irem_s, iand, ior, ixor, wrap, extend_u, extend_s, iextend_s, ishl, ishr_u, ishr_s, rotated, irotl, irotr, iclz, ictz, ipopcnt, ieqz, ieq, ine, ilt_u, ilt_s, igt_u, igt_s, ile_u, ile_s, ige_u, ige_s, Operation, converts, tests, binary, divides, compares, integer_operation}

-- ---- functions of integers

abbrev pub IsBelow : ℕ → Option ℕ → Type 0
IsBelow m None = Unit {0}
IsBelow m (Some b) = b < m

low : (n k : ℕ) → k % 2 ^ n < 2 ^ n
low n k = mod_below k (2 ^ n) (pow_pos n)

less : (m k : ℕ) → k < m → m - suc k < m
less m k h = omega (arith, h)

bits_below : (n : ℕ) (z : ℤ) → integer_bits n z < 2 ^ n
bits_below n (pos k) = low n k
bits_below n (negsuc k) = less (2 ^ n) (k % 2 ^ n) (low n k)

down : (m a b : ℕ) → a < m → b ≤ a → b < m
down m a b h l = omega (arith, h, l)

quotient_below : (n : ℕ) (q : ℤ) → IsBelow (2 ^ n) (quotient n q)
quotient_below n q = at (int_lt q (pos (2 ^ (n - 1))))
  where
    at : (t : Bool) → IsBelow (2 ^ n) (if t then Some (integer_bits n q) else None)
    at true = bits_below n q
    at false = tt

-- none by zero
positive : (b : ℕ) → (b ≡ 0 → ⊥) → 0 < b
positive zero f = absurd (f refl)
positive (suc b) f = omega arith

by : (m b : ℕ) (o : Option ℕ) → (0 < b → IsBelow m o) → IsBelow m (if b == 0 then None else o)
by m b o h = at (b == 0) refl
  where
    at : (t : Bool) → (b == 0) ≡ t → IsBelow m (if t then None else o)
    at true e = tt
    at false e = h (positive b (eqb-false b 0 e))

rotated_below : (n high low a : ℕ) → high + low ≡ n → a < 2 ^ n → rotated high low a < 2 ^ n
rotated_below n high low a e h =
    let m : a < 2 ^ (high + low) = subst (λ k. a < 2 ^ k) (sym e) h in
    subst (λ k. rotated high low a < k) (sym (pow-add 2 high low) ∙ ap (λ k. 2 ^ k) e)
    (mul-add-lt (a % 2 ^ low) (2 ^ high) (a / 2 ^ low) (2 ^ low) (mod_below a (2 ^ low) (pow_pos low)) (shr_below a high low m))

left : (n k : ℕ) → k < n → k + (n - k) ≡ n
left n k h = omega (arith, h)

right : (n k : ℕ) → k < n → (n - k) + k ≡ n
right n k h = omega (arith, h)

clz_below : (n a : ℕ) → iclz n a ≤ n
clz_below zero a = omega arith
clz_below (suc n) a = at (nat_lt a (2 ^ n)) (clz_below n a)
  where
    at : (t : Bool) → iclz n a ≤ n → (if t then suc (iclz n a) else 0) ≤ suc n
    at true l = omega (arith, l)
    at false l = omega arith

ctz_below : (n a : ℕ) → ictz n a ≤ n
ctz_below zero a = omega arith
ctz_below (suc n) a = at (a % 2 == 0) (ctz_below n (a / 2))
  where
    at : (t : Bool) → ictz n (a / 2) ≤ n → (if t then suc (ictz n (a / 2)) else 0) ≤ suc n
    at true l = omega (arith, l)
    at false l = omega arith

one_more : (b k n : ℕ) → b < 2 → k ≤ n → b + k ≤ suc n
one_more b k n h l = omega (arith, h, l)

popcnt_below : (n a : ℕ) → ipopcnt n a ≤ n
popcnt_below zero a = omega arith
popcnt_below (suc n) a = one_more (a % 2) (ipopcnt n (a / 2)) n (mod_below a 2 (omega arith)) (popcnt_below n (a / 2))

-- of two operands, and of one
abbrev StaysBelow : (ℕ → ℕ → ℕ → ℕ) → Type 0
StaysBelow f = (n a b : ℕ) → 0 < n → a < 2 ^ n → b < 2 ^ n → f n a b < 2 ^ n

abbrev DividesBelow : (ℕ → ℕ → ℕ → Option ℕ) → Type 0
DividesBelow f = (n a b : ℕ) → a < 2 ^ n → b < 2 ^ n → IsBelow (2 ^ n) (f n a b)

add_below : StaysBelow iadd
add_below n a b p h g = low n (a + b)

sub_below : StaysBelow isub
sub_below n a b p h g = low n (a + (2 ^ n - b))

mul_below : StaysBelow imul
mul_below n a b p h g = low n (a * b)

div_u_below : DividesBelow idiv_u
div_u_below n a b h g = by (2 ^ n) b (Some (a / b)) (λ p. down (2 ^ n) a (a / b) h (div-le_self a b))

div_s_below : DividesBelow idiv_s
div_s_below n a b h g = by (2 ^ n) b (quotient n (int_div (signed n a) (signed n b))) (λ p. quotient_below n (int_div (signed n a) (signed n b)))

rem_u_below : DividesBelow irem_u
rem_u_below n a b h g = by (2 ^ n) b (Some (a % b)) (λ p. omega (arith, mod_below a b p, g))

rem_s_below : DividesBelow irem_s
rem_s_below n a b h g = by (2 ^ n) b (Some (integer_bits n (int_rem (signed n a) (signed n b)))) (λ p. bits_below n (int_rem (signed n a) (signed n b)))

and_below : StaysBelow iand
and_below n a b p h g = down (2 ^ n) a (iand n a b) h (and_le_l a b)

or_below : StaysBelow ior
or_below n a b p h g = or_lt n a b h g

xor_below : StaysBelow ixor
xor_below n a b p h g = xor_lt n a b h g

shl_below : StaysBelow ishl
shl_below n a k p h g = low n (a * 2 ^ (k % n))

shr_u_below : StaysBelow ishr_u
shr_u_below n a k p h g = down (2 ^ n) a (a / 2 ^ (k % n)) h (div-le_self a (2 ^ (k % n)))

shr_s_below : StaysBelow ishr_s
shr_s_below n a k p h g = bits_below n (signed (n - k % n) (a / 2 ^ (k % n)))

rotl_below : StaysBelow irotl
rotl_below n a k p h g = rotated_below n (k % n) (n - k % n) a (left n (k % n) (mod_below k n p)) h

rotr_below : StaysBelow irotr
rotr_below n a k p h g = rotated_below n (n - k % n) (k % n) a (right n (k % n) (mod_below k n p)) h

-- counts of bits are far below
few : (k n m : ℕ) → n < m → k ≤ n → k < m
few k n m l h = omega (arith, h, l)

truth_below : (b : Bool) → truth b < 2 ^ 32
truth_below true = omega arith
truth_below false = omega arith

-- ---- rows of the table

abbrev pub IsInteger : Number → Type 0
IsInteger i32 = Unit {0}
IsInteger i64 = Unit {0}
IsInteger n = ⊥

-- by its name the operator takes and gives these
abbrev IsNamed : NumericOperator → List Number → Number → Type 0
IsNamed o ts u = computed (info_of (op.Numeric o)).name ≡ Some (record { takes = ts; gives = u ∷ [] })

-- one integer, and what lies below does not count; or two of one type
abbrev pub HasOperands : Operation → Type 0
HasOperands r = (t : Number) × IsInteger t
    × (((r.takes ≡ t ∷ []) × ((a c b : ℕ) → r.value a b ≡ r.value c b)) ⊎ (r.takes ≡ t ∷ t ∷ []))

pub record IsRow (o : NumericOperator) (r : Operation) : Type 0 where
  pub places : IsNamed o r.takes r.gives
  pub narrow : (a b : ℕ) → IsBelow (2 ^ width r.gives) (r.value a b)
  pub defined : can_trap (op.Numeric o) ≡ false → (a b : ℕ) → is_some (r.value a b) ≡ true
  pub integer : IsInteger r.gives
  pub operands : HasOperands r

abbrev IsRowOf : NumericOperator → Option Operation → Type 0
IsRowOf o None = Unit {0}
IsRowOf o (Some r) = IsRow o r

bits : (t : Number) (a : ℕ) → a % 2 ^ width t < 2 ^ width t
bits t a = low (width t) a

long : (t : Number) → IsInteger t → 0 < width t
long i32 i = omega arith
long i64 i = omega arith
long f32 i = absurd i
long f64 i = absurd i
long v128 i = absurd i

module _ (o : NumericOperator) (t : Number) where
  converts_row : (u : Number) (f : ℕ → ℕ) → IsInteger t → IsInteger u → IsNamed o (t ∷ []) u
      → ((b : ℕ) → b < 2 ^ width t → f b < 2 ^ width u) → IsRowOf o (converts t u f)
  converts_row u f i j e g = record {
    places = e;
    narrow = λ a b. g (b % 2 ^ width t) (bits t b);
    defined = λ c a b. refl;
    integer = j;
    operands = (t, i, inl (refl, λ a c b. refl));
  }

  tests_row : (f : ℕ → ℕ → Bool) → IsInteger t → IsNamed o (t ∷ []) i32 → IsRowOf o (tests f t)
  tests_row f i e = converts_row i32 (λ b. truth (f (width t) b)) i tt e (λ b h. truth_below (f (width t) b))

  binary_row : (f : ℕ → ℕ → ℕ → ℕ) → IsInteger t → IsNamed o (t ∷ t ∷ []) t → StaysBelow f → IsRowOf o (binary f t)
  binary_row f i e g = record {
    places = e;
    narrow = λ a b. g (width t) (a % 2 ^ width t) (b % 2 ^ width t) (long t i) (bits t a) (bits t b);
    defined = λ c a b. refl;
    integer = i;
    operands = (t, i, inr refl);
  }

  divides_row : (f : ℕ → ℕ → ℕ → Option ℕ) → IsInteger t → IsNamed o (t ∷ t ∷ []) t → can_trap (op.Numeric o) ≡ true → DividesBelow f
      → IsRowOf o (divides f t)
  divides_row f i e c g = record {
    places = e;
    narrow = λ a b. g (width t) (a % 2 ^ width t) (b % 2 ^ width t) (bits t a) (bits t b);
    defined = λ d a b. absurd (true≢false (sym c ∙ d));
    integer = i;
    operands = (t, i, inr refl);
  }

  compares_row : (f : ℕ → ℕ → ℕ → Bool) → IsInteger t → IsNamed o (t ∷ t ∷ []) i32 → IsRowOf o (compares f t)
  compares_row f i e = record {
    places = e;
    narrow = λ a b. truth_below (f (width t) (a % 2 ^ width t) (b % 2 ^ width t));
    defined = λ c a b. refl;
    integer = tt;
    operands = (t, i, inr refl);
  }

rows : (o : NumericOperator) → IsRowOf o (integer_operation o)
rows numeric.I32Eqz = tests_row numeric.I32Eqz i32 ieqz tt refl
rows numeric.I32Eq = compares_row numeric.I32Eq i32 ieq tt refl
rows numeric.I32Ne = compares_row numeric.I32Ne i32 ine tt refl
rows numeric.I32LtS = compares_row numeric.I32LtS i32 ilt_s tt refl
rows numeric.I32LtU = compares_row numeric.I32LtU i32 ilt_u tt refl
rows numeric.I32GtS = compares_row numeric.I32GtS i32 igt_s tt refl
rows numeric.I32GtU = compares_row numeric.I32GtU i32 igt_u tt refl
rows numeric.I32LeS = compares_row numeric.I32LeS i32 ile_s tt refl
rows numeric.I32LeU = compares_row numeric.I32LeU i32 ile_u tt refl
rows numeric.I32GeS = compares_row numeric.I32GeS i32 ige_s tt refl
rows numeric.I32GeU = compares_row numeric.I32GeU i32 ige_u tt refl
rows numeric.I64Eqz = tests_row numeric.I64Eqz i64 ieqz tt refl
rows numeric.I64Eq = compares_row numeric.I64Eq i64 ieq tt refl
rows numeric.I64Ne = compares_row numeric.I64Ne i64 ine tt refl
rows numeric.I64LtS = compares_row numeric.I64LtS i64 ilt_s tt refl
rows numeric.I64LtU = compares_row numeric.I64LtU i64 ilt_u tt refl
rows numeric.I64GtS = compares_row numeric.I64GtS i64 igt_s tt refl
rows numeric.I64GtU = compares_row numeric.I64GtU i64 igt_u tt refl
rows numeric.I64LeS = compares_row numeric.I64LeS i64 ile_s tt refl
rows numeric.I64LeU = compares_row numeric.I64LeU i64 ile_u tt refl
rows numeric.I64GeS = compares_row numeric.I64GeS i64 ige_s tt refl
rows numeric.I64GeU = compares_row numeric.I64GeU i64 ige_u tt refl
rows numeric.I32Clz = converts_row numeric.I32Clz i32 i32 (iclz 32) tt tt refl (λ b h. few (iclz 32 b) 32 (2 ^ 32) (omega arith) (clz_below 32 b))
rows numeric.I32Ctz = converts_row numeric.I32Ctz i32 i32 (ictz 32) tt tt refl (λ b h. few (ictz 32 b) 32 (2 ^ 32) (omega arith) (ctz_below 32 b))
rows numeric.I32Popcnt = converts_row numeric.I32Popcnt i32 i32 (ipopcnt 32) tt tt refl
    (λ b h. few (ipopcnt 32 b) 32 (2 ^ 32) (omega arith) (popcnt_below 32 b))
rows numeric.I32Add = binary_row numeric.I32Add i32 iadd tt refl add_below
rows numeric.I32Sub = binary_row numeric.I32Sub i32 isub tt refl sub_below
rows numeric.I32Mul = binary_row numeric.I32Mul i32 imul tt refl mul_below
rows numeric.I32DivS = divides_row numeric.I32DivS i32 idiv_s tt refl refl div_s_below
rows numeric.I32DivU = divides_row numeric.I32DivU i32 idiv_u tt refl refl div_u_below
rows numeric.I32RemS = divides_row numeric.I32RemS i32 irem_s tt refl refl rem_s_below
rows numeric.I32RemU = divides_row numeric.I32RemU i32 irem_u tt refl refl rem_u_below
rows numeric.I32And = binary_row numeric.I32And i32 iand tt refl and_below
rows numeric.I32Or = binary_row numeric.I32Or i32 ior tt refl or_below
rows numeric.I32Xor = binary_row numeric.I32Xor i32 ixor tt refl xor_below
rows numeric.I32Shl = binary_row numeric.I32Shl i32 ishl tt refl shl_below
rows numeric.I32ShrS = binary_row numeric.I32ShrS i32 ishr_s tt refl shr_s_below
rows numeric.I32ShrU = binary_row numeric.I32ShrU i32 ishr_u tt refl shr_u_below
rows numeric.I32Rotl = binary_row numeric.I32Rotl i32 irotl tt refl rotl_below
rows numeric.I32Rotr = binary_row numeric.I32Rotr i32 irotr tt refl rotr_below
rows numeric.I64Clz = converts_row numeric.I64Clz i64 i64 (iclz 64) tt tt refl (λ b h. few (iclz 64 b) 64 (2 ^ 64) (omega arith) (clz_below 64 b))
rows numeric.I64Ctz = converts_row numeric.I64Ctz i64 i64 (ictz 64) tt tt refl (λ b h. few (ictz 64 b) 64 (2 ^ 64) (omega arith) (ctz_below 64 b))
rows numeric.I64Popcnt = converts_row numeric.I64Popcnt i64 i64 (ipopcnt 64) tt tt refl
    (λ b h. few (ipopcnt 64 b) 64 (2 ^ 64) (omega arith) (popcnt_below 64 b))
rows numeric.I64Add = binary_row numeric.I64Add i64 iadd tt refl add_below
rows numeric.I64Sub = binary_row numeric.I64Sub i64 isub tt refl sub_below
rows numeric.I64Mul = binary_row numeric.I64Mul i64 imul tt refl mul_below
rows numeric.I64DivS = divides_row numeric.I64DivS i64 idiv_s tt refl refl div_s_below
rows numeric.I64DivU = divides_row numeric.I64DivU i64 idiv_u tt refl refl div_u_below
rows numeric.I64RemS = divides_row numeric.I64RemS i64 irem_s tt refl refl rem_s_below
rows numeric.I64RemU = divides_row numeric.I64RemU i64 irem_u tt refl refl rem_u_below
rows numeric.I64And = binary_row numeric.I64And i64 iand tt refl and_below
rows numeric.I64Or = binary_row numeric.I64Or i64 ior tt refl or_below
rows numeric.I64Xor = binary_row numeric.I64Xor i64 ixor tt refl xor_below
rows numeric.I64Shl = binary_row numeric.I64Shl i64 ishl tt refl shl_below
rows numeric.I64ShrS = binary_row numeric.I64ShrS i64 ishr_s tt refl shr_s_below
rows numeric.I64ShrU = binary_row numeric.I64ShrU i64 ishr_u tt refl shr_u_below
rows numeric.I64Rotl = binary_row numeric.I64Rotl i64 irotl tt refl rotl_below
rows numeric.I64Rotr = binary_row numeric.I64Rotr i64 irotr tt refl rotr_below
rows numeric.I32WrapI64 = converts_row numeric.I32WrapI64 i64 i32 (wrap 32) tt tt refl (λ b h. low 32 b)
rows numeric.I64ExtendI32S = converts_row numeric.I64ExtendI32S i32 i64 (extend_s 32 64) tt tt refl (λ b h. bits_below 64 (signed 32 b))
rows numeric.I64ExtendI32U = converts_row numeric.I64ExtendI32U i32 i64 (extend_u 32 64) tt tt refl (λ b h. omega (arith, h))
rows numeric.I32Extend8S = converts_row numeric.I32Extend8S i32 i32 (iextend_s 8 32) tt tt refl (λ b h. bits_below 32 (signed 8 (wrap 8 b)))
rows numeric.I32Extend16S = converts_row numeric.I32Extend16S i32 i32 (iextend_s 16 32) tt tt refl (λ b h. bits_below 32 (signed 16 (wrap 16 b)))
rows numeric.I64Extend8S = converts_row numeric.I64Extend8S i64 i64 (iextend_s 8 64) tt tt refl (λ b h. bits_below 64 (signed 8 (wrap 8 b)))
rows numeric.I64Extend16S = converts_row numeric.I64Extend16S i64 i64 (iextend_s 16 64) tt tt refl (λ b h. bits_below 64 (signed 16 (wrap 16 b)))
rows numeric.I64Extend32S = converts_row numeric.I64Extend32S i64 i64 (iextend_s 32 64) tt tt refl (λ b h. bits_below 64 (signed 32 (wrap 32 b)))
rows o = tt

pub row_is : (o : NumericOperator) (r : Operation) → integer_operation o ≡ Some r → IsRow o r
row_is o r e = subst (IsRowOf o) e (rows o)
