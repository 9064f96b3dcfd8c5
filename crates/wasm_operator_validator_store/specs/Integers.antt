-- What operators on integers give (WebAssembly 3.0, execution, numerics, integer operations), as functions of N, which is how many bits an
-- integer has, and of operands, which are numbers below 2^N. If the standard leaves a result undefined, there is none, and the operator traps.
use Rattle.std.specs.Prelude.{ℕ, ℤ, pos, zero, suc, ◌+◌, ◌-◌, ◌*◌, ◌/◌, ◌%◌, ◌^◌, ◌-ℤ◌, Bool, not, nat_lt, nat_le, int_lt, int_le, int_div, int_rem, bit_and, bit_or, bit_xor, ◌==◌, List, [], ◌∷◌, Option, Some, None, if◌then◌else◌}
use Rattle.wasm_types.specs.trees.Types.{Number, i32, i64}
use Rattle.wasm_operators_enums.specs.declared.numeric.NumericOperator.{NumericOperator}
use Rattle.wasm_operators_enums.specs.declared.numeric.NumericOperator.TheVariants as numeric
use Rattle.wasm_operator_validator_store.specs.Stores.{width, truth, integer_bits}

-- ---- signs

-- so many bits, read as a number with a sign; `integer_bits` writes such a number
abbrev pub signed : ℕ → ℕ → ℤ
signed n a = if nat_lt a (2 ^ (n - 1)) then pos a else pos a -ℤ pos (2 ^ n)

-- ---- sums, products and quotients

abbrev pub iadd : ℕ → ℕ → ℕ → ℕ
iadd n a b = (a + b) % 2 ^ n

abbrev pub isub : ℕ → ℕ → ℕ → ℕ
isub n a b = (a + (2 ^ n - b)) % 2 ^ n

abbrev pub imul : ℕ → ℕ → ℕ → ℕ
imul n a b = (a * b) % 2 ^ n

-- Quotients are rounded toward zero. None is defined by zero, nor if it is 2^(N-1), which is no signed number of N bits.
abbrev pub idiv_u : ℕ → ℕ → ℕ → Option ℕ
idiv_u n a b = if b == 0 then None else Some (a / b)

abbrev pub quotient : ℕ → ℤ → Option ℕ
quotient n q = if int_lt q (pos (2 ^ (n - 1))) then Some (integer_bits n q) else None

abbrev pub idiv_s : ℕ → ℕ → ℕ → Option ℕ
idiv_s n a b = if b == 0 then None else quotient n (int_div (signed n a) (signed n b))

-- what such a quotient leaves, with the sign of the dividend
abbrev pub irem_u : ℕ → ℕ → ℕ → Option ℕ
irem_u n a b = if b == 0 then None else Some (a % b)

abbrev pub irem_s : ℕ → ℕ → ℕ → Option ℕ
irem_s n a b = if b == 0 then None else Some (integer_bits n (int_rem (signed n a) (signed n b)))

-- ---- bits

abbrev pub iand : ℕ → ℕ → ℕ → ℕ
iand n a b = bit_and a b

abbrev pub ior : ℕ → ℕ → ℕ → ℕ
ior n a b = bit_or a b

abbrev pub ixor : ℕ → ℕ → ℕ → ℕ
ixor n a b = bit_xor a b

-- the low bits alone; and so many bits, as a number of more bits, without a sign or with the same one
abbrev pub wrap : ℕ → ℕ → ℕ
wrap n a = a % 2 ^ n

abbrev pub extend_u : ℕ → ℕ → ℕ → ℕ
extend_u m n a = a

abbrev pub extend_s : ℕ → ℕ → ℕ → ℕ
extend_s m n a = integer_bits n (signed m a)

-- the low bits of a number, with their sign
abbrev pub iextend_s : ℕ → ℕ → ℕ → ℕ
iextend_s m n a = extend_s m n (wrap m a)

-- A number is shifted by an amount modulo N. To the right so many bits go out, and zeros come in, or bits like the highest one.
abbrev pub ishl : ℕ → ℕ → ℕ → ℕ
ishl n a k = (a * 2 ^ (k % n)) % 2 ^ n

abbrev pub ishr_u : ℕ → ℕ → ℕ → ℕ
ishr_u n a k = a / 2 ^ (k % n)

abbrev pub ishr_s : ℕ → ℕ → ℕ → ℕ
ishr_s n a k = extend_s (n - k % n) n (a / 2 ^ (k % n))

-- so many low bits go above the high ones
abbrev pub rotated : ℕ → ℕ → ℕ → ℕ
rotated high low a = (a % 2 ^ low) * 2 ^ high + a / 2 ^ low

abbrev pub irotl : ℕ → ℕ → ℕ → ℕ
irotl n a k = rotated (k % n) (n - k % n) a

abbrev pub irotr : ℕ → ℕ → ℕ → ℕ
irotr n a k = rotated (n - k % n) (k % n) a

-- how many zeros come first from the highest bit on, and from the lowest on, and how many ones there are
abbrev pub iclz : ℕ → ℕ → ℕ
iclz zero a = 0
iclz (suc n) a = if nat_lt a (2 ^ n) then suc (iclz n a) else 0

abbrev pub ictz : ℕ → ℕ → ℕ
ictz zero a = 0
ictz (suc n) a = if a % 2 == 0 then suc (ictz n (a / 2)) else 0

abbrev pub ipopcnt : ℕ → ℕ → ℕ
ipopcnt zero a = 0
ipopcnt (suc n) a = a % 2 + ipopcnt n (a / 2)

-- ---- comparisons

abbrev pub ieqz : ℕ → ℕ → Bool
ieqz n a = a == 0

abbrev pub ieq : ℕ → ℕ → ℕ → Bool
ieq n a b = a == b

abbrev pub ine : ℕ → ℕ → ℕ → Bool
ine n a b = not (a == b)

abbrev pub ilt_u : ℕ → ℕ → ℕ → Bool
ilt_u n a b = nat_lt a b

abbrev pub ilt_s : ℕ → ℕ → ℕ → Bool
ilt_s n a b = int_lt (signed n a) (signed n b)

abbrev pub igt_u : ℕ → ℕ → ℕ → Bool
igt_u n a b = nat_lt b a

abbrev pub igt_s : ℕ → ℕ → ℕ → Bool
igt_s n a b = int_lt (signed n b) (signed n a)

abbrev pub ile_u : ℕ → ℕ → ℕ → Bool
ile_u n a b = nat_le a b

abbrev pub ile_s : ℕ → ℕ → ℕ → Bool
ile_s n a b = int_le (signed n a) (signed n b)

abbrev pub ige_u : ℕ → ℕ → ℕ → Bool
ige_u n a b = nat_le b a

abbrev pub ige_s : ℕ → ℕ → ℕ → Bool
ige_s n a b = int_le (signed n b) (signed n a)

-- ---- the table

-- An operator takes integers of these types, the last on top, and gives one of this type. It is made of the one below and of the one on top,
-- if it is defined. Of an operand so many bits are read as its type has.
pub record Operation : Type 0 where
  pub takes : List Number
  pub gives : Number
  pub value : ℕ → ℕ → Option ℕ

abbrev pub converts : Number → Number → (ℕ → ℕ) → Option Operation
converts t u f = Some (record { takes = t ∷ []; gives = u; value = λ a b. Some (f (b % 2 ^ width t)) })

abbrev pub combines : Number → Number → (ℕ → ℕ → Option ℕ) → Option Operation
combines t u f = Some (record { takes = t ∷ t ∷ []; gives = u; value = λ a b. f (a % 2 ^ width t) (b % 2 ^ width t) })

abbrev pub unary : (ℕ → ℕ → ℕ) → Number → Option Operation
unary f t = converts t t (f (width t))

abbrev pub tests : (ℕ → ℕ → Bool) → Number → Option Operation
tests f t = converts t i32 (λ b. truth (f (width t) b))

abbrev pub binary : (ℕ → ℕ → ℕ → ℕ) → Number → Option Operation
binary f t = combines t t (λ a b. Some (f (width t) a b))

abbrev pub divides : (ℕ → ℕ → ℕ → Option ℕ) → Number → Option Operation
divides f t = combines t t (f (width t))

abbrev pub compares : (ℕ → ℕ → ℕ → Bool) → Number → Option Operation
compares f t = combines t i32 (λ a b. Some (truth (f (width t) a b)))

-- without operators on floats, and those by the proposal on wide arithmetic
abbrev pub integer_operation : NumericOperator → Option Operation
integer_operation numeric.I32Eqz = tests ieqz i32
integer_operation numeric.I32Eq = compares ieq i32
integer_operation numeric.I32Ne = compares ine i32
integer_operation numeric.I32LtS = compares ilt_s i32
integer_operation numeric.I32LtU = compares ilt_u i32
integer_operation numeric.I32GtS = compares igt_s i32
integer_operation numeric.I32GtU = compares igt_u i32
integer_operation numeric.I32LeS = compares ile_s i32
integer_operation numeric.I32LeU = compares ile_u i32
integer_operation numeric.I32GeS = compares ige_s i32
integer_operation numeric.I32GeU = compares ige_u i32
integer_operation numeric.I64Eqz = tests ieqz i64
integer_operation numeric.I64Eq = compares ieq i64
integer_operation numeric.I64Ne = compares ine i64
integer_operation numeric.I64LtS = compares ilt_s i64
integer_operation numeric.I64LtU = compares ilt_u i64
integer_operation numeric.I64GtS = compares igt_s i64
integer_operation numeric.I64GtU = compares igt_u i64
integer_operation numeric.I64LeS = compares ile_s i64
integer_operation numeric.I64LeU = compares ile_u i64
integer_operation numeric.I64GeS = compares ige_s i64
integer_operation numeric.I64GeU = compares ige_u i64
integer_operation numeric.I32Clz = unary iclz i32
integer_operation numeric.I32Ctz = unary ictz i32
integer_operation numeric.I32Popcnt = unary ipopcnt i32
integer_operation numeric.I32Add = binary iadd i32
integer_operation numeric.I32Sub = binary isub i32
integer_operation numeric.I32Mul = binary imul i32
integer_operation numeric.I32DivS = divides idiv_s i32
integer_operation numeric.I32DivU = divides idiv_u i32
integer_operation numeric.I32RemS = divides irem_s i32
integer_operation numeric.I32RemU = divides irem_u i32
integer_operation numeric.I32And = binary iand i32
integer_operation numeric.I32Or = binary ior i32
integer_operation numeric.I32Xor = binary ixor i32
integer_operation numeric.I32Shl = binary ishl i32
integer_operation numeric.I32ShrS = binary ishr_s i32
integer_operation numeric.I32ShrU = binary ishr_u i32
integer_operation numeric.I32Rotl = binary irotl i32
integer_operation numeric.I32Rotr = binary irotr i32
integer_operation numeric.I64Clz = unary iclz i64
integer_operation numeric.I64Ctz = unary ictz i64
integer_operation numeric.I64Popcnt = unary ipopcnt i64
integer_operation numeric.I64Add = binary iadd i64
integer_operation numeric.I64Sub = binary isub i64
integer_operation numeric.I64Mul = binary imul i64
integer_operation numeric.I64DivS = divides idiv_s i64
integer_operation numeric.I64DivU = divides idiv_u i64
integer_operation numeric.I64RemS = divides irem_s i64
integer_operation numeric.I64RemU = divides irem_u i64
integer_operation numeric.I64And = binary iand i64
integer_operation numeric.I64Or = binary ior i64
integer_operation numeric.I64Xor = binary ixor i64
integer_operation numeric.I64Shl = binary ishl i64
integer_operation numeric.I64ShrS = binary ishr_s i64
integer_operation numeric.I64ShrU = binary ishr_u i64
integer_operation numeric.I64Rotl = binary irotl i64
integer_operation numeric.I64Rotr = binary irotr i64
integer_operation numeric.I32WrapI64 = converts i64 i32 (wrap 32)
integer_operation numeric.I64ExtendI32S = converts i32 i64 (extend_s 32 64)
integer_operation numeric.I64ExtendI32U = converts i32 i64 (extend_u 32 64)
integer_operation numeric.I32Extend8S = unary (iextend_s 8) i32
integer_operation numeric.I32Extend16S = unary (iextend_s 16) i32
integer_operation numeric.I64Extend8S = unary (iextend_s 8) i64
integer_operation numeric.I64Extend16S = unary (iextend_s 16) i64
integer_operation numeric.I64Extend32S = unary (iextend_s 32) i64
integer_operation o = None
