-- Worked rows of the tables of operators on integers and of accesses, one for each name: the types, the bytes that are reached, and what is
-- made of a few numbers.
use Rattle.std.specs.Prelude.{◌≡◌, ℕ, List, [], ◌∷◌, map, take, Option, Some, None, option_map}
use Rattle.wasm_types.specs.trees.Types.{Number, i32, i64, f32, f64, v128}
use Rattle.wasm_operators_immediates.specs.declared.memory.MemArg.{MemArg}
use Rattle.wasm_operators_enums.specs.declared.atomic.AtomicOperator.TheVariants as atomic
use Rattle.wasm_operators_enums.specs.declared.memory.MemoryOperator.TheVariants as memory
use Rattle.wasm_operators_enums.specs.declared.numeric.NumericOperator.TheVariants as numeric
use Rattle.wasm_operators_enums.specs.declared.vector.SimdOperator.TheVariants as simd
use Rattle.wasm_operator_validator_store.specs.Memories.{number_of, bytes_of, Access, reads, writes, Reach, memory_access, simd_access}
use Rattle.wasm_operator_validator_store.specs.Atomics.{AtomicAccess, atomic_access}
use Rattle.wasm_operator_validator_store.specs.Integers.{Operation, integer_operation}
use Rattle.wasm_operator_validator_store.specs.worked.Memories.{at}

-- ---- operators on integers

-- what an operator takes and gives, and what it makes of each of these operands
pub data Calculated : Type 0 where
  calculated : List Number → Number → List (Option ℕ) → Calculated

-- the one below, and the one on top
pub record Operands : Type 0 where
  pub below : ℕ
  pub top : ℕ

abbrev pub pair : ℕ → ℕ → Operands
pair a b = record { below = a; top = b }

abbrev pub of_pairs : Option Operation → List Operands → Option Calculated
of_pairs None xs = None
of_pairs (Some r) xs = Some (calculated r.takes r.gives (map (λ (x : Operands). r.value x.below x.top) xs))

abbrev pub of_numbers : Option Operation → List ℕ → Option Calculated
of_numbers o bs = of_pairs o (map (pair 0) bs)

abbrev pub combining : Number → Number → List (Option ℕ) → Option Calculated
combining t u bs = Some (calculated (t ∷ t ∷ []) u bs)

abbrev pub converting : Number → Number → List (Option ℕ) → Option Calculated
converting t u bs = Some (calculated (t ∷ []) u bs)

-- small numbers, negative ones, zero, an amount past the width, and the least number by -1; and single ones
abbrev pub narrow_pairs : List Operands
narrow_pairs = pair 1 2 ∷ pair 2 1 ∷ pair 3 3 ∷ pair 4294967289 2 ∷ pair 2 4294967289 ∷ pair 7 0 ∷ pair 2147483649 33 ∷ pair 2147483648 4294967295 ∷ []

abbrev pub narrow_numbers : List ℕ
narrow_numbers = 0 ∷ 6 ∷ 128 ∷ 33152 ∷ 2147512560 ∷ []

abbrev pub wide_pairs : List Operands
wide_pairs = pair 1 2 ∷ pair 2 1 ∷ pair 3 3 ∷ pair 18446744073709551609 2 ∷ pair 2 18446744073709551609 ∷ pair 7 0 ∷ pair 9223372036854775809 65 ∷ pair 9223372036854775808 18446744073709551615 ∷ []

abbrev pub wide_numbers : List ℕ
wide_numbers = 0 ∷ 6 ∷ 128 ∷ 33152 ∷ 9223372036854804720 ∷ 2147483649 ∷ 17361641479235141503 ∷ []

-- toward zero, by the amount modulo the width, with a sign and without
pub record IntegerTableWorked : Type 0 where
  pub i32_eqz : of_numbers (integer_operation numeric.I32Eqz) narrow_numbers ≡ converting i32 i32 (Some 1 ∷ Some 0 ∷ Some 0 ∷ Some 0 ∷ Some 0 ∷ [])
  pub i32_eq : of_pairs (integer_operation numeric.I32Eq) narrow_pairs ≡ combining i32 i32 (Some 0 ∷ Some 0 ∷ Some 1 ∷ Some 0 ∷ Some 0 ∷ Some 0 ∷ Some 0 ∷ Some 0 ∷ [])
  pub i32_ne : of_pairs (integer_operation numeric.I32Ne) narrow_pairs ≡ combining i32 i32 (Some 1 ∷ Some 1 ∷ Some 0 ∷ Some 1 ∷ Some 1 ∷ Some 1 ∷ Some 1 ∷ Some 1 ∷ [])
  pub i32_lt_s : of_pairs (integer_operation numeric.I32LtS) narrow_pairs ≡ combining i32 i32 (Some 1 ∷ Some 0 ∷ Some 0 ∷ Some 1 ∷ Some 0 ∷ Some 0 ∷ Some 1 ∷ Some 1 ∷ [])
  pub i32_lt_u : of_pairs (integer_operation numeric.I32LtU) narrow_pairs ≡ combining i32 i32 (Some 1 ∷ Some 0 ∷ Some 0 ∷ Some 0 ∷ Some 1 ∷ Some 0 ∷ Some 0 ∷ Some 1 ∷ [])
  pub i32_gt_s : of_pairs (integer_operation numeric.I32GtS) narrow_pairs ≡ combining i32 i32 (Some 0 ∷ Some 1 ∷ Some 0 ∷ Some 0 ∷ Some 1 ∷ Some 1 ∷ Some 0 ∷ Some 0 ∷ [])
  pub i32_gt_u : of_pairs (integer_operation numeric.I32GtU) narrow_pairs ≡ combining i32 i32 (Some 0 ∷ Some 1 ∷ Some 0 ∷ Some 1 ∷ Some 0 ∷ Some 1 ∷ Some 1 ∷ Some 0 ∷ [])
  pub i32_le_s : of_pairs (integer_operation numeric.I32LeS) narrow_pairs ≡ combining i32 i32 (Some 1 ∷ Some 0 ∷ Some 1 ∷ Some 1 ∷ Some 0 ∷ Some 0 ∷ Some 1 ∷ Some 1 ∷ [])
  pub i32_le_u : of_pairs (integer_operation numeric.I32LeU) narrow_pairs ≡ combining i32 i32 (Some 1 ∷ Some 0 ∷ Some 1 ∷ Some 0 ∷ Some 1 ∷ Some 0 ∷ Some 0 ∷ Some 1 ∷ [])
  pub i32_ge_s : of_pairs (integer_operation numeric.I32GeS) narrow_pairs ≡ combining i32 i32 (Some 0 ∷ Some 1 ∷ Some 1 ∷ Some 0 ∷ Some 1 ∷ Some 1 ∷ Some 0 ∷ Some 0 ∷ [])
  pub i32_ge_u : of_pairs (integer_operation numeric.I32GeU) narrow_pairs ≡ combining i32 i32 (Some 0 ∷ Some 1 ∷ Some 1 ∷ Some 1 ∷ Some 0 ∷ Some 1 ∷ Some 1 ∷ Some 0 ∷ [])
  pub i64_eqz : of_numbers (integer_operation numeric.I64Eqz) wide_numbers ≡ converting i64 i32 (Some 1 ∷ Some 0 ∷ Some 0 ∷ Some 0 ∷ Some 0 ∷ Some 0 ∷ Some 0 ∷ [])
  pub i64_eq : of_pairs (integer_operation numeric.I64Eq) wide_pairs ≡ combining i64 i32 (Some 0 ∷ Some 0 ∷ Some 1 ∷ Some 0 ∷ Some 0 ∷ Some 0 ∷ Some 0 ∷ Some 0 ∷ [])
  pub i64_ne : of_pairs (integer_operation numeric.I64Ne) wide_pairs ≡ combining i64 i32 (Some 1 ∷ Some 1 ∷ Some 0 ∷ Some 1 ∷ Some 1 ∷ Some 1 ∷ Some 1 ∷ Some 1 ∷ [])
  pub i64_lt_s : of_pairs (integer_operation numeric.I64LtS) wide_pairs ≡ combining i64 i32 (Some 1 ∷ Some 0 ∷ Some 0 ∷ Some 1 ∷ Some 0 ∷ Some 0 ∷ Some 1 ∷ Some 1 ∷ [])
  pub i64_lt_u : of_pairs (integer_operation numeric.I64LtU) wide_pairs ≡ combining i64 i32 (Some 1 ∷ Some 0 ∷ Some 0 ∷ Some 0 ∷ Some 1 ∷ Some 0 ∷ Some 0 ∷ Some 1 ∷ [])
  pub i64_gt_s : of_pairs (integer_operation numeric.I64GtS) wide_pairs ≡ combining i64 i32 (Some 0 ∷ Some 1 ∷ Some 0 ∷ Some 0 ∷ Some 1 ∷ Some 1 ∷ Some 0 ∷ Some 0 ∷ [])
  pub i64_gt_u : of_pairs (integer_operation numeric.I64GtU) wide_pairs ≡ combining i64 i32 (Some 0 ∷ Some 1 ∷ Some 0 ∷ Some 1 ∷ Some 0 ∷ Some 1 ∷ Some 1 ∷ Some 0 ∷ [])
  pub i64_le_s : of_pairs (integer_operation numeric.I64LeS) wide_pairs ≡ combining i64 i32 (Some 1 ∷ Some 0 ∷ Some 1 ∷ Some 1 ∷ Some 0 ∷ Some 0 ∷ Some 1 ∷ Some 1 ∷ [])
  pub i64_le_u : of_pairs (integer_operation numeric.I64LeU) wide_pairs ≡ combining i64 i32 (Some 1 ∷ Some 0 ∷ Some 1 ∷ Some 0 ∷ Some 1 ∷ Some 0 ∷ Some 0 ∷ Some 1 ∷ [])
  pub i64_ge_s : of_pairs (integer_operation numeric.I64GeS) wide_pairs ≡ combining i64 i32 (Some 0 ∷ Some 1 ∷ Some 1 ∷ Some 0 ∷ Some 1 ∷ Some 1 ∷ Some 0 ∷ Some 0 ∷ [])
  pub i64_ge_u : of_pairs (integer_operation numeric.I64GeU) wide_pairs ≡ combining i64 i32 (Some 0 ∷ Some 1 ∷ Some 1 ∷ Some 1 ∷ Some 0 ∷ Some 1 ∷ Some 1 ∷ Some 0 ∷ [])
  pub i32_clz : of_numbers (integer_operation numeric.I32Clz) narrow_numbers ≡ converting i32 i32 (Some 32 ∷ Some 29 ∷ Some 24 ∷ Some 16 ∷ Some 0 ∷ [])
  pub i32_ctz : of_numbers (integer_operation numeric.I32Ctz) narrow_numbers ≡ converting i32 i32 (Some 32 ∷ Some 1 ∷ Some 7 ∷ Some 7 ∷ Some 4 ∷ [])
  pub i32_popcnt : of_numbers (integer_operation numeric.I32Popcnt) narrow_numbers ≡ converting i32 i32 (Some 0 ∷ Some 2 ∷ Some 1 ∷ Some 3 ∷ Some 8 ∷ [])
  pub i32_add : of_pairs (integer_operation numeric.I32Add) narrow_pairs ≡ combining i32 i32 (Some 3 ∷ Some 3 ∷ Some 6 ∷ Some 4294967291 ∷ Some 4294967291 ∷ Some 7 ∷ Some 2147483682 ∷ Some 2147483647 ∷ [])
  pub i32_sub : of_pairs (integer_operation numeric.I32Sub) narrow_pairs ≡ combining i32 i32 (Some 4294967295 ∷ Some 1 ∷ Some 0 ∷ Some 4294967287 ∷ Some 9 ∷ Some 7 ∷ Some 2147483616 ∷ Some 2147483649 ∷ [])
  pub i32_mul : of_pairs (integer_operation numeric.I32Mul) narrow_pairs ≡ combining i32 i32 (Some 2 ∷ Some 2 ∷ Some 9 ∷ Some 4294967282 ∷ Some 4294967282 ∷ Some 0 ∷ Some 2147483681 ∷ Some 2147483648 ∷ [])
  pub i32_div_s : of_pairs (integer_operation numeric.I32DivS) narrow_pairs ≡ combining i32 i32 (Some 0 ∷ Some 2 ∷ Some 1 ∷ Some 4294967293 ∷ Some 0 ∷ None ∷ Some 4229892034 ∷ None ∷ [])
  pub i32_div_u : of_pairs (integer_operation numeric.I32DivU) narrow_pairs ≡ combining i32 i32 (Some 0 ∷ Some 2 ∷ Some 1 ∷ Some 2147483644 ∷ Some 0 ∷ None ∷ Some 65075262 ∷ Some 0 ∷ [])
  pub i32_rem_s : of_pairs (integer_operation numeric.I32RemS) narrow_pairs ≡ combining i32 i32 (Some 1 ∷ Some 0 ∷ Some 0 ∷ Some 4294967295 ∷ Some 2 ∷ None ∷ Some 4294967295 ∷ Some 0 ∷ [])
  pub i32_rem_u : of_pairs (integer_operation numeric.I32RemU) narrow_pairs ≡ combining i32 i32 (Some 1 ∷ Some 0 ∷ Some 0 ∷ Some 1 ∷ Some 2 ∷ None ∷ Some 3 ∷ Some 2147483648 ∷ [])
  pub i32_and : of_pairs (integer_operation numeric.I32And) narrow_pairs ≡ combining i32 i32 (Some 0 ∷ Some 0 ∷ Some 3 ∷ Some 0 ∷ Some 0 ∷ Some 0 ∷ Some 1 ∷ Some 2147483648 ∷ [])
  pub i32_or : of_pairs (integer_operation numeric.I32Or) narrow_pairs ≡ combining i32 i32 (Some 3 ∷ Some 3 ∷ Some 3 ∷ Some 4294967291 ∷ Some 4294967291 ∷ Some 7 ∷ Some 2147483681 ∷ Some 4294967295 ∷ [])
  pub i32_xor : of_pairs (integer_operation numeric.I32Xor) narrow_pairs ≡ combining i32 i32 (Some 3 ∷ Some 3 ∷ Some 0 ∷ Some 4294967291 ∷ Some 4294967291 ∷ Some 7 ∷ Some 2147483680 ∷ Some 2147483647 ∷ [])
  pub i32_shl : of_pairs (integer_operation numeric.I32Shl) narrow_pairs ≡ combining i32 i32 (Some 4 ∷ Some 4 ∷ Some 24 ∷ Some 4294967268 ∷ Some 67108864 ∷ Some 7 ∷ Some 2 ∷ Some 0 ∷ [])
  pub i32_shr_s : of_pairs (integer_operation numeric.I32ShrS) narrow_pairs ≡ combining i32 i32 (Some 0 ∷ Some 1 ∷ Some 0 ∷ Some 4294967294 ∷ Some 0 ∷ Some 7 ∷ Some 3221225472 ∷ Some 4294967295 ∷ [])
  pub i32_shr_u : of_pairs (integer_operation numeric.I32ShrU) narrow_pairs ≡ combining i32 i32 (Some 0 ∷ Some 1 ∷ Some 0 ∷ Some 1073741822 ∷ Some 0 ∷ Some 7 ∷ Some 1073741824 ∷ Some 1 ∷ [])
  pub i32_rotl : of_pairs (integer_operation numeric.I32Rotl) narrow_pairs ≡ combining i32 i32 (Some 4 ∷ Some 4 ∷ Some 24 ∷ Some 4294967271 ∷ Some 67108864 ∷ Some 7 ∷ Some 3 ∷ Some 1073741824 ∷ [])
  pub i32_rotr : of_pairs (integer_operation numeric.I32Rotr) narrow_pairs ≡ combining i32 i32 (Some 1073741824 ∷ Some 1 ∷ Some 1610612736 ∷ Some 2147483646 ∷ Some 256 ∷ Some 7 ∷ Some 3221225472 ∷ Some 1 ∷ [])
  pub i64_clz : of_numbers (integer_operation numeric.I64Clz) wide_numbers ≡ converting i64 i64 (Some 64 ∷ Some 61 ∷ Some 56 ∷ Some 48 ∷ Some 0 ∷ Some 32 ∷ Some 0 ∷ [])
  pub i64_ctz : of_numbers (integer_operation numeric.I64Ctz) wide_numbers ≡ converting i64 i64 (Some 64 ∷ Some 1 ∷ Some 7 ∷ Some 7 ∷ Some 4 ∷ Some 0 ∷ Some 0 ∷ [])
  pub i64_popcnt : of_numbers (integer_operation numeric.I64Popcnt) wide_numbers ≡ converting i64 i64 (Some 0 ∷ Some 2 ∷ Some 1 ∷ Some 3 ∷ Some 8 ∷ Some 2 ∷ Some 44 ∷ [])
  pub i64_add : of_pairs (integer_operation numeric.I64Add) wide_pairs ≡ combining i64 i64 (Some 3 ∷ Some 3 ∷ Some 6 ∷ Some 18446744073709551611 ∷ Some 18446744073709551611 ∷ Some 7 ∷ Some 9223372036854775874 ∷ Some 9223372036854775807 ∷ [])
  pub i64_sub : of_pairs (integer_operation numeric.I64Sub) wide_pairs ≡ combining i64 i64 (Some 18446744073709551615 ∷ Some 1 ∷ Some 0 ∷ Some 18446744073709551607 ∷ Some 9 ∷ Some 7 ∷ Some 9223372036854775744 ∷ Some 9223372036854775809 ∷ [])
  pub i64_mul : of_pairs (integer_operation numeric.I64Mul) wide_pairs ≡ combining i64 i64 (Some 2 ∷ Some 2 ∷ Some 9 ∷ Some 18446744073709551602 ∷ Some 18446744073709551602 ∷ Some 0 ∷ Some 9223372036854775873 ∷ Some 9223372036854775808 ∷ [])
  pub i64_div_s : of_pairs (integer_operation numeric.I64DivS) wide_pairs ≡ combining i64 i64 (Some 0 ∷ Some 2 ∷ Some 1 ∷ Some 18446744073709551613 ∷ Some 0 ∷ None ∷ Some 18304846042373324296 ∷ None ∷ [])
  pub i64_div_u : of_pairs (integer_operation numeric.I64DivU) wide_pairs ≡ combining i64 i64 (Some 0 ∷ Some 2 ∷ Some 1 ∷ Some 9223372036854775804 ∷ Some 0 ∷ None ∷ Some 141898031336227320 ∷ Some 0 ∷ [])
  pub i64_rem_s : of_pairs (integer_operation numeric.I64RemS) wide_pairs ≡ combining i64 i64 (Some 1 ∷ Some 0 ∷ Some 0 ∷ Some 18446744073709551615 ∷ Some 2 ∷ None ∷ Some 18446744073709551609 ∷ Some 0 ∷ [])
  pub i64_rem_u : of_pairs (integer_operation numeric.I64RemU) wide_pairs ≡ combining i64 i64 (Some 1 ∷ Some 0 ∷ Some 0 ∷ Some 1 ∷ Some 2 ∷ None ∷ Some 9 ∷ Some 9223372036854775808 ∷ [])
  pub i64_and : of_pairs (integer_operation numeric.I64And) wide_pairs ≡ combining i64 i64 (Some 0 ∷ Some 0 ∷ Some 3 ∷ Some 0 ∷ Some 0 ∷ Some 0 ∷ Some 1 ∷ Some 9223372036854775808 ∷ [])
  pub i64_or : of_pairs (integer_operation numeric.I64Or) wide_pairs ≡ combining i64 i64 (Some 3 ∷ Some 3 ∷ Some 3 ∷ Some 18446744073709551611 ∷ Some 18446744073709551611 ∷ Some 7 ∷ Some 9223372036854775873 ∷ Some 18446744073709551615 ∷ [])
  pub i64_xor : of_pairs (integer_operation numeric.I64Xor) wide_pairs ≡ combining i64 i64 (Some 3 ∷ Some 3 ∷ Some 0 ∷ Some 18446744073709551611 ∷ Some 18446744073709551611 ∷ Some 7 ∷ Some 9223372036854775872 ∷ Some 9223372036854775807 ∷ [])
  pub i64_shl : of_pairs (integer_operation numeric.I64Shl) wide_pairs ≡ combining i64 i64 (Some 4 ∷ Some 4 ∷ Some 24 ∷ Some 18446744073709551588 ∷ Some 288230376151711744 ∷ Some 7 ∷ Some 2 ∷ Some 0 ∷ [])
  pub i64_shr_s : of_pairs (integer_operation numeric.I64ShrS) wide_pairs ≡ combining i64 i64 (Some 0 ∷ Some 1 ∷ Some 0 ∷ Some 18446744073709551614 ∷ Some 0 ∷ Some 7 ∷ Some 13835058055282163712 ∷ Some 18446744073709551615 ∷ [])
  pub i64_shr_u : of_pairs (integer_operation numeric.I64ShrU) wide_pairs ≡ combining i64 i64 (Some 0 ∷ Some 1 ∷ Some 0 ∷ Some 4611686018427387902 ∷ Some 0 ∷ Some 7 ∷ Some 4611686018427387904 ∷ Some 1 ∷ [])
  pub i64_rotl : of_pairs (integer_operation numeric.I64Rotl) wide_pairs ≡ combining i64 i64 (Some 4 ∷ Some 4 ∷ Some 24 ∷ Some 18446744073709551591 ∷ Some 288230376151711744 ∷ Some 7 ∷ Some 3 ∷ Some 4611686018427387904 ∷ [])
  pub i64_rotr : of_pairs (integer_operation numeric.I64Rotr) wide_pairs ≡ combining i64 i64 (Some 4611686018427387904 ∷ Some 1 ∷ Some 6917529027641081856 ∷ Some 9223372036854775806 ∷ Some 256 ∷ Some 7 ∷ Some 13835058055282163712 ∷ Some 1 ∷ [])
  pub i32_wrap_i64 : of_numbers (integer_operation numeric.I32WrapI64) wide_numbers ≡ converting i64 i32 (Some 0 ∷ Some 6 ∷ Some 128 ∷ Some 33152 ∷ Some 28912 ∷ Some 2147483649 ∷ Some 2139062143 ∷ [])
  pub i64_extend_i32_s : of_numbers (integer_operation numeric.I64ExtendI32S) narrow_numbers ≡ converting i32 i64 (Some 0 ∷ Some 6 ∷ Some 128 ∷ Some 33152 ∷ Some 18446744071562096880 ∷ [])
  pub i64_extend_i32_u : of_numbers (integer_operation numeric.I64ExtendI32U) narrow_numbers ≡ converting i32 i64 (Some 0 ∷ Some 6 ∷ Some 128 ∷ Some 33152 ∷ Some 2147512560 ∷ [])
  pub i32_extend8_s : of_numbers (integer_operation numeric.I32Extend8S) narrow_numbers ≡ converting i32 i32 (Some 0 ∷ Some 6 ∷ Some 4294967168 ∷ Some 4294967168 ∷ Some 4294967280 ∷ [])
  pub i32_extend16_s : of_numbers (integer_operation numeric.I32Extend16S) narrow_numbers ≡ converting i32 i32 (Some 0 ∷ Some 6 ∷ Some 128 ∷ Some 4294934912 ∷ Some 28912 ∷ [])
  pub i64_extend8_s : of_numbers (integer_operation numeric.I64Extend8S) wide_numbers ≡ converting i64 i64 (Some 0 ∷ Some 6 ∷ Some 18446744073709551488 ∷ Some 18446744073709551488 ∷ Some 18446744073709551600 ∷ Some 1 ∷ Some 127 ∷ [])
  pub i64_extend16_s : of_numbers (integer_operation numeric.I64Extend16S) wide_numbers ≡ converting i64 i64 (Some 0 ∷ Some 6 ∷ Some 128 ∷ Some 18446744073709519232 ∷ Some 28912 ∷ Some 1 ∷ Some 32639 ∷ [])
  pub i64_extend32_s : of_numbers (integer_operation numeric.I64Extend32S) wide_numbers ≡ converting i64 i64 (Some 0 ∷ Some 6 ∷ Some 128 ∷ Some 33152 ∷ Some 28912 ∷ Some 18446744071562067969 ∷ Some 2139062143 ∷ [])

-- ---- atomic accesses

-- the argument, what is taken and given, how many bytes; what is written over this number, for each of these below the one on top; and what
-- is given
pub data Exchanged : Type 0 where
  exchanged : MemArg → List Number → Option Number → ℕ → List (Option ℕ) → ℕ → Exchanged

-- as the bytes say that are written
abbrev pub low : ℕ → Option ℕ → Option ℕ
low k o = option_map (λ b. number_of (bytes_of k b)) o

abbrev pub of_exchange : Option AtomicAccess → ℕ → List ℕ → ℕ → Option Exchanged
of_exchange None v ws b = None
of_exchange (Some r) v ws b = Some (exchanged r.argument r.takes r.gives r.size (map (λ w. low r.size (r.written v w b)) ws) (r.given b))

abbrev pub exchanging : MemArg → List Number → Option Number → ℕ → List (Option ℕ) → ℕ → Option Exchanged
exchanging m ts t k bs b = Some (exchanged m ts t k bs b)

-- Of the two numbers below the one on top, the first has the bits that are there, as far as so many are read.
pub record AtomicTableWorked : Type 0 where
  pub i32_atomic_load : of_exchange (atomic_access (atomic.I32AtomicLoad (at 4 1))) 2596068955 (2980093838 ∷ 832610190 ∷ []) 2980093838 ≡ exchanging (at 4 1) [] (Some i32) 4 (None ∷ None ∷ []) 2980093838
  pub i64_atomic_load : of_exchange (atomic_access (atomic.I64AtomicLoad (at 4 1))) 9305357566071262555 (17718519667139583886 ∷ 8495147630284808078 ∷ []) 17718519667139583886 ≡ exchanging (at 4 1) [] (Some i64) 8 (None ∷ None ∷ []) 17718519667139583886
  pub i32_atomic_load8_u : of_exchange (atomic_access (atomic.I32AtomicLoad8U (at 4 1))) 2596068955 (398 ∷ 14 ∷ []) 142 ≡ exchanging (at 4 1) [] (Some i32) 1 (None ∷ None ∷ []) 142
  pub i32_atomic_load16_u : of_exchange (atomic_access (atomic.I32AtomicLoad16U (at 4 1))) 2596068955 (106382 ∷ 8078 ∷ []) 40846 ≡ exchanging (at 4 1) [] (Some i32) 2 (None ∷ None ∷ []) 40846
  pub i64_atomic_load8_u : of_exchange (atomic_access (atomic.I64AtomicLoad8U (at 4 1))) 9305357566071262555 (398 ∷ 14 ∷ []) 142 ≡ exchanging (at 4 1) [] (Some i64) 1 (None ∷ None ∷ []) 142
  pub i64_atomic_load16_u : of_exchange (atomic_access (atomic.I64AtomicLoad16U (at 4 1))) 9305357566071262555 (106382 ∷ 8078 ∷ []) 40846 ≡ exchanging (at 4 1) [] (Some i64) 2 (None ∷ None ∷ []) 40846
  pub i64_atomic_load32_u : of_exchange (atomic_access (atomic.I64AtomicLoad32U (at 4 1))) 9305357566071262555 (7275061134 ∷ 832610190 ∷ []) 2980093838 ≡ exchanging (at 4 1) [] (Some i64) 4 (None ∷ None ∷ []) 2980093838
  pub i32_atomic_store : of_exchange (atomic_access (atomic.I32AtomicStore (at 4 1))) 2596068955 (2980093838 ∷ 832610190 ∷ []) 2980093838 ≡ exchanging (at 4 1) (i32 ∷ []) None 4 (Some 2596068955 ∷ Some 2596068955 ∷ []) 2980093838
  pub i64_atomic_store : of_exchange (atomic_access (atomic.I64AtomicStore (at 4 1))) 9305357566071262555 (17718519667139583886 ∷ 8495147630284808078 ∷ []) 17718519667139583886 ≡ exchanging (at 4 1) (i64 ∷ []) None 8 (Some 9305357566071262555 ∷ Some 9305357566071262555 ∷ []) 17718519667139583886
  pub i32_atomic_store8 : of_exchange (atomic_access (atomic.I32AtomicStore8 (at 4 1))) 2596068955 (398 ∷ 14 ∷ []) 142 ≡ exchanging (at 4 1) (i32 ∷ []) None 1 (Some 91 ∷ Some 91 ∷ []) 142
  pub i32_atomic_store16 : of_exchange (atomic_access (atomic.I32AtomicStore16 (at 4 1))) 2596068955 (106382 ∷ 8078 ∷ []) 40846 ≡ exchanging (at 4 1) (i32 ∷ []) None 2 (Some 56923 ∷ Some 56923 ∷ []) 40846
  pub i64_atomic_store8 : of_exchange (atomic_access (atomic.I64AtomicStore8 (at 4 1))) 9305357566071262555 (398 ∷ 14 ∷ []) 142 ≡ exchanging (at 4 1) (i64 ∷ []) None 1 (Some 91 ∷ Some 91 ∷ []) 142
  pub i64_atomic_store16 : of_exchange (atomic_access (atomic.I64AtomicStore16 (at 4 1))) 9305357566071262555 (106382 ∷ 8078 ∷ []) 40846 ≡ exchanging (at 4 1) (i64 ∷ []) None 2 (Some 52571 ∷ Some 52571 ∷ []) 40846
  pub i64_atomic_store32 : of_exchange (atomic_access (atomic.I64AtomicStore32 (at 4 1))) 9305357566071262555 (7275061134 ∷ 832610190 ∷ []) 2980093838 ≡ exchanging (at 4 1) (i64 ∷ []) None 4 (Some 2309737819 ∷ Some 2309737819 ∷ []) 2980093838
  pub i32_atomic_rmw_add : of_exchange (atomic_access (atomic.I32AtomicRmwAdd (at 4 1))) 2596068955 (2980093838 ∷ 832610190 ∷ []) 2980093838 ≡ exchanging (at 4 1) (i32 ∷ []) (Some i32) 4 (Some 1281195497 ∷ Some 1281195497 ∷ []) 2980093838
  pub i64_atomic_rmw_add : of_exchange (atomic_access (atomic.I64AtomicRmwAdd (at 4 1))) 9305357566071262555 (17718519667139583886 ∷ 8495147630284808078 ∷ []) 17718519667139583886 ≡ exchanging (at 4 1) (i64 ∷ []) (Some i64) 8 (Some 8577133159501294825 ∷ Some 8577133159501294825 ∷ []) 17718519667139583886
  pub i32_atomic_rmw8_add_u : of_exchange (atomic_access (atomic.I32AtomicRmw8AddU (at 4 1))) 2596068955 (398 ∷ 14 ∷ []) 142 ≡ exchanging (at 4 1) (i32 ∷ []) (Some i32) 1 (Some 233 ∷ Some 233 ∷ []) 142
  pub i32_atomic_rmw16_add_u : of_exchange (atomic_access (atomic.I32AtomicRmw16AddU (at 4 1))) 2596068955 (106382 ∷ 8078 ∷ []) 40846 ≡ exchanging (at 4 1) (i32 ∷ []) (Some i32) 2 (Some 32233 ∷ Some 32233 ∷ []) 40846
  pub i64_atomic_rmw8_add_u : of_exchange (atomic_access (atomic.I64AtomicRmw8AddU (at 4 1))) 9305357566071262555 (398 ∷ 14 ∷ []) 142 ≡ exchanging (at 4 1) (i64 ∷ []) (Some i64) 1 (Some 233 ∷ Some 233 ∷ []) 142
  pub i64_atomic_rmw16_add_u : of_exchange (atomic_access (atomic.I64AtomicRmw16AddU (at 4 1))) 9305357566071262555 (106382 ∷ 8078 ∷ []) 40846 ≡ exchanging (at 4 1) (i64 ∷ []) (Some i64) 2 (Some 27881 ∷ Some 27881 ∷ []) 40846
  pub i64_atomic_rmw32_add_u : of_exchange (atomic_access (atomic.I64AtomicRmw32AddU (at 4 1))) 9305357566071262555 (7275061134 ∷ 832610190 ∷ []) 2980093838 ≡ exchanging (at 4 1) (i64 ∷ []) (Some i64) 4 (Some 994864361 ∷ Some 994864361 ∷ []) 2980093838
  pub i32_atomic_rmw_sub : of_exchange (atomic_access (atomic.I32AtomicRmwSub (at 4 1))) 2596068955 (2980093838 ∷ 832610190 ∷ []) 2980093838 ≡ exchanging (at 4 1) (i32 ∷ []) (Some i32) 4 (Some 384024883 ∷ Some 384024883 ∷ []) 2980093838
  pub i64_atomic_rmw_sub : of_exchange (atomic_access (atomic.I64AtomicRmwSub (at 4 1))) 9305357566071262555 (17718519667139583886 ∷ 8495147630284808078 ∷ []) 17718519667139583886 ≡ exchanging (at 4 1) (i64 ∷ []) (Some i64) 8 (Some 8413162101068321331 ∷ Some 8413162101068321331 ∷ []) 17718519667139583886
  pub i32_atomic_rmw8_sub_u : of_exchange (atomic_access (atomic.I32AtomicRmw8SubU (at 4 1))) 2596068955 (398 ∷ 14 ∷ []) 142 ≡ exchanging (at 4 1) (i32 ∷ []) (Some i32) 1 (Some 51 ∷ Some 51 ∷ []) 142
  pub i32_atomic_rmw16_sub_u : of_exchange (atomic_access (atomic.I32AtomicRmw16SubU (at 4 1))) 2596068955 (106382 ∷ 8078 ∷ []) 40846 ≡ exchanging (at 4 1) (i32 ∷ []) (Some i32) 2 (Some 49459 ∷ Some 49459 ∷ []) 40846
  pub i64_atomic_rmw8_sub_u : of_exchange (atomic_access (atomic.I64AtomicRmw8SubU (at 4 1))) 9305357566071262555 (398 ∷ 14 ∷ []) 142 ≡ exchanging (at 4 1) (i64 ∷ []) (Some i64) 1 (Some 51 ∷ Some 51 ∷ []) 142
  pub i64_atomic_rmw16_sub_u : of_exchange (atomic_access (atomic.I64AtomicRmw16SubU (at 4 1))) 9305357566071262555 (106382 ∷ 8078 ∷ []) 40846 ≡ exchanging (at 4 1) (i64 ∷ []) (Some i64) 2 (Some 53811 ∷ Some 53811 ∷ []) 40846
  pub i64_atomic_rmw32_sub_u : of_exchange (atomic_access (atomic.I64AtomicRmw32SubU (at 4 1))) 9305357566071262555 (7275061134 ∷ 832610190 ∷ []) 2980093838 ≡ exchanging (at 4 1) (i64 ∷ []) (Some i64) 4 (Some 670356019 ∷ Some 670356019 ∷ []) 2980093838
  pub i32_atomic_rmw_and : of_exchange (atomic_access (atomic.I32AtomicRmwAnd (at 4 1))) 2596068955 (2980093838 ∷ 832610190 ∷ []) 2980093838 ≡ exchanging (at 4 1) (i32 ∷ []) (Some i32) 4 (Some 2426445322 ∷ Some 2426445322 ∷ []) 2980093838
  pub i64_atomic_rmw_and : of_exchange (atomic_access (atomic.I64AtomicRmwAnd (at 4 1))) 9305357566071262555 (17718519667139583886 ∷ 8495147630284808078 ∷ []) 17718519667139583886 ≡ exchanging (at 4 1) (i64 ∷ []) (Some i64) 8 (Some 9304508584045874442 ∷ Some 9304508584045874442 ∷ []) 17718519667139583886
  pub i32_atomic_rmw8_and_u : of_exchange (atomic_access (atomic.I32AtomicRmw8AndU (at 4 1))) 2596068955 (398 ∷ 14 ∷ []) 142 ≡ exchanging (at 4 1) (i32 ∷ []) (Some i32) 1 (Some 10 ∷ Some 10 ∷ []) 142
  pub i32_atomic_rmw16_and_u : of_exchange (atomic_access (atomic.I32AtomicRmw16AndU (at 4 1))) 2596068955 (106382 ∷ 8078 ∷ []) 40846 ≡ exchanging (at 4 1) (i32 ∷ []) (Some i32) 2 (Some 40458 ∷ Some 40458 ∷ []) 40846
  pub i64_atomic_rmw8_and_u : of_exchange (atomic_access (atomic.I64AtomicRmw8AndU (at 4 1))) 9305357566071262555 (398 ∷ 14 ∷ []) 142 ≡ exchanging (at 4 1) (i64 ∷ []) (Some i64) 1 (Some 10 ∷ Some 10 ∷ []) 142
  pub i64_atomic_rmw16_and_u : of_exchange (atomic_access (atomic.I64AtomicRmw16AndU (at 4 1))) 9305357566071262555 (106382 ∷ 8078 ∷ []) 40846 ≡ exchanging (at 4 1) (i64 ∷ []) (Some i64) 2 (Some 36106 ∷ Some 36106 ∷ []) 40846
  pub i64_atomic_rmw32_and_u : of_exchange (atomic_access (atomic.I64AtomicRmw32AndU (at 4 1))) 9305357566071262555 (7275061134 ∷ 832610190 ∷ []) 2980093838 ≡ exchanging (at 4 1) (i64 ∷ []) (Some i64) 4 (Some 2174782730 ∷ Some 2174782730 ∷ []) 2980093838
  pub i32_atomic_rmw_or : of_exchange (atomic_access (atomic.I32AtomicRmwOr (at 4 1))) 2596068955 (2980093838 ∷ 832610190 ∷ []) 2980093838 ≡ exchanging (at 4 1) (i32 ∷ []) (Some i32) 4 (Some 3149717471 ∷ Some 3149717471 ∷ []) 2980093838
  pub i64_atomic_rmw_or : of_exchange (atomic_access (atomic.I64AtomicRmwOr (at 4 1))) 9305357566071262555 (17718519667139583886 ∷ 8495147630284808078 ∷ []) 17718519667139583886 ≡ exchanging (at 4 1) (i64 ∷ []) (Some i64) 8 (Some 17719368649164971999 ∷ Some 17719368649164971999 ∷ []) 17718519667139583886
  pub i32_atomic_rmw8_or_u : of_exchange (atomic_access (atomic.I32AtomicRmw8OrU (at 4 1))) 2596068955 (398 ∷ 14 ∷ []) 142 ≡ exchanging (at 4 1) (i32 ∷ []) (Some i32) 1 (Some 223 ∷ Some 223 ∷ []) 142
  pub i32_atomic_rmw16_or_u : of_exchange (atomic_access (atomic.I32AtomicRmw16OrU (at 4 1))) 2596068955 (106382 ∷ 8078 ∷ []) 40846 ≡ exchanging (at 4 1) (i32 ∷ []) (Some i32) 2 (Some 57311 ∷ Some 57311 ∷ []) 40846
  pub i64_atomic_rmw8_or_u : of_exchange (atomic_access (atomic.I64AtomicRmw8OrU (at 4 1))) 9305357566071262555 (398 ∷ 14 ∷ []) 142 ≡ exchanging (at 4 1) (i64 ∷ []) (Some i64) 1 (Some 223 ∷ Some 223 ∷ []) 142
  pub i64_atomic_rmw16_or_u : of_exchange (atomic_access (atomic.I64AtomicRmw16OrU (at 4 1))) 9305357566071262555 (106382 ∷ 8078 ∷ []) 40846 ≡ exchanging (at 4 1) (i64 ∷ []) (Some i64) 2 (Some 57311 ∷ Some 57311 ∷ []) 40846
  pub i64_atomic_rmw32_or_u : of_exchange (atomic_access (atomic.I64AtomicRmw32OrU (at 4 1))) 9305357566071262555 (7275061134 ∷ 832610190 ∷ []) 2980093838 ≡ exchanging (at 4 1) (i64 ∷ []) (Some i64) 4 (Some 3115048927 ∷ Some 3115048927 ∷ []) 2980093838
  pub i32_atomic_rmw_xor : of_exchange (atomic_access (atomic.I32AtomicRmwXor (at 4 1))) 2596068955 (2980093838 ∷ 832610190 ∷ []) 2980093838 ≡ exchanging (at 4 1) (i32 ∷ []) (Some i32) 4 (Some 723272149 ∷ Some 723272149 ∷ []) 2980093838
  pub i64_atomic_rmw_xor : of_exchange (atomic_access (atomic.I64AtomicRmwXor (at 4 1))) 9305357566071262555 (17718519667139583886 ∷ 8495147630284808078 ∷ []) 17718519667139583886 ≡ exchanging (at 4 1) (i64 ∷ []) (Some i64) 8 (Some 8414860065119097557 ∷ Some 8414860065119097557 ∷ []) 17718519667139583886
  pub i32_atomic_rmw8_xor_u : of_exchange (atomic_access (atomic.I32AtomicRmw8XorU (at 4 1))) 2596068955 (398 ∷ 14 ∷ []) 142 ≡ exchanging (at 4 1) (i32 ∷ []) (Some i32) 1 (Some 213 ∷ Some 213 ∷ []) 142
  pub i32_atomic_rmw16_xor_u : of_exchange (atomic_access (atomic.I32AtomicRmw16XorU (at 4 1))) 2596068955 (106382 ∷ 8078 ∷ []) 40846 ≡ exchanging (at 4 1) (i32 ∷ []) (Some i32) 2 (Some 16853 ∷ Some 16853 ∷ []) 40846
  pub i64_atomic_rmw8_xor_u : of_exchange (atomic_access (atomic.I64AtomicRmw8XorU (at 4 1))) 9305357566071262555 (398 ∷ 14 ∷ []) 142 ≡ exchanging (at 4 1) (i64 ∷ []) (Some i64) 1 (Some 213 ∷ Some 213 ∷ []) 142
  pub i64_atomic_rmw16_xor_u : of_exchange (atomic_access (atomic.I64AtomicRmw16XorU (at 4 1))) 9305357566071262555 (106382 ∷ 8078 ∷ []) 40846 ≡ exchanging (at 4 1) (i64 ∷ []) (Some i64) 2 (Some 21205 ∷ Some 21205 ∷ []) 40846
  pub i64_atomic_rmw32_xor_u : of_exchange (atomic_access (atomic.I64AtomicRmw32XorU (at 4 1))) 9305357566071262555 (7275061134 ∷ 832610190 ∷ []) 2980093838 ≡ exchanging (at 4 1) (i64 ∷ []) (Some i64) 4 (Some 940266197 ∷ Some 940266197 ∷ []) 2980093838
  pub i32_atomic_rmw_xchg : of_exchange (atomic_access (atomic.I32AtomicRmwXchg (at 4 1))) 2596068955 (2980093838 ∷ 832610190 ∷ []) 2980093838 ≡ exchanging (at 4 1) (i32 ∷ []) (Some i32) 4 (Some 2596068955 ∷ Some 2596068955 ∷ []) 2980093838
  pub i64_atomic_rmw_xchg : of_exchange (atomic_access (atomic.I64AtomicRmwXchg (at 4 1))) 9305357566071262555 (17718519667139583886 ∷ 8495147630284808078 ∷ []) 17718519667139583886 ≡ exchanging (at 4 1) (i64 ∷ []) (Some i64) 8 (Some 9305357566071262555 ∷ Some 9305357566071262555 ∷ []) 17718519667139583886
  pub i32_atomic_rmw8_xchg_u : of_exchange (atomic_access (atomic.I32AtomicRmw8XchgU (at 4 1))) 2596068955 (398 ∷ 14 ∷ []) 142 ≡ exchanging (at 4 1) (i32 ∷ []) (Some i32) 1 (Some 91 ∷ Some 91 ∷ []) 142
  pub i32_atomic_rmw16_xchg_u : of_exchange (atomic_access (atomic.I32AtomicRmw16XchgU (at 4 1))) 2596068955 (106382 ∷ 8078 ∷ []) 40846 ≡ exchanging (at 4 1) (i32 ∷ []) (Some i32) 2 (Some 56923 ∷ Some 56923 ∷ []) 40846
  pub i64_atomic_rmw8_xchg_u : of_exchange (atomic_access (atomic.I64AtomicRmw8XchgU (at 4 1))) 9305357566071262555 (398 ∷ 14 ∷ []) 142 ≡ exchanging (at 4 1) (i64 ∷ []) (Some i64) 1 (Some 91 ∷ Some 91 ∷ []) 142
  pub i64_atomic_rmw16_xchg_u : of_exchange (atomic_access (atomic.I64AtomicRmw16XchgU (at 4 1))) 9305357566071262555 (106382 ∷ 8078 ∷ []) 40846 ≡ exchanging (at 4 1) (i64 ∷ []) (Some i64) 2 (Some 52571 ∷ Some 52571 ∷ []) 40846
  pub i64_atomic_rmw32_xchg_u : of_exchange (atomic_access (atomic.I64AtomicRmw32XchgU (at 4 1))) 9305357566071262555 (7275061134 ∷ 832610190 ∷ []) 2980093838 ≡ exchanging (at 4 1) (i64 ∷ []) (Some i64) 4 (Some 2309737819 ∷ Some 2309737819 ∷ []) 2980093838
  pub i32_atomic_rmw_cmpxchg : of_exchange (atomic_access (atomic.I32AtomicRmwCmpxchg (at 4 1))) 2596068955 (2980093838 ∷ 832610190 ∷ []) 2980093838 ≡ exchanging (at 4 1) (i32 ∷ i32 ∷ []) (Some i32) 4 (Some 2596068955 ∷ None ∷ []) 2980093838
  pub i64_atomic_rmw_cmpxchg : of_exchange (atomic_access (atomic.I64AtomicRmwCmpxchg (at 4 1))) 9305357566071262555 (17718519667139583886 ∷ 8495147630284808078 ∷ []) 17718519667139583886 ≡ exchanging (at 4 1) (i64 ∷ i64 ∷ []) (Some i64) 8 (Some 9305357566071262555 ∷ None ∷ []) 17718519667139583886
  pub i32_atomic_rmw8_cmpxchg_u : of_exchange (atomic_access (atomic.I32AtomicRmw8CmpxchgU (at 4 1))) 2596068955 (398 ∷ 14 ∷ []) 142 ≡ exchanging (at 4 1) (i32 ∷ i32 ∷ []) (Some i32) 1 (Some 91 ∷ None ∷ []) 142
  pub i32_atomic_rmw16_cmpxchg_u : of_exchange (atomic_access (atomic.I32AtomicRmw16CmpxchgU (at 4 1))) 2596068955 (106382 ∷ 8078 ∷ []) 40846 ≡ exchanging (at 4 1) (i32 ∷ i32 ∷ []) (Some i32) 2 (Some 56923 ∷ None ∷ []) 40846
  pub i64_atomic_rmw8_cmpxchg_u : of_exchange (atomic_access (atomic.I64AtomicRmw8CmpxchgU (at 4 1))) 9305357566071262555 (398 ∷ 14 ∷ []) 142 ≡ exchanging (at 4 1) (i64 ∷ i64 ∷ []) (Some i64) 1 (Some 91 ∷ None ∷ []) 142
  pub i64_atomic_rmw16_cmpxchg_u : of_exchange (atomic_access (atomic.I64AtomicRmw16CmpxchgU (at 4 1))) 9305357566071262555 (106382 ∷ 8078 ∷ []) 40846 ≡ exchanging (at 4 1) (i64 ∷ i64 ∷ []) (Some i64) 2 (Some 52571 ∷ None ∷ []) 40846
  pub i64_atomic_rmw32_cmpxchg_u : of_exchange (atomic_access (atomic.I64AtomicRmw32CmpxchgU (at 4 1))) 9305357566071262555 (7275061134 ∷ 832610190 ∷ []) 2980093838 ≡ exchanging (at 4 1) (i64 ∷ i64 ∷ []) (Some i64) 4 (Some 2309737819 ∷ None ∷ []) 2980093838

-- ---- loads and stores

-- the argument, the types, how many bytes, and what is made of two lists of bytes; or the bytes that are written
pub data Touched : Type 0 where
  was_read : MemArg → List Number → Number → ℕ → ℕ → ℕ → Touched
  was_written : MemArg → Number → ℕ → List ℕ → Touched

-- bytes of which the first, second, fourth and eighth have the highest bit, and others of which they have it not
abbrev pub high_bytes : List ℕ
high_bytes = 129 ∷ 146 ∷ 163 ∷ 180 ∷ 197 ∷ 214 ∷ 231 ∷ 248 ∷ 137 ∷ 154 ∷ 171 ∷ 188 ∷ 205 ∷ 222 ∷ 239 ∷ 240 ∷ []

abbrev pub low_bytes : List ℕ
low_bytes = 1 ∷ 114 ∷ 131 ∷ 20 ∷ 165 ∷ 54 ∷ 199 ∷ 88 ∷ 233 ∷ 10 ∷ 27 ∷ 44 ∷ 61 ∷ 78 ∷ 95 ∷ 96 ∷ []

-- with this number on top
abbrev pub of_access : MemArg → ℕ → Access → Touched
of_access m v (reads ts n k f) = was_read m ts n k (f v (take k high_bytes)) (f v (take k low_bytes))
of_access m v (writes n k f) = was_written m n k (bytes_of k (f v))

-- with a vector on top, of which a store of a number takes the low bytes
abbrev pub of_bytes : Option Reach → Option Touched
of_bytes o = option_map (λ (r : Reach). of_access r.argument 172231807152663232739784442187289128944 r.access) o

abbrev pub reading : List Number → Number → ℕ → ℕ → ℕ → Option Touched
reading ts n k b c = Some (was_read (at 4 1) ts n k b c)

abbrev pub writing : Number → ℕ → List ℕ → Option Touched
writing n k bs = Some (was_written (at 4 1) n k bs)

-- the lowest byte first, with a sign and without
pub record AccessTableWorked : Type 0 where
  pub i32_load : of_bytes (memory_access (memory.I32Load (at 4 1))) ≡ reading [] i32 4 3030618753 344158721
  pub i64_load : of_bytes (memory_access (memory.I64Load (at 4 1))) ≡ reading [] i64 8 17935540185653809793 6397141878344741377
  pub f32_load : of_bytes (memory_access (memory.F32Load (at 4 1))) ≡ reading [] f32 4 3030618753 344158721
  pub f64_load : of_bytes (memory_access (memory.F64Load (at 4 1))) ≡ reading [] f64 8 17935540185653809793 6397141878344741377
  pub i32_load8_s : of_bytes (memory_access (memory.I32Load8S (at 4 1))) ≡ reading [] i32 1 4294967169 1
  pub i32_load8_u : of_bytes (memory_access (memory.I32Load8U (at 4 1))) ≡ reading [] i32 1 129 1
  pub i32_load16_s : of_bytes (memory_access (memory.I32Load16S (at 4 1))) ≡ reading [] i32 2 4294939265 29185
  pub i32_load16_u : of_bytes (memory_access (memory.I32Load16U (at 4 1))) ≡ reading [] i32 2 37505 29185
  pub i64_load8_s : of_bytes (memory_access (memory.I64Load8S (at 4 1))) ≡ reading [] i64 1 18446744073709551489 1
  pub i64_load8_u : of_bytes (memory_access (memory.I64Load8U (at 4 1))) ≡ reading [] i64 1 129 1
  pub i64_load16_s : of_bytes (memory_access (memory.I64Load16S (at 4 1))) ≡ reading [] i64 2 18446744073709523585 29185
  pub i64_load16_u : of_bytes (memory_access (memory.I64Load16U (at 4 1))) ≡ reading [] i64 2 37505 29185
  pub i64_load32_s : of_bytes (memory_access (memory.I64Load32S (at 4 1))) ≡ reading [] i64 4 18446744072445203073 344158721
  pub i64_load32_u : of_bytes (memory_access (memory.I64Load32U (at 4 1))) ≡ reading [] i64 4 3030618753 344158721
  pub i32_store : of_bytes (memory_access (memory.I32Store (at 4 1))) ≡ writing i32 4 (240 ∷ 239 ∷ 222 ∷ 205 ∷ [])
  pub i64_store : of_bytes (memory_access (memory.I64Store (at 4 1))) ≡ writing i64 8 (240 ∷ 239 ∷ 222 ∷ 205 ∷ 188 ∷ 171 ∷ 154 ∷ 137 ∷ [])
  pub f32_store : of_bytes (memory_access (memory.F32Store (at 4 1))) ≡ writing f32 4 (240 ∷ 239 ∷ 222 ∷ 205 ∷ [])
  pub f64_store : of_bytes (memory_access (memory.F64Store (at 4 1))) ≡ writing f64 8 (240 ∷ 239 ∷ 222 ∷ 205 ∷ 188 ∷ 171 ∷ 154 ∷ 137 ∷ [])
  pub i32_store8 : of_bytes (memory_access (memory.I32Store8 (at 4 1))) ≡ writing i32 1 (240 ∷ [])
  pub i32_store16 : of_bytes (memory_access (memory.I32Store16 (at 4 1))) ≡ writing i32 2 (240 ∷ 239 ∷ [])
  pub i64_store8 : of_bytes (memory_access (memory.I64Store8 (at 4 1))) ≡ writing i64 1 (240 ∷ [])
  pub i64_store16 : of_bytes (memory_access (memory.I64Store16 (at 4 1))) ≡ writing i64 2 (240 ∷ 239 ∷ [])
  pub i64_store32 : of_bytes (memory_access (memory.I64Store32 (at 4 1))) ≡ writing i64 4 (240 ∷ 239 ∷ 222 ∷ 205 ∷ [])

-- lanes, from the lowest on
pub record VectorTableWorked : Type 0 where
  pub v128_load : of_bytes (simd_access (simd.V128Load (at 4 1))) ≡ reading [] v128 16 320260196932665597346300620774620500609 128100742671429763581315653790700106241
  pub v128_load8x8_s : of_bytes (simd_access (simd.V128Load8x8S (at 4 1))) ≡ reading [] v128 8 340246018941403252299094324622694481793 462109904470825587302975675982544897
  pub v128_load8x8_u : of_bytes (simd_access (simd.V128Load8x8U (at 4 1))) ≡ reading [] v128 8 1287707922880891806394326558365057153 456937890020690207891456991910035457
  pub v128_load16x4_s : of_bytes (simd_access (simd.V128Load16x4S (at 4 1))) ≡ reading [] v128 8 340282223042595142872400500766837543553 1800618449719737103358149150142977
  pub v128_load16x4_u : of_bytes (simd_access (simd.V128Load16x4U (at 4 1))) ≡ reading [] v128 8 5048339288260629763238264001565313 1800618449719737103358149150142977
  pub v128_load32x2_s : of_bytes (simd_access (simd.V128Load32x2S (at 4 1))) ≡ reading [] v128 8 340282366918742859488017486918629692033 27475515153884524376808976897
  pub v128_load32x2_u : of_bytes (simd_access (simd.V128Load32x2U (at 4 1))) ≡ reading [] v128 8 77032558520460473010990846593 27475515153884524376808976897
  pub v128_load8_splat : of_bytes (simd_access (simd.V128Load8Splat (at 4 1))) ≡ reading [] v128 1 172142844442357105046177742583129801089 1334440654591915542993625911497130241
  pub v128_load16_splat : of_bytes (simd_access (simd.V128Load16Splat (at 4 1))) ≡ reading [] v128 2 194740065176925262412357742454085096065 151539496125544961565248919171376443905
  pub v128_load32_splat : of_bytes (simd_access (simd.V128Load32Splat (at 4 1))) ≡ reading [] v128 4 240110355137366180044709377454463226497 27267063084437966530606663266243670529
  pub v128_load64_splat : of_bytes (simd_access (simd.V128Load64Splat (at 4 1))) ≡ reading [] v128 8 330852319628488926969391247829833585281 118006439033035047410850537048497156609
  pub v128_load32_zero : of_bytes (simd_access (simd.V128Load32Zero (at 4 1))) ≡ reading [] v128 4 3030618753 344158721
  pub v128_load64_zero : of_bytes (simd_access (simd.V128Load64Zero (at 4 1))) ≡ reading [] v128 8 17935540185653809793 6397141878344741377
  pub v128_store : of_bytes (simd_access (simd.V128Store (at 4 1))) ≡ writing v128 16 (240 ∷ 239 ∷ 222 ∷ 205 ∷ 188 ∷ 171 ∷ 154 ∷ 137 ∷ 248 ∷ 231 ∷ 214 ∷ 197 ∷ 180 ∷ 163 ∷ 146 ∷ 129 ∷ [])
  pub v128_load8_lane : of_bytes (simd_access (simd.V128Load8Lane (at 4 1) 11)) ≡ reading (v128 ∷ []) v128 1 172231807131618252071932977514004017136 172231807092004170814800808717232041968
  pub v128_load16_lane : of_bytes (simd_access (simd.V128Load16Lane (at 4 1) 5)) ≡ reading (v128 ∷ []) v128 2 172231807136776738544228600202475270128 172231807126718475725034885468919885808
  pub v128_load32_lane : of_bytes (simd_access (simd.V128Load32Lane (at 4 1) 2)) ≡ reading (v128 ∷ []) v128 4 172231807147339928759707641239778029552 172231807097783488085154068846753017840
  pub v128_load64_lane : of_bytes (simd_access (simd.V128Load64Lane (at 4 1) 1)) ≡ reading (v128 ∷ []) v128 8 330852319628488926961371134001185484784 118006439033035047414368821527158124528
  pub v128_store8_lane : of_bytes (simd_access (simd.V128Store8Lane (at 4 1) 11)) ≡ writing v128 1 (197 ∷ [])
  pub v128_store16_lane : of_bytes (simd_access (simd.V128Store16Lane (at 4 1) 5)) ≡ writing v128 2 (214 ∷ 197 ∷ [])
  pub v128_store32_lane : of_bytes (simd_access (simd.V128Store32Lane (at 4 1) 2)) ≡ writing v128 4 (248 ∷ 231 ∷ 214 ∷ 197 ∷ [])
  pub v128_store64_lane : of_bytes (simd_access (simd.V128Store64Lane (at 4 1) 1)) ≡ writing v128 8 (248 ∷ 231 ∷ 214 ∷ 197 ∷ 180 ∷ 163 ∷ 146 ∷ 129 ∷ [])

pub record OperatorTablesWorked : Type 0 where
  pub integers : IntegerTableWorked
  pub atomics : AtomicTableWorked
  pub accesses : AccessTableWorked
  pub vectors : VectorTableWorked
