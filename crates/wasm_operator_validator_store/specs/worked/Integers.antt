-- Worked rows of functions of integers, and worked steps of their operators over a store.
use Rattle.std.specs.Prelude.{◌≡◌, ℕ, pos, negsuc, true, false, List, [], ◌∷◌, Some, None}
use Rattle.wasm_types.specs.trees.Types.{number, i64}
use Rattle.wasm_operators_enums.specs.declared.numeric.NumericOperator.{NumericOperator}
use Rattle.wasm_operators_enums.specs.declared.numeric.NumericOperator.TheVariants as numeric
use Rattle.wasm_operators_enums.specs.Op as op
use Rattle.wasm_operators_encoding.specs.expressions.Code.{Code, plain}
use Rattle.wasm_operator_validator_soundness.specs.runs.Values.{Value, number_value}
use Rattle.wasm_operator_validator_soundness.specs.runs.States.{Answer, returned, trapped}
use Rattle.wasm_operator_validator_soundness.specs.runs.worked.Runs.{silent, standing, end}
use Rattle.wasm_operator_validator_store.specs.Stores.{Store}
use Rattle.wasm_operator_validator_store.specs.Integers.{iadd, isub, imul, idiv_u, idiv_s, irem_u, irem_s, iand, ior, ixor, wrap, extend_u, extend_s, iextend_s, ishl, ishr_u, ishr_s, irotl, irotr, iclz, ictz, ipopcnt, ieqz, ieq, ine, ilt_u, ilt_s, igt_u, igt_s, ile_u, ile_s, ige_u, ige_s}
use Rattle.wasm_operator_validator_store.specs.Giving.{GivesStep}
use Rattle.wasm_operator_validator_store.specs.worked.Program.{num, giving, trapping, program, store, numbers, in_place, LeadsFrom, Leads, returns, const_then}

-- ---- functions

-- sums, products and quotients
pub record ArithmeticWorked : Type 0 where
  pub sum : iadd 32 1 2 ≡ 3
  pub sum_wraps : iadd 32 4294967295 1 ≡ 0
  pub wide_sum : iadd 64 4294967295 1 ≡ 4294967296
  pub difference : isub 32 5 3 ≡ 2
  pub difference_wraps : isub 32 3 5 ≡ 4294967294
  pub of_itself : isub 32 3 3 ≡ 0
  pub wide_difference : isub 64 0 1 ≡ 18446744073709551615
  pub product : imul 32 6 7 ≡ 42
  pub product_wraps : imul 32 65536 65536 ≡ 0
  pub negative_product : imul 32 4294967295 4294967295 ≡ 1
  pub wide_product : imul 64 65536 65536 ≡ 4294967296
  pub quotient_u : idiv_u 32 7 2 ≡ Some 3
  pub large_quotient_u : idiv_u 32 4294967295 2 ≡ Some 2147483647
  pub by_zero_u : idiv_u 32 7 0 ≡ None
  -- toward zero; by zero, and of the least number by -1, there is none
  pub quotient_s : idiv_s 32 7 2 ≡ Some 3
  pub of_negative : idiv_s 32 4294967289 2 ≡ Some 4294967293
  pub by_negative : idiv_s 32 7 4294967294 ≡ Some 4294967293
  pub both_negative : idiv_s 32 4294967289 4294967294 ≡ Some 3
  pub by_zero_s : idiv_s 32 7 0 ≡ None
  pub overflow : idiv_s 32 2147483648 4294967295 ≡ None
  pub no_overflow : idiv_s 32 2147483649 4294967295 ≡ Some 2147483647
  pub least_by_one : idiv_s 32 2147483648 1 ≡ Some 2147483648
  pub wide_overflow : idiv_s 64 9223372036854775808 18446744073709551615 ≡ None
  pub wide_no_overflow : idiv_s 64 2147483648 18446744073709551615 ≡ Some 18446744071562067968
  pub rest_u : irem_u 32 7 2 ≡ Some 1
  pub large_rest_u : irem_u 32 4294967289 5 ≡ Some 4
  pub rest_by_zero_u : irem_u 32 7 0 ≡ None
  -- with the sign of the dividend; of the least number by -1 it is 0
  pub rest_of_negative : irem_s 32 4294967289 2 ≡ Some 4294967295
  pub rest_by_negative : irem_s 32 7 4294967294 ≡ Some 1
  pub rest_of_least : irem_s 32 2147483648 4294967295 ≡ Some 0
  pub rest_by_zero_s : irem_s 32 7 0 ≡ None
  pub wide_rest : irem_s 64 18446744073709551609 3 ≡ Some 18446744073709551615

-- bits
pub record BitsWorked : Type 0 where
  pub both : iand 32 12 10 ≡ 8
  pub either : ior 32 12 10 ≡ 14
  pub one : ixor 32 12 10 ≡ 6
  -- shifts by the amount modulo the width
  pub left : ishl 32 3 4 ≡ 48
  pub left_out : ishl 32 2147483649 1 ≡ 2
  pub left_by_width : ishl 32 3 32 ≡ 3
  pub left_past : ishl 32 3 33 ≡ 6
  pub wide_left : ishl 64 3 32 ≡ 12884901888
  pub right_u : ishr_u 32 2147483648 31 ≡ 1
  pub right_u_by_width : ishr_u 32 2147483648 32 ≡ 2147483648
  pub wide_right_u : ishr_u 64 9223372036854775808 63 ≡ 1
  pub right_s : ishr_s 32 4294967288 1 ≡ 4294967292
  pub positive_right_s : ishr_s 32 8 1 ≡ 4
  pub all_right_s : ishr_s 32 2147483648 31 ≡ 4294967295
  pub right_s_by_width : ishr_s 32 2147483648 32 ≡ 2147483648
  pub wide_right_s : ishr_s 64 2147483648 31 ≡ 1
  pub around_left : irotl 32 2147483649 1 ≡ 3
  pub around_left_0 : irotl 32 2147483649 0 ≡ 2147483649
  pub around_left_by_width : irotl 32 2147483649 32 ≡ 2147483649
  pub wide_around_left : irotl 64 2147483649 1 ≡ 4294967298
  pub around_right : irotr 32 3 1 ≡ 2147483649
  pub around_right_0 : irotr 32 3 0 ≡ 3
  pub around_right_4 : irotr 32 18 4 ≡ 536870913
  pub wide_around_right : irotr 64 3 1 ≡ 9223372036854775809
  -- counts
  pub zeros_of_zero : iclz 32 0 ≡ 32
  pub zeros_of_one : iclz 32 1 ≡ 31
  pub zeros_of_highest : iclz 32 2147483648 ≡ 0
  pub wide_zeros : iclz 64 1 ≡ 63
  pub last_of_zero : ictz 32 0 ≡ 32
  pub last_of_one : ictz 32 1 ≡ 0
  pub last_of_highest : ictz 32 2147483648 ≡ 31
  pub wide_last : ictz 64 0 ≡ 64
  pub ones_of_zero : ipopcnt 32 0 ≡ 0
  pub ones_of_all : ipopcnt 32 4294967295 ≡ 32
  pub ones_of_five : ipopcnt 32 5 ≡ 2
  pub wide_ones : ipopcnt 64 18446744073709551615 ≡ 64
  -- more bits, or fewer
  pub extended_8 : iextend_s 8 32 128 ≡ 4294967168
  pub extended_low_8 : iextend_s 8 32 383 ≡ 127
  pub extended_16 : iextend_s 16 32 32768 ≡ 4294934528
  pub wide_8 : iextend_s 8 64 255 ≡ 18446744073709551615
  pub wide_32 : iextend_s 32 64 2147483648 ≡ 18446744071562067968
  pub extended_s : extend_s 32 64 4294967295 ≡ 18446744073709551615
  pub positive_extended_s : extend_s 32 64 2147483647 ≡ 2147483647
  pub extended_u : extend_u 32 64 4294967295 ≡ 4294967295
  pub wrapped : wrap 32 4294967301 ≡ 5

-- comparisons
pub record ComparisonsWorked : Type 0 where
  pub zero : ieqz 32 0 ≡ true
  pub not_zero : ieqz 32 1 ≡ false
  pub equal : ieq 32 3 3 ≡ true
  pub not_equal : ieq 32 3 4 ≡ false
  pub unequal : ine 32 3 4 ≡ true
  pub not_unequal : ine 32 3 3 ≡ false
  pub less_s_negative : ilt_s 32 4294967295 0 ≡ true
  pub less_u_negative : ilt_u 32 4294967295 0 ≡ false
  pub less_s_positive : ilt_s 32 0 4294967295 ≡ false
  pub less_u_positive : ilt_u 32 0 4294967295 ≡ true
  pub less_s_same : ilt_s 32 5 5 ≡ false
  pub less_u_same : ilt_u 32 5 5 ≡ false
  pub greater_s_negative : igt_s 32 4294967295 0 ≡ false
  pub greater_u_negative : igt_u 32 4294967295 0 ≡ true
  pub greater_s_positive : igt_s 32 0 4294967295 ≡ true
  pub greater_u_positive : igt_u 32 0 4294967295 ≡ false
  pub greater_s_same : igt_s 32 5 5 ≡ false
  pub greater_u_same : igt_u 32 5 5 ≡ false
  pub at_most_s_negative : ile_s 32 4294967295 0 ≡ true
  pub at_most_u_negative : ile_u 32 4294967295 0 ≡ false
  pub at_most_s_positive : ile_s 32 0 4294967295 ≡ false
  pub at_most_u_positive : ile_u 32 0 4294967295 ≡ true
  pub at_most_s_same : ile_s 32 5 5 ≡ true
  pub at_most_u_same : ile_u 32 5 5 ≡ true
  pub at_least_s_negative : ige_s 32 4294967295 0 ≡ false
  pub at_least_u_negative : ige_u 32 4294967295 0 ≡ true
  pub at_least_s_positive : ige_s 32 0 4294967295 ≡ true
  pub at_least_u_positive : ige_u 32 0 4294967295 ≡ false
  pub at_least_s_same : ige_s 32 5 5 ≡ true
  pub at_least_u_same : ige_u 32 5 5 ≡ true
  pub wide_less_s : ilt_s 64 2147483648 0 ≡ false

-- ---- steps

abbrev pub numeric_then : NumericOperator → Code → Code
numeric_then o more = plain (op.Numeric o) more

abbrev pub wide : ℕ → Value
wide b = number_value i64 b

-- this is given, the last operand on top; and there is a trap
abbrev pub Gives : NumericOperator → List Value → ℕ → Type 0
Gives o vs b = Leads (numeric_then o end) vs (giving (num b ∷ []) ∷ []) silent (returns b)

abbrev pub GivesWide : NumericOperator → List Value → ℕ → Type 0
GivesWide o vs b = LeadsFrom (in_place (number i64 ∷ []) vs (numeric_then o end)) (giving (wide b ∷ []) ∷ []) silent
    (returned (wide b ∷ []))

abbrev pub Falls : NumericOperator → List Value → Type 0
Falls o vs = Leads (numeric_then o end) vs [] trapping trapped

abbrev pub Steps : NumericOperator → List Value → Answer → Store → Type 0
Steps o vs a u = GivesStep program (standing numbers vs (numeric_then o end)) store a u

pub record IntegerStepsWorked : Type 0 where
  pub sum : Gives numeric.I32Add (num 1 ∷ num 2 ∷ []) 3
  pub difference : Gives numeric.I32Sub (num 3 ∷ num 5 ∷ []) 2
  pub wide_product : GivesWide numeric.I64Mul (wide 65536 ∷ wide 65536 ∷ []) 4294967296
  pub quotient : Gives numeric.I32DivS (num 2 ∷ num 4294967289 ∷ []) 4294967293
  pub quotient_u : Gives numeric.I32DivU (num 2 ∷ num 4294967289 ∷ []) 2147483644
  pub rest : GivesWide numeric.I64RemU (wide 10 ∷ wide 18446744073709551615 ∷ []) 5
  pub shifted : Gives numeric.I32ShrS (num 33 ∷ num 4294967288 ∷ []) 4294967292
  pub compared : Gives numeric.I64LtS (wide 0 ∷ wide 18446744073709551615 ∷ []) 1
  pub compared_u : Gives numeric.I64LtU (wide 0 ∷ wide 18446744073709551615 ∷ []) 0
  pub tested : Gives numeric.I64Eqz (wide 0 ∷ []) 1
  pub wrapped : Gives numeric.I32WrapI64 (wide 4294967301 ∷ []) 5
  pub extended : GivesWide numeric.I64ExtendI32S (num 4294967295 ∷ []) 18446744073709551615
  pub extended_u : GivesWide numeric.I64ExtendI32U (num 4294967295 ∷ []) 4294967295
  pub extended_8 : Gives numeric.I32Extend8S (num 128 ∷ []) 4294967168
  -- what is below one operand stays
  pub below : Leads (numeric_then numeric.I32Clz (numeric_then numeric.I32Add end)) (num 1 ∷ num 7 ∷ [])
      (giving (num 31 ∷ []) ∷ giving (num 38 ∷ []) ∷ []) silent (returns 38)
  -- of constants
  pub folded : Leads (const_then (negsuc 6) (const_then (pos 2) (numeric_then numeric.I32DivS end))) []
      (giving (num 4294967289 ∷ []) ∷ giving (num 2 ∷ []) ∷ giving (num 4294967293 ∷ []) ∷ []) silent (returns 4294967293)
  -- by zero, and of the least number by -1
  pub by_zero : Falls numeric.I32DivS (num 0 ∷ num 7 ∷ [])
  pub by_zero_u : Falls numeric.I32DivU (num 0 ∷ num 7 ∷ [])
  pub rest_by_zero : Falls numeric.I64RemU (wide 0 ∷ wide 7 ∷ [])
  pub overflow : Falls numeric.I32DivS (num 4294967295 ∷ num 2147483648 ∷ [])
  pub rest_of_least : Gives numeric.I32RemS (num 4294967295 ∷ num 2147483648 ∷ []) 0
  -- no other number, no trap, and no number in the place of a trap
  pub no_other : (u : Store) → Steps numeric.I32Add (num 1 ∷ num 2 ∷ []) (giving (num 4 ∷ [])) u → ⊥
  pub no_trap : (u : Store) → Steps numeric.I32DivU (num 4294967295 ∷ num 2147483648 ∷ []) trapping u → ⊥
  pub no_quotient : (b : ℕ) (u : Store) → Steps numeric.I32DivS (num 0 ∷ num 7 ∷ []) (giving (num b ∷ [])) u → ⊥
  pub no_change : (a : Answer) (u : Store) → Steps numeric.I32Add (num 1 ∷ num 2 ∷ []) a u → u ≡ store

pub record IntegersWorked : Type 0 where
  pub arithmetic : ArithmeticWorked
  pub bits : BitsWorked
  pub comparisons : ComparisonsWorked
  pub steps : IntegerStepsWorked
