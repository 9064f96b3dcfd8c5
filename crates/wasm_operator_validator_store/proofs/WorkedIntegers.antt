-- Functions of integers, worked, and steps of their operators.
use Rattle.std.proofs.Common.{◌≡◌, ℕ, [], ◌∷◌, refl, sym, ap, arith, get_or, true≢false}
use Rattle.wasm_types.specs.trees.Trees.{opened}
use Rattle.wasm_types.specs.trees.ValidGroup.{types_from}
use Rattle.wasm_operator_validator_store.specs.Stores.{nothing, bits_of}
use Rattle.wasm_operator_validator_store.specs.worked.Program.{num}
use Rattle.wasm_operator_validator_store.specs.worked.Integers.{ArithmeticWorked, BitsWorked, ComparisonsWorked, IntegerStepsWorked, IntegersWorked}

arithmetic_worked : ArithmeticWorked
arithmetic_worked = record {
  sum = refl;
  sum_wraps = refl;
  wide_sum = refl;
  difference = refl;
  difference_wraps = refl;
  of_itself = refl;
  wide_difference = refl;
  product = refl;
  product_wraps = refl;
  negative_product = refl;
  wide_product = refl;
  quotient_u = refl;
  large_quotient_u = refl;
  by_zero_u = refl;
  quotient_s = refl;
  of_negative = refl;
  by_negative = refl;
  both_negative = refl;
  by_zero_s = refl;
  overflow = refl;
  no_overflow = refl;
  least_by_one = refl;
  wide_overflow = refl;
  wide_no_overflow = refl;
  rest_u = refl;
  large_rest_u = refl;
  rest_by_zero_u = refl;
  rest_of_negative = refl;
  rest_by_negative = refl;
  rest_of_least = refl;
  rest_by_zero_s = refl;
  wide_rest = refl;
}

bits_worked : BitsWorked
bits_worked = record {
  both = refl;
  either = refl;
  one = refl;
  left = refl;
  left_out = refl;
  left_by_width = refl;
  left_past = refl;
  wide_left = refl;
  right_u = refl;
  right_u_by_width = refl;
  wide_right_u = refl;
  right_s = refl;
  positive_right_s = refl;
  all_right_s = refl;
  right_s_by_width = refl;
  wide_right_s = refl;
  around_left = refl;
  around_left_0 = refl;
  around_left_by_width = refl;
  wide_around_left = refl;
  around_right = refl;
  around_right_0 = refl;
  around_right_4 = refl;
  wide_around_right = refl;
  zeros_of_zero = refl;
  zeros_of_one = refl;
  zeros_of_highest = refl;
  wide_zeros = refl;
  last_of_zero = refl;
  last_of_one = refl;
  last_of_highest = refl;
  wide_last = refl;
  ones_of_zero = refl;
  ones_of_all = refl;
  ones_of_five = refl;
  wide_ones = refl;
  extended_8 = refl;
  extended_low_8 = refl;
  extended_16 = refl;
  wide_8 = refl;
  wide_32 = refl;
  extended_s = refl;
  positive_extended_s = refl;
  extended_u = refl;
  wrapped = refl;
}

comparisons_worked : ComparisonsWorked
comparisons_worked = record {
  zero = refl;
  not_zero = refl;
  equal = refl;
  not_equal = refl;
  unequal = refl;
  not_unequal = refl;
  less_s_negative = refl;
  less_u_negative = refl;
  less_s_positive = refl;
  less_u_positive = refl;
  less_s_same = refl;
  less_u_same = refl;
  greater_s_negative = refl;
  greater_u_negative = refl;
  greater_s_positive = refl;
  greater_u_positive = refl;
  greater_s_same = refl;
  greater_u_same = refl;
  at_most_s_negative = refl;
  at_most_u_negative = refl;
  at_most_s_positive = refl;
  at_most_u_positive = refl;
  at_most_s_same = refl;
  at_most_u_same = refl;
  at_least_s_negative = refl;
  at_least_u_negative = refl;
  at_least_s_positive = refl;
  at_least_u_positive = refl;
  at_least_s_same = refl;
  at_least_u_same = refl;
  wide_less_s = refl;
}

unlike : (n m : ℕ) → num n ∷ [] ≡ num m ∷ [] → (n ≡ m → ⊥) → ⊥
unlike n m e f = f (ap (λ vs. bits_of (get_or vs 0 nothing)) e)

integer_steps_worked : IntegerStepsWorked
unfolding opened types_from
integer_steps_worked = record {
  sum = (_, _, _, (_, _, (refl, refl, refl), refl, (refl, refl)), (refl, refl), refl);
  difference = (_, _, _, (_, _, (refl, refl, refl), refl, (refl, refl)), (refl, refl), refl);
  wide_product = (_, _, _, (_, _, (refl, refl, refl), refl, (refl, refl)), (refl, refl), refl);
  quotient = (_, _, _, (_, _, (refl, refl, refl), refl, (refl, refl)), (refl, refl), refl);
  quotient_u = (_, _, _, (_, _, (refl, refl, refl), refl, (refl, refl)), (refl, refl), refl);
  rest = (_, _, _, (_, _, (refl, refl, refl), refl, (refl, refl)), (refl, refl), refl);
  shifted = (_, _, _, (_, _, (refl, refl, refl), refl, (refl, refl)), (refl, refl), refl);
  compared = (_, _, _, (_, _, (refl, refl, refl), refl, (refl, refl)), (refl, refl), refl);
  compared_u = (_, _, _, (_, _, (refl, refl, refl), refl, (refl, refl)), (refl, refl), refl);
  tested = (_, _, _, (_, _, (refl, refl, refl), refl, (refl, refl)), (refl, refl), refl);
  wrapped = (_, _, _, (_, _, (refl, refl, refl), refl, (refl, refl)), (refl, refl), refl);
  extended = (_, _, _, (_, _, (refl, refl, refl), refl, (refl, refl)), (refl, refl), refl);
  extended_u = (_, _, _, (_, _, (refl, refl, refl), refl, (refl, refl)), (refl, refl), refl);
  extended_8 = (_, _, _, (_, _, (refl, refl, refl), refl, (refl, refl)), (refl, refl), refl);
  below = (_, _, _, (_, _, (refl, refl, refl), refl, (_, _, (refl, refl, refl), refl, (refl, refl))), (refl, refl), refl);
  folded = (_, _, _, (_, _, (refl, refl, refl), refl, (_, _, (refl, refl, refl), refl, (_, _, (refl, refl, refl), refl, (refl, refl)))), (refl, refl), refl);
  by_zero = (_, _, _, (refl, refl), (refl, (refl, refl)), refl);
  by_zero_u = (_, _, _, (refl, refl), (refl, (refl, refl)), refl);
  rest_by_zero = (_, _, _, (refl, refl), (refl, (refl, refl)), refl);
  overflow = (_, _, _, (refl, refl), (refl, (refl, refl)), refl);
  rest_of_least = (_, _, _, (_, _, (refl, refl, refl), refl, (refl, refl)), (refl, refl), refl);
  no_other = λ u g. unlike 4 3 g.0 (omega arith);
  no_trap = λ u g. true≢false g.1;
  no_quotient = λ b u g. true≢false (sym g.0);
  no_change = λ a u g. g.2;
}

pub integers_worked : IntegersWorked
integers_worked = record { arithmetic = arithmetic_worked; bits = bits_worked; comparisons = comparisons_worked; steps = integer_steps_worked }
