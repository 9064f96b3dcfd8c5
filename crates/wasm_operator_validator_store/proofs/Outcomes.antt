-- The worked outcomes over a store.
use mathlib.Core.Logic.{⊎_elim}
use Rattle.std.proofs.Common.{◌≡◌, ℕ, ◌^◌, IsTrue, nat_lt, List, [], ◌∷◌, get_or, subst, refl, sym, ap, inl, inr, true≢false, arith}
use Rattle.wasm_types.specs.trees.Types.{Number, i32, i64, i31, struct}
use Rattle.wasm_types.specs.trees.Trees.{opened}
use Rattle.wasm_types.specs.trees.AbstractOrder.{AbstractBelow, same}
use Rattle.wasm_types.specs.trees.ValidGroup.{types_from}
use Rattle.wasm_operator_validator_store.specs.Stores.{Store, nothing, bits_of, IsWithin, segment_in}
use Rattle.wasm_operator_validator_soundness.specs.runs.Values.{Value, number_value}
use Rattle.wasm_operator_validator_store.specs.worked.Program.{num}
use Rattle.wasm_operator_validator_store.proofs.Premises.{triple_unfit}
use Rattle.wasm_operator_validator_store.specs.worked.Outcomes.{ChoicesWorked, ConstantsWorked, ElementsWorked, FieldsWorked, ReferencesWorked, TestsWorked, ClausesWorked, TablesWorked, OpenWorked, TrapsWorked, OutcomesWorked}

no_struct : AbstractBelow i31 struct → ⊥
no_struct l = elim l [ ]

unlike : (t : Number) (n m : ℕ) → number_value t n ∷ [] ≡ number_value t m ∷ [] → (n ≡ m → ⊥) → ⊥
unlike t n m e f = f (ap (λ vs. bits_of (get_or vs 0 nothing)) e)

choices_worked : ChoicesWorked
unfolding opened types_from
choices_worked = record {
  first_label = (_, _, _, (_, _, (refl, refl), refl, (_, _, (refl, refl), refl, (_, _, (refl, refl, refl), refl, (_, _, (refl, refl, refl), refl, (_, _, (refl, (refl, refl)), refl, (_, _, (refl, refl), refl, (_, _, (refl, refl, refl), refl, (refl, refl)))))))), (refl, refl), refl);
  second_label = (_, _, _, (_, _, (refl, refl), refl, (_, _, (refl, refl), refl, (_, _, (refl, refl, refl), refl, (_, _, (refl, refl, refl), refl, (_, _, (refl, (refl, refl)), refl, (_, _, (refl, refl), refl, (_, _, (refl, refl, refl), refl, (refl, refl)))))))), (refl, refl), refl);
  default_label = (_, _, _, (_, _, (refl, refl), refl, (_, _, (refl, refl), refl, (_, _, (refl, refl, refl), refl, (_, _, (refl, refl, refl), refl, (refl, refl))))), (refl, (refl, refl)), refl);
  past_all_labels = (_, _, _, (_, _, (refl, refl), refl, (_, _, (refl, refl), refl, (_, _, (refl, refl, refl), refl, (_, _, (refl, refl, refl), refl, (refl, refl))))), (refl, (refl, refl)), refl);
  selected_first = (_, _, _, (_, _, (refl, (refl, refl)), refl, (refl, refl)), (refl, refl), refl);
  selected_first_by_any = (_, _, _, (_, _, (refl, (refl, refl)), refl, (refl, refl)), (refl, refl), refl);
  selected_second = (_, _, _, (_, _, (refl, (refl, refl)), refl, (refl, refl)), (refl, refl), refl);
  typed_first = (_, _, _, (_, _, (refl, (refl, refl)), refl, (refl, refl)), (refl, refl), refl);
  typed_first_by_any = (_, _, _, (_, _, (refl, (refl, refl)), refl, (refl, refl)), (refl, refl), refl);
  typed_second = (_, _, _, (_, _, (refl, (refl, refl)), refl, (refl, refl)), (refl, refl), refl);
  first_part = (_, _, _, (_, _, (refl, (refl, refl)), refl, (_, _, (refl, refl, refl), refl, (_, _, (refl, refl), refl, (refl, refl)))), (refl, refl), refl);
  second_part = (_, _, _, (_, _, (refl, (refl, refl)), refl, (_, _, (refl, refl, refl), refl, (_, _, (refl, refl), refl, (refl, refl)))), (refl, refl), refl);
  branches_by_any = (_, _, _, (refl, refl), (refl, (refl, refl)), refl);
  looped = (_, _, _, (_, _, (refl, refl), refl, (_, _, (refl, refl, refl), refl, (_, _, (refl, refl), refl, (_, _, (refl, (refl, refl)), refl, (_, _, (refl, refl), refl, (_, _, (refl, refl, refl), refl, (_, _, (refl, refl), refl, (_, _, (refl, refl), refl, (_, _, (refl, refl, refl), refl, (_, _, (refl, refl), refl, (refl, refl))))))))))), (refl, (refl, refl)), refl);
}

constants_worked : ConstantsWorked
unfolding opened types_from
constants_worked = record {
  negative = (_, _, _, (_, _, (refl, refl, refl), refl, (refl, refl)), (refl, refl), refl);
  negative_wide = (_, _, _, (_, _, (refl, refl, refl), refl, (refl, refl)), (refl, refl), refl);
  positive_wide = (_, _, _, (_, _, (refl, refl, refl), refl, (refl, refl)), (refl, refl), refl);
  single = (_, _, _, (_, _, (refl, refl, refl), refl, (refl, refl)), (refl, refl), refl);
  double = (_, _, _, (_, _, (refl, refl, refl), refl, (refl, refl)), (refl, refl), refl);
}

elements_worked : ElementsWorked
unfolding opened types_from
elements_worked = record {
  length_of_new = (_, _, _, (_, _, (refl, (refl, refl, refl)), refl, (_, _, (refl, (refl, refl, refl)), refl, (refl, refl))), (refl, refl), refl);
  no_element = (_, _, _, (_, _, (refl, (refl, refl, refl)), refl, (_, _, (refl, (refl, refl, refl)), refl, (refl, refl))), (refl, refl), refl);
  last_of_new = (_, _, _, (_, _, (refl, (refl, refl, refl)), refl, (_, _, (refl, refl, refl), refl, (_, _, (refl, refl, refl), refl, (_, _, (refl, (refl, refl, refl)), refl, (refl, refl))))), (refl, refl), refl);
  past_new = (_, _, _, (_, _, (refl, (refl, refl, refl)), refl, (_, _, (refl, refl, refl), refl, (refl, refl))), (refl, (refl, refl)), refl);
  length_of_defaults = (_, _, _, (_, _, (refl, (refl, refl, refl)), refl, (_, _, (refl, (refl, refl, refl)), refl, (refl, refl))), (refl, refl), refl);
  default_reference = (_, _, _, (_, _, (refl, (refl, refl, refl)), refl, (_, _, (refl, refl, refl), refl, (_, _, (refl, refl, refl), refl, (_, _, (refl, (refl, refl, refl)), refl, (refl, refl))))), (refl, refl), refl);
  length_of_fixed = (_, _, _, (_, _, (refl, (refl, refl, refl)), refl, (_, _, (refl, (refl, refl, refl)), refl, (refl, refl))), (refl, refl), refl);
  last_of_fixed = (_, _, _, (_, _, (refl, (refl, refl, refl)), refl, (_, _, (refl, refl, refl), refl, (_, _, (refl, refl, refl), refl, (_, _, (refl, (refl, refl, refl)), refl, (refl, refl))))), (refl, refl), refl);
  length_of_segment = (_, _, _, (_, _, (refl, (refl, refl, refl)), refl, (_, _, (refl, (refl, refl, refl)), refl, (refl, refl))), (refl, refl), refl);
  set = (_, _, _, (_, _, (refl, refl, refl), refl, (_, _, (refl, refl, refl), refl, (_, _, (refl, refl, refl), refl, (_, _, (refl, (refl, refl, refl)), refl, (refl, refl))))), (refl, refl), refl);
  others_not_set = (_, _, _, (_, _, (refl, refl, refl), refl, (_, _, (refl, refl, refl), refl, (_, _, (refl, refl, refl), refl, (_, _, (refl, (refl, refl, refl)), refl, (refl, refl))))), (refl, refl), refl);
  set_past_the_end = (_, _, _, (refl, refl), (refl, (refl, refl)), refl);
  null_set = (_, _, _, (refl, refl), (refl, (refl, refl)), refl);
  null_get = (_, _, _, (refl, refl), (refl, (refl, refl)), refl);
  null_length = (_, _, _, (refl, refl), (refl, (refl, refl)), refl);
  second_unsigned = (_, _, _, (_, _, (refl, refl, refl), refl, (refl, refl)), (refl, refl), refl);
  first_signed = (_, _, _, (_, _, (refl, refl, refl), refl, (refl, refl)), (refl, refl), refl);
  filled_past_the_end = (_, _, _, (refl, refl), (refl, (refl, refl)), refl);
  nothing_filled = (_, _, _, (_, _, (refl, refl, refl), refl, (refl, refl)), (refl, refl), refl);
  nothing_filled_past_the_end = (_, _, _, (refl, refl), (refl, (refl, refl)), refl);
  filled_from_its_place = (_, _, _, (_, _, (refl, refl, refl), refl, (_, _, (refl, refl, refl), refl, (_, _, (refl, refl, refl), refl, (_, _, (refl, (refl, refl, refl)), refl, (refl, refl))))), (refl, refl), refl);
  written_whole = (_, _, _, (_, _, (refl, refl, refl), refl, (_, _, (refl, refl, refl), refl, (_, _, (refl, refl, refl), refl, (_, _, (refl, (refl, refl, refl)), refl, (refl, refl))))), (refl, refl), refl);
  copied_over_itself = (_, _, _, (_, _, (refl, refl, refl), refl, (_, _, (refl, refl, refl), refl, (_, _, (refl, refl, refl), refl, (_, _, (refl, refl, refl), refl, (_, _, (refl, (refl, refl, refl)), refl, (refl, refl)))))), (refl, refl), refl);
  copied_past_the_source = (_, _, _, (refl, refl), (refl, (refl, refl)), refl);
  copied_past_the_end = (_, _, _, (refl, refl), (refl, (refl, refl)), refl);
}

fields_worked : FieldsWorked
unfolding opened types_from
fields_worked = record {
  first_signed = (_, _, _, (_, _, (refl, (refl, refl, refl)), refl, (_, _, (refl, refl, refl), refl, (refl, refl))), (refl, refl), refl);
  first_unsigned = (_, _, _, (_, _, (refl, (refl, refl, refl)), refl, (_, _, (refl, refl, refl), refl, (refl, refl))), (refl, refl), refl);
  second_signed = (_, _, _, (_, _, (refl, (refl, refl, refl)), refl, (_, _, (refl, refl, refl), refl, (refl, refl))), (refl, refl), refl);
  second_unsigned = (_, _, _, (_, _, (refl, (refl, refl, refl)), refl, (_, _, (refl, refl, refl), refl, (refl, refl))), (refl, refl), refl);
  low_bits = (_, _, _, (_, _, (refl, (refl, refl, refl)), refl, (_, _, (refl, refl, refl), refl, (refl, refl))), (refl, refl), refl);
  first_of_two = (_, _, _, (_, _, (refl, (refl, refl, refl)), refl, (_, _, (refl, refl, refl), refl, (refl, refl))), (refl, refl), refl);
  null_set = (_, _, _, (refl, refl), (refl, (refl, refl)), refl);
}

references_worked : ReferencesWorked
unfolding opened types_from
references_worked = record {
  nulls = (_, _, _, (_, _, (refl, (refl, refl, refl)), refl, (refl, refl)), (refl, refl), refl);
  scalars = (_, _, _, (_, _, (refl, (refl, refl, refl)), refl, (refl, refl)), (refl, refl), refl);
  other_scalar = (_, _, _, (_, _, (refl, (refl, refl, refl)), refl, (refl, refl)), (refl, refl), refl);
  null_and_scalar = (_, _, _, (_, _, (refl, (refl, refl, refl)), refl, (refl, refl)), (refl, refl), refl);
  scalar_and_null = (_, _, _, (_, _, (refl, (refl, refl, refl)), refl, (refl, refl)), (refl, refl), refl);
  object_and_scalar = (_, _, _, (_, _, (refl, (refl, refl, refl)), refl, (refl, refl)), (refl, refl), refl);
  null = (_, _, _, (_, _, (refl, (refl, refl, refl)), refl, (refl, refl)), (refl, refl), refl);
  not_null = (_, _, _, (_, _, (refl, (refl, refl, refl)), refl, (refl, refl)), (refl, refl), refl);
  unsigned_scalar = (_, _, _, (_, _, (refl, (refl, refl, refl)), refl, (refl, refl)), (refl, refl), refl);
  positive_scalar = (_, _, _, (_, _, (refl, (refl, refl, refl)), refl, (refl, refl)), (refl, refl), refl);
  boxed = (_, _, _, (_, _, (refl, refl, refl), refl, (_, _, (refl, (refl, refl, refl)), refl, (refl, refl))), (refl, refl), refl);
  null_unboxed_s = (_, _, _, (refl, refl), (refl, (refl, refl)), refl);
  null_unboxed_u = (_, _, _, (refl, refl), (refl, (refl, refl)), refl);
}

tests_worked : TestsWorked
unfolding opened types_from
tests_worked = record {
  of_the_type = (_, _, _, (_, _, (((λ e. (tt, (tt, (refl, same)))), (λ g. refl)), (refl, (refl, refl, refl))), refl, (refl, refl)), (refl, refl), refl);
  of_the_type_or_null = (_, _, _, (_, _, (((λ e. (tt, (tt, (refl, same)))), (λ g. refl)), (refl, (refl, refl, refl))), refl, (refl, refl)), (refl, refl), refl);
  not_of_the_type = (_, _, _, (_, _, (((λ e. absurd (true≢false (sym e))), (λ g. absurd (no_struct g.1.1.1))), (refl, (refl, refl, refl))), refl, (refl, refl)), (refl, refl), refl);
  not_of_the_type_or_null = (_, _, _, (_, _, (((λ e. absurd (true≢false (sym e))), (λ g. absurd (no_struct g.1.1.1))), (refl, (refl, refl, refl))), refl, (refl, refl)), (refl, refl), refl);
  null_is_not = (_, _, _, (_, _, (((λ e. absurd (true≢false (sym e))), (λ g. absurd g.1.0)), (refl, (refl, refl, refl))), refl, (refl, refl)), (refl, refl), refl);
  null_is = (_, _, _, (_, _, (((λ e. absurd (true≢false (sym e))), (λ g. absurd g.1.0)), (refl, (refl, refl, refl))), refl, (refl, refl)), (refl, refl), refl);
  object_is_not = (_, _, _, (_, _, (((λ e. absurd (true≢false (sym e))), (λ g. absurd (triple_unfit g))), (refl, (refl, refl, refl))), refl, (refl, refl)), (refl, refl), refl);
  passes = (_, _, _, (_, _, (((λ e. (tt, (tt, (refl, same)))), (λ g. refl)), (refl, refl)), refl, (_, _, (refl, (refl, refl, refl)), refl, (refl, refl))), (refl, refl), refl);
  passes_or_null = (_, _, _, (_, _, (((λ e. (tt, (tt, (refl, same)))), (λ g. refl)), (refl, refl)), refl, (_, _, (refl, (refl, refl, refl)), refl, (refl, refl))), (refl, refl), refl);
  fails = (_, _, _, (refl, refl), (((λ e. absurd (true≢false (sym e))), (λ g. absurd (no_struct g.1.1.1))), (refl, refl)), refl);
  fails_or_null = (_, _, _, (refl, refl), (((λ e. absurd (true≢false (sym e))), (λ g. absurd (no_struct g.1.1.1))), (refl, refl)), refl);
  null_fails = (_, _, _, (refl, refl), (((λ e. absurd (true≢false (sym e))), (λ g. absurd g.1.0)), (refl, refl)), refl);
  null_passes = (_, _, _, (_, _, (((λ e. absurd (true≢false (sym e))), (λ g. absurd g.1.0)), (refl, refl)), refl, (_, _, (refl, (refl, refl, refl)), refl, (refl, refl))), (refl, refl), refl);
  branches = (_, _, _, (refl, refl), (((λ e. (tt, (tt, (refl, same)))), (λ g. refl)), (refl, refl)), refl);
  null_branches = (_, _, _, (refl, refl), (((λ e. absurd (true≢false (sym e))), (λ g. absurd g.1.0)), (refl, refl)), refl);
  other_goes_on = (_, _, _, (_, _, (((λ e. absurd (true≢false (sym e))), (λ g. absurd (no_struct g.1.1.1))), (refl, refl)), refl, (_, _, (refl, refl), refl, (_, _, (refl, refl), refl, (refl, refl)))), (refl, refl), refl);
  null_goes_on = (_, _, _, (_, _, (((λ e. absurd (true≢false (sym e))), (λ g. absurd g.1.0)), (refl, refl)), refl, (refl, refl)), (refl, refl), refl);
  other_fails = (_, _, _, (refl, refl), (((λ e. absurd (true≢false (sym e))), (λ g. absurd (no_struct g.1.1.1))), (refl, refl)), refl);
  same_passes = (_, _, _, (_, _, (((λ e. (tt, (tt, (refl, same)))), (λ g. refl)), (refl, refl)), refl, (refl, refl)), (refl, refl), refl);
}

clauses_worked : ClausesWorked
unfolding opened types_from
clauses_worked = record {
  all_caught = (_, _, _, (_, _, (refl, refl), refl, (_, _, (refl, refl), refl, (_, _, (refl, refl, refl), refl, (_, _, (refl, refl, refl, (refl, refl)), refl, (_, _, (refl, refl, refl), refl, (refl, refl)))))), (refl, refl), refl);
  all_before_the_tag = (_, _, _, (_, _, (refl, refl), refl, (_, _, (refl, refl), refl, (_, _, (refl, refl, refl), refl, (_, _, (refl, refl, refl, (refl, refl)), refl, (_, _, (refl, refl, refl), refl, (refl, refl)))))), (refl, refl), refl);
  all_behind_another = (_, _, _, (_, _, (refl, refl), refl, (_, _, (refl, refl), refl, (_, _, (refl, refl, refl), refl, (_, _, (refl, refl, refl, (refl, refl)), refl, (_, _, (refl, refl, refl), refl, (refl, refl)))))), (refl, refl), refl);
  tag_before_all = (_, _, _, (_, _, (refl, refl), refl, (_, _, (refl, refl), refl, (_, _, (refl, refl, refl), refl, (refl, refl)))), (refl, refl, refl, (refl, refl)), refl);
  none_for_it = (_, _, _, (_, _, (refl, refl), refl, (_, _, (refl, refl), refl, (_, _, (refl, refl, refl), refl, (refl, refl)))), (refl, refl, refl, (refl, refl)), refl);
  all_with_a_reference = (_, _, _, (_, _, (refl, refl), refl, (_, _, (refl, refl), refl, (_, _, (refl, refl, refl), refl, (_, _, (refl, refl, refl, (refl, refl)), refl, (refl, refl))))), (refl, refl, refl, (refl, refl)), refl);
  clause_for_all = (_, _, _, (_, _, (refl, refl), refl, (_, _, (refl, refl, refl), refl, (_, _, (refl, refl, refl, (refl, refl)), refl, (_, _, (refl, refl, refl), refl, (_, _, (refl, refl), refl, (refl, refl)))))), (refl, refl), refl);
  rethrown = (_, _, _, (_, _, (refl, refl), refl, (_, _, (refl, refl, refl), refl, (_, _, (refl, refl, refl, (refl, refl)), refl, (refl, refl)))), (refl, refl, refl, (refl, refl)), refl);
  null_thrown = (_, _, _, (refl, refl), (refl, refl), refl);
}

tables_worked : TablesWorked
unfolding opened types_from
tables_worked = record {
  get_first = (_, _, _, (_, _, (refl, refl, refl), refl, (_, _, (refl, refl, refl), refl, (_, _, (refl, (refl, refl, refl)), refl, (refl, refl)))), (refl, refl), refl);
  get_second = (_, _, _, (_, _, (refl, refl, refl), refl, (_, _, (refl, refl, refl), refl, (_, _, (refl, (refl, refl, refl)), refl, (refl, refl)))), (refl, refl), refl);
  get_past_the_end = (_, _, _, (refl, refl), (refl, (refl, refl)), refl);
  set_past_the_end = (_, _, _, (refl, refl), (refl, (refl, refl)), refl);
  size = (_, _, _, (_, _, (refl, refl, refl), refl, (refl, refl)), (refl, refl), refl);
  wide_size = (_, _, _, (_, _, (refl, refl, refl), refl, (refl, refl)), (refl, refl), refl);
  wide_grown = (_, _, _, (_, _, inl (refl, (refl, refl, refl)), refl, (_, _, (refl, refl), refl, (_, _, (refl, refl, refl), refl, (refl, refl)))), (refl, refl), refl);
  wide_not_grown = (_, _, _, (_, _, inr (refl, refl, refl), refl, (refl, refl)), (refl, refl), refl);
  filled_past_the_end = (_, _, _, (refl, refl), (refl, (refl, refl)), refl);
  initialised_past_the_segment = (_, _, _, (refl, refl), (refl, (refl, refl)), refl);
  initialised_past_the_table = (_, _, _, (refl, refl), (refl, (refl, refl)), refl);
  filled_whole = (_, _, _, (_, _, (refl, refl, refl), refl, (_, _, (refl, refl, refl), refl, (_, _, (refl, (refl, refl, refl)), refl, (refl, refl)))), (refl, refl), refl);
  initialised_at_its_place = (_, _, _, (_, _, (refl, refl, refl), refl, (_, _, (refl, refl, refl), refl, (_, _, (refl, (refl, refl, refl)), refl, (refl, refl)))), (refl, refl), refl);
  initialised_whole = (_, _, _, (_, _, (refl, refl, refl), refl, (_, _, (refl, refl, refl), refl, (_, _, (refl, (refl, refl, refl)), refl, (refl, refl)))), (refl, refl), refl);
  copied_whole = (_, _, _, (_, _, (refl, refl, refl), refl, (_, _, (refl, refl, refl), refl, (_, _, (refl, (refl, refl, refl)), refl, (refl, refl)))), (refl, refl), refl);
  copied_from_the_other = (_, _, _, (_, _, (refl, refl, refl), refl, (_, _, (refl, refl, refl), refl, (_, _, (refl, (refl, refl, refl)), refl, (refl, refl)))), (refl, refl), refl);
  other_dropped = (_, _, _, (_, _, (refl, refl, refl), refl, (_, _, (refl, refl, refl), refl, (_, _, (refl, refl, refl), refl, (_, _, (refl, (refl, refl, refl)), refl, (refl, refl))))), (refl, refl), refl);
  second_dropped = (_, _, _, (_, _, (refl, refl, refl), refl, (refl, refl)), (refl, (refl, refl)), refl);
  grown_by_two = (_, _, _, (_, _, inl (refl, (refl, refl, refl)), refl, (_, _, (refl, refl), refl, (_, _, (refl, refl, refl), refl, (refl, refl)))), (refl, refl), refl);
  grown_with_it = (_, _, _, (_, _, inl (refl, (refl, refl, refl)), refl, (_, _, (refl, refl), refl, (_, _, (refl, refl, refl), refl, (_, _, (refl, (refl, refl, refl)), refl, (refl, refl))))), (refl, refl), refl);
  grown_so_far = (_, _, _, (_, _, inl (refl, (refl, refl, refl)), refl, (refl, refl)), (refl, refl), refl);
  no_further = λ u g. ⊎_elim (λ c. true≢false (sym c.0)) (λ c. unlike i32 2 0xffff_ffff c.0 (omega arith)) g;
  wide_grown_so_far = (_, _, _, (_, _, inl (refl, (refl, refl, refl)), refl, (refl, refl)), (refl, refl), refl);
  wide_no_further = λ u g. ⊎_elim (λ c. true≢false (sym c.0)) (λ c. unlike i64 3 0xffff_ffff_ffff_ffff c.0 (omega arith)) g;
  immutable = λ n. true≢false (sym n.0);
  declared = λ u e. ap (λ (s : Store). segment_in s 0) (sym e);
}

-- the size of a shared memory that is given is one of its width
shared_size_within : (n : ℕ) (u : Store) (k : ℕ) → IsWithin (num k) → num n ∷ [] ≡ num k ∷ [] → IsTrue (nat_lt n (2 ^ 32))
shared_size_within n u k h e = subst (λ (vs : List Value). IsTrue (nat_lt (bits_of (get_or vs 0 nothing)) (2 ^ 32))) (sym e) h

open_worked : OpenWorked
unfolding opened types_from
open_worked = record {
  own_call = refl;
  host_call = refl;
  host_tail_call = refl;
  own_reference = refl;
  null_reference = refl;
  foreign_reference = refl;
  null_through = refl;
  past_the_table = refl;
  table_copy = refl;
  growth = refl;
  new_array = refl;
  from_data = refl;
  cast = refl;
  internal = refl;
  external = refl;
  sum = refl;
  float_sum = refl;
  memory_size = refl;
  shared_size = refl;
  memory_growth = refl;
  memory_copy = refl;
  from_shared = refl;
  global_read = refl;
  thrown_again = refl;
  chosen = refl;
  constant_given = refl;
}

traps_worked : TrapsWorked
unfolding opened types_from
traps_worked = record {
  of_null = refl;
  of_an_object = refl;
  null_written = refl;
  object_written = refl;
  within = refl;
  past = refl;
  written_within = refl;
  written_past = refl;
  filled_within = refl;
  filled_past = refl;
  length_of_null = refl;
  length_of_array = refl;
  null_unboxed = refl;
  scalar_unboxed = refl;
  null_cast = refl;
  cast = refl;
  not_null = refl;
  null = refl;
  own_call = refl;
  host_call = refl;
  own_reference = refl;
  null_reference = refl;
  null_exact = refl;
  null_tail_exact = refl;
  function_inexact = refl;
  throw_exact = refl;
  null_thrown = refl;
  exception_thrown = refl;
  in_the_table = refl;
  past_the_table = refl;
  grown = refl;
  init_within = refl;
  init_past = refl;
  copy_within = refl;
  copy_past = refl;
  elements_within = refl;
  elements_past = refl;
  copied_within = refl;
  copied_past = refl;
  copied_to_null = refl;
  from_segment = refl;
  from_segment_past = refl;
  bytes_within = refl;
  bytes_past = refl;
  filled_bytes = refl;
  filled_bytes_past = refl;
  sum = refl;
  quotient = refl;
  quotient_by_zero = refl;
  rounded = refl;
  float_sum = refl;
  size = refl;
  chosen = refl;
  no_sum_traps = λ g. true≢false g.1;
  no_float_traps = λ g. true≢false (sym (g.3 refl));
  no_size_traps = λ g. true≢false g.1;
  size_within = λ n u g. shared_size_within n u g.0 g.1 g.2.0;
}

pub outcomes_worked : OutcomesWorked
outcomes_worked = record { choices = choices_worked; constants = constants_worked; elements = elements_worked; fields = fields_worked; references = references_worked; tests = tests_worked; clauses = clauses_worked; tables = tables_worked; openness = open_worked; traps = traps_worked }
