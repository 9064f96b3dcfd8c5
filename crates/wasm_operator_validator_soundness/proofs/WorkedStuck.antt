-- The worked configurations.
use Rattle.std.specs.Prelude.{ℤ}
use Rattle.std.proofs.Common.{◌≡◌, List, [], ◌∷◌, length, reverse, false, rules, refl, sym, subst, inl, inr, ⊎_elim}
use Rattle.wasm_types.specs.settings.Features.{has}
use Rattle.wasm_types.specs.trees.Types.{i32, i64, number, extern}
use Rattle.wasm_types.specs.trees.Trees.{opened}
use Rattle.wasm_types.specs.trees.AbstractOrder.{same, nofunc_func}
use Rattle.wasm_types.specs.trees.Below.{Below, itself}
use Rattle.wasm_operators_enums.specs.declared.bulk.BulkOperator.TheVariants as bulk
use Rattle.wasm_operators_encoding.specs.expressions.Code.{plain}
use Rattle.wasm_operator_validator_rules.specs.Operands.{ValueType, Operand, known}
use Rattle.wasm_operator_validator_rules.specs.Context.{Context, Table}
use Rattle.wasm_operator_validator_rules.specs.InstructionTypes.{InstructionType, ◌⟶◌}
use Rattle.wasm_operator_validator_rules.specs.Row.{TableRow, BulkRow}
use Rattle.wasm_operator_validator_rules.specs.worked.Contexts.{widening, any_function, any_external, table_of}
use Rattle.wasm_operator_validator_rules.specs.worked.Codes.{end, constant, sum, drop, get}
use Rattle.wasm_operator_validator_soundness.specs.Values.{Value, ref_extern, Fits, AllFit}
use Rattle.wasm_operator_validator_soundness.specs.States.{front, AreOnTop}
use Rattle.wasm_operator_validator_soundness.specs.Machine.{context_at, TakesValues}
use Rattle.wasm_operator_validator_soundness.specs.worked.Values.{one_i32, one_i64, a_function, no_function, some_ref}
use Rattle.wasm_operator_validator_soundness.specs.worked.Runs.{outside, number_given, number_for, started, standing}
use Rattle.wasm_operator_validator_soundness.specs.worked.Stuck.{init, three, StuckWorked}
use Rattle.wasm_operator_validator_soundness.proofs.Invariant.{some_same}
use Rattle.wasm_operator_validator_soundness.proofs.WorkedBodies.{sum_typed, half_untyped}
use Rattle.wasm_operator_validator_soundness.proofs.Rows.{table_fits, table_takes}

-- what tables of the worked module may hold
function_in_table : Fits a_function any_function
unfolding opened
function_in_table = (tt, (widening, itself, refl, same))

null_in_table : Fits no_function any_function
null_in_table = (tt, (refl, nofunc_func))

external_in_table : Fits (ref_extern false) any_external
external_in_table = (tt, (refl, same))

no_function_in_table : Fits (ref_extern false) any_function → ⊥
no_function_in_table = search rules

abbrev i32_known : Operand
i32_known = known (number i32)

abbrev i64_known : Operand
i64_known = known (number i64)

abbrev inner : Context
inner = context_at outside (standing [] end)

-- ---- operators of the table: what each row takes and gives

abbrev constant_type : InstructionType
constant_type = [] ⟶ number i32 ∷ []

abbrev sum_type : InstructionType
sum_type = number i32 ∷ number i32 ∷ [] ⟶ number i32 ∷ []

constant_fits : (x : ℤ) (popped pushed : List Operand) → TableRow inner (constant x) popped pushed → (length popped ≡ 0) × AllFit (one_i32 ∷ []) (reverse pushed)
constant_fits x popped pushed r = table_fits inner (constant x) constant_type refl number_given refl (refl, tt) popped pushed r

sum_fits : (popped pushed : List Operand) → TableRow inner sum popped pushed → (length popped ≡ 2) × AllFit (one_i32 ∷ []) (reverse pushed)
sum_fits popped pushed r = table_fits inner sum sum_type refl (number_for 2) refl (refl, tt) popped pushed r

sum_takes : (vs : List Value) (popped pushed : List Operand) → TableRow inner sum popped pushed → AllFit (front (reverse popped) vs) (reverse popped)
    → AreOnTop (number i32 ∷ number i32 ∷ []) vs
sum_takes vs popped pushed r f = table_takes inner sum sum_type refl vs popped pushed r f

i64_is_no_i32 : i64 ≡ i32 → ⊥
i64_is_no_i32 e = absurd cc

init_row : (popped pushed : List Operand) × TakesValues outside (standing three (plain init end)) init popped pushed
unfolding has opened
init_row = (
  i32_known ∷ i32_known ∷ i32_known ∷ [],
  [],
  ((search rules, (table_of any_function false, any_function, refl, (λ s. absurd cc), refl, (tt, (refl, same)), (refl, refl))), (refl, (refl, (refl, tt)))),
)

external_below_function : Below any_external any_function → ⊥
external_below_function = search rules

no_row : (popped pushed : List Operand) → BulkRow inner (bulk.TableInit 1 0) popped pushed → ⊥
no_row popped pushed r = external_below_function
    (subst (λ (t : Table). Below any_external t.element) (sym (some_same (table_of any_function false) r.0 r.2))
    (subst (λ (t : ValueType). Below t (r.0).element) (sym (some_same any_external r.1 r.4)) r.5))

pub stuck_worked : (x : ℤ) → StuckWorked x
unfolding has opened
stuck_worked x = record {
  one_operand = (
    standing (one_i32 ∷ []) (plain sum end),
    (standing (one_i32 ∷ []) (plain sum end), (λ popped pushed r. constant_fits x popped pushed r.0.1), refl, refl),
    ((λ popped pushed r. sum_fits popped pushed r.0.1), inl (λ w. (sum_takes (one_i32 ∷ []) w.0.0 w.0.1 w.0.2.0.1 w.0.2.1).1)),
  );
  two_operands = (
    standing (one_i32 ∷ []) end,
    (
      standing (one_i32 ∷ []) (plain (constant x) (plain sum end)),
      (λ popped pushed r. constant_fits x popped pushed r.0.1),
      refl,
      (
        standing (one_i32 ∷ one_i32 ∷ []) (plain sum end),
        (λ popped pushed r. constant_fits x popped pushed r.0.1),
        refl,
        (standing (one_i32 ∷ []) end, (λ popped pushed r. sum_fits popped pushed r.0.1), refl, refl),
      ),
    ),
    (tt, ⊎_elim (λ n. n (refl, tt)) (λ e. absurd cc)),
    refl,
  );
  one_operand_untyped = λ b. half_untyped x b.typed;
  two_operands_typed = sum_typed x;
  unset_local = (started (plain (get 2) (plain drop end)), refl, (tt, inr refl));
  operand = (
    λ popped pushed r. sum_fits popped pushed r.0.1,
    ⊎_elim (λ n. n ((i32_known ∷ i32_known ∷ [], i32_known ∷ [], ((search rules, (_, refl, (refl, refl))), (refl, (refl, tt)))), tt)) (λ e. absurd cc),
  );
  operand_other = (
    λ popped pushed r. sum_fits popped pushed r.0.1,
    inl (λ w. i64_is_no_i32 (sum_takes (one_i32 ∷ one_i64 ∷ []) w.0.0 w.0.1 w.0.2.0.1 w.0.2.1).1.0),
  );
  operand_other_trap = (tt, inl (λ w. i64_is_no_i32 (sum_takes (one_i32 ∷ one_i64 ∷ []) w.0.0 w.0.1 w.0.2.0.1 w.0.2.1).1.0));
  result_missing = search rules;
  result_left_over = search rules;
  result = search rules;
  condition_other = search rules;
  condition = search rules;
  else_result = search rules;
  parameter = search rules;
  parameter_other = search rules;
  parameter_missing = search rules;
  if_parameter_missing = search rules;
  no_parameter = search rules;
  branch_other = search rules;
  branch_unknown = search rules;
  branch_in_loop = (tt, ⊎_elim (λ n. n ((i32_known ∷ [], [], ((search rules, (number i32 ∷ [], [], refl, refl)), (refl, tt))), (refl, tt))) (λ e. absurd cc));
  branch_in_loop_other = search rules;
  branch_if_other = search rules;
  branch_if_below = search rules;
  br_table_other = search rules;
  br_table_below = search rules;
  return_other = search rules;
  call_other = search rules;
  call_index = search rules;
  return_call_other = search rules;
  return_call_index = search rules;
  select_kinds = search rules;
  select_references = search rules;
  select_condition = search rules;
  select_numbers = (
    tt,
    ⊎_elim (λ n. n ((i64_known ∷ i64_known ∷ i32_known ∷ [], i64_known ∷ [], ((search rules, (i64_known, tt, refl, refl)), (refl, (refl, (refl, tt))))), (refl, (i64, refl, refl)))) (λ e. absurd cc),
  );
  select_other = search rules;
  select_first_other = search rules;
  set_other = search rules;
  set_unknown = search rules;
  tee_other = search rules;
  is_null_of_number = search rules;
  is_null_of_reference = (
    tt,
    ⊎_elim (λ n. n ((known (some_ref extern) ∷ [], i32_known ∷ [], ((search rules, (known (some_ref extern), tt, refl, refl)), ((tt, (refl, same)), tt))), tt)) (λ e. absurd cc),
  );
  copied = (
    (function_in_table, (null_in_table, tt)),
    ⊎_elim (λ n. n (init_row, ((refl, (refl, (refl, tt))), (function_in_table, (null_in_table, tt))))) (λ e. absurd cc),
  );
  copied_other = ((external_in_table, tt), inl (λ w. no_function_in_table w.1.1.0));
  copied_nothing = (tt, ⊎_elim (λ n. n (init_row, ((refl, (refl, (refl, tt))), tt))) (λ e. absurd cc));
  copied_trap = (tt, ⊎_elim (λ n. n (init_row, ((refl, (refl, (refl, tt))), tt))) (λ e. absurd cc));
  copied_nothing_other = (tt, inl (λ w. no_row w.0.0 w.0.1 w.0.2.0.1));
  copied_across = ((external_in_table, tt), inl (λ w. no_function_in_table w.1.1.0));
  copy_operand = search rules;
  given_other = λ r. i64_is_no_i32 (r [] (i32_known ∷ []) ((search rules, (_, refl, (refl, refl))), tt)).1.0;
  given_nothing = λ r. (r [] (i32_known ∷ []) ((search rules, (_, refl, (refl, refl))), tt)).1;
  given_trap = (tt, ⊎_elim (λ n. n (([], i32_known ∷ [], ((search rules, (_, refl, (refl, refl))), tt)), tt)) (λ e. absurd cc));
  handed_back_other = search rules;
  null_given = (
    (tt, null_in_table),
    ⊎_elim (λ n. n (([], known any_function ∷ [], ((search rules, (any_function, record { allowed = search rules; known = tt; is = refl }, (λ s. absurd cc), (refl, refl))), tt)), tt)) (λ e. absurd cc),
  );
  no_null_given = search rules;
  other_null_given = search rules;
  two_nulls_given = search rules;
  segment_other = search rules;
  returned_well = search rules;
  returned_other = search rules;
  replaced_well = search rules;
  replaced_arguments = search rules;
  replaced_results = search rules;
  replaced_below = (tt, ((tt, (refl, same)), tt));
  replaced_above = search rules;
  trapped_well = search rules;
  no_end = search rules;
}
