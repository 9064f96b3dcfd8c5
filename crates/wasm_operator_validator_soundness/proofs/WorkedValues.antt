-- The worked values.
use Rattle.std.proofs.Common.{◌≡◌, ◌≤◌, ℕ, zero, suc, [], ◌∷◌, Some, None, IsTrue, slice_get, rules, arith, refl}
use Rattle.wasm_types.specs.trees.Types.{i32, i64}
use Rattle.wasm_types.specs.trees.Trees.{opened}
use Rattle.wasm_types.specs.trees.AbstractOrder.{same, nofunc_func, none_struct, i31_eq}
use Rattle.wasm_types.specs.trees.Below.{itself}
use Rattle.wasm_operator_validator_rules.specs.Context.{initialised_at_first}
use Rattle.wasm_operator_validator_rules.specs.worked.Contexts.{somewhere, widening}
use Rattle.wasm_operator_validator_soundness.specs.Values.{Value}
use Rattle.wasm_operator_validator_soundness.specs.worked.Values.{one_i32, one_i64, a_function, ValuesWorked}
use Rattle.wasm_operator_validator_soundness.proofs.Invariant.{none_is_some, some_same}

i32_is_no_i64 : i32 ≡ i64 → ⊥
i32_is_no_i64 e = absurd cc

no_more : (params x : ℕ) → IsTrue (initialised_at_first params somewhere.locals (suc (suc (suc x)))) → params ≤ 3 → ⊥
no_more params x i l = search rules

-- the values of the first locals
first_values : (x : ℕ) → IsTrue (initialised_at_first 0 somewhere.locals x) → (v : Value) × (slice_get (Some one_i32 ∷ Some one_i64 ∷ None ∷ []) x ≡ Some (Some v))
first_values zero i = (one_i32, refl)
first_values (suc zero) i = (one_i64, refl)
first_values (suc (suc zero)) i = absurd cc
first_values (suc (suc (suc x))) i = absurd (no_more 0 x i (omega arith))

all_values : (x : ℕ) → IsTrue (initialised_at_first 3 somewhere.locals x) → (v : Value) × (slice_get (Some one_i32 ∷ Some one_i64 ∷ Some a_function ∷ []) x ≡ Some (Some v))
all_values zero i = (one_i32, refl)
all_values (suc zero) i = (one_i64, refl)
all_values (suc (suc zero)) i = (a_function, refl)
all_values (suc (suc (suc x))) i = absurd (no_more 3 x i (omega arith))

pub values_worked : ValuesWorked
unfolding opened
values_worked = record {
  same_number = search rules;
  other_number = search rules;
  number_as_reference = search rules;
  function = (tt, itself);
  function_exactly = search rules;
  function_of_any_type = (tt, (widening, itself, refl, same));
  function_of_other_type = search rules;
  function_as_external = search rules;
  null = (tt, (refl, nofunc_func));
  null_of_type = search rules;
  null_of_bottom = (tt, (refl, same));
  null_as_function = search rules;
  null_shared = search rules;
  null_of_others = search rules;
  null_of_external = (tt, (refl, same));
  null_of_exception = (tt, (refl, same));
  null_of_continuation = (tt, (refl, same));
  null_of_object = (tt, (refl, none_struct));
  scalar = (tt, (refl, i31_eq));
  scalar_as_object = search rules;
  host = (tt, (refl, same));
  host_compared = search rules;
  external = (tt, (refl, same));
  external_in_any = search rules;
  exception = (tt, (refl, same));
  exception_as_null = search rules;
  all = (refl, ((tt, (widening, itself, refl, same)), tt));
  too_few = search rules;
  too_many = search rules;
  second_other = search rules;
  none_for_bottom = search rules;
  none_for_some_reference = search rules;
  local_missing = λ l. let r = l.have_values 1 refl in none_is_some r.0 (some_same None (Some r.0) r.1);
  argument_missing = λ l. let r = l.have_values 2 refl in none_is_some r.0 (some_same None (Some r.0) r.1);
  local_other = λ l. i32_is_no_i64 l.fit.1.0;
  locals_too_few = λ l. l.fit.1.1;
  locals = record { fit = (refl, (refl, (tt, tt))); have_values = first_values };
  local_given = record { fit = (refl, (refl, ((tt, (widening, itself, refl, same)), tt))); have_values = all_values };
}
