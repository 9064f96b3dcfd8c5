-- For operators of each kind, answers that fit, by which they go on; and answers to operators by their rows that do not fit.
use Rattle.std.specs.Prelude.{ℕ, ℤ, true, false, List, [], ◌∷◌, Some, None}
use Rattle.wasm_types.specs.trees.Types.{i64, number}
use Rattle.wasm_operators_enums.specs.declared.control.ControlOperator.TheVariants as control
use Rattle.wasm_operators_enums.specs.declared.bulk.BulkOperator.TheVariants as bulk
use Rattle.wasm_operators_enums.specs.Op as op
use Rattle.wasm_operators_encoding.specs.expressions.Code.{plain, nested}
use Rattle.wasm_operator_validator_rules.specs.Context.{Context}
use Rattle.wasm_operator_validator_rules.specs.worked.Codes.{end, constant, sum, drop, get, set}
use Rattle.wasm_operator_validator_soundness.specs.Values.{Value}
use Rattle.wasm_operator_validator_soundness.specs.States.{no_handlers, Answer, Reduction}
use Rattle.wasm_operator_validator_soundness.specs.Machine.{reduce}
use Rattle.wasm_operator_validator_soundness.specs.Soundness.{begun}
use Rattle.wasm_operator_validator_soundness.specs.worked.Values.{one_i32, one_i64, a_function, no_function}
use Rattle.wasm_operator_validator_soundness.specs.worked.Runs.{outside, giving, taking, silent, number_given, number_for, deciding, choosing, trapping, branching, throwing}
use Rattle.wasm_operator_validator_soundness.specs.worked.Runs.{control_of, br, br_if, block_i32, load, tee, in_try, by_table, by_clauses}
use Rattle.wasm_operator_validator_soundness.specs.worked.Runs.{call, call_ref, return_call_ref, as_non_null, br_on_null}
use Rattle.wasm_operator_validator_soundness.specs.worked.Stuck.{here, one, GetsStuck, GoesOn, IsRefused, to_function, select_i64}

-- a call by reference that takes the place of a function which gives what the callee does
abbrev pub widened : Context
widened = record outside { results = number i64 ∷ [] }

abbrev pub replacing : List Value → Answer → Reduction
replacing vs a =
    let k = begun widened (plain return_call_ref end) (Some one_i32 ∷ Some one_i64 ∷ None ∷ []) in
    reduce widened (record k { innermost = record k.innermost { values = vs } }) a

pub record AnsweredWorked (x : ℤ) : Type 0 where
  -- numbers, memories and tables
  pub constant_given : GoesOn (one (constant x) [] number_given)
  pub summed : GoesOn (one sum (one_i32 ∷ one_i32 ∷ one_i64 ∷ []) (number_for 2))
  pub accessed : GoesOn (one load (one_i32 ∷ one_i64 ∷ []) (number_for 1))
  pub table_read : GoesOn (one (op.Bulk (bulk.TableGet 0)) (one_i32 ∷ []) (taking 1 (no_function ∷ [])))
  -- blocks, branches and calls
  pub block : GoesOn (here [] (nested block_i32 end end) silent)
  pub branched : GoesOn (one (br 0) (one_i32 ∷ one_i64 ∷ []) silent)
  pub branched_if : GoesOn (one (br_if 0) (one_i32 ∷ one_i32 ∷ []) (deciding true))
  pub not_branched_if : GoesOn (one (br_if 0) (one_i32 ∷ one_i32 ∷ []) (deciding false))
  pub branched_by_table : GoesOn (one to_function (one_i32 ∷ one_i32 ∷ []) (choosing 7))
  pub returned : GoesOn (one (control_of control.Return) (one_i32 ∷ one_i64 ∷ []) silent)
  pub called : GoesOn (one call (one_i32 ∷ one_i32 ∷ []) (giving (one_i64 ∷ [])))
  pub call_traps : GoesOn (one call (one_i32 ∷ []) trapping)
  -- operands of any type, and locals
  pub dropped : GoesOn (one drop (no_function ∷ []) silent)
  pub selected : GoesOn (one select_i64 (one_i32 ∷ one_i64 ∷ one_i64 ∷ []) (deciding true))
  pub local_read : GoesOn (one (get 1) [] silent)
  pub local_written : GoesOn (one (set 2) (a_function ∷ []) silent)
  pub local_kept : GoesOn (one tee (a_function ∷ []) silent)
  -- references, by their rows
  pub called_by_reference : GoesOn (one call_ref (a_function ∷ one_i32 ∷ one_i32 ∷ []) (taking 2 (one_i64 ∷ [])))
  pub called_null : GoesOn (one call_ref (no_function ∷ one_i32 ∷ []) trapping)
  pub returned_by_reference : GoesOn (replacing (a_function ∷ one_i32 ∷ one_i32 ∷ []) (branching (one_i64 ∷ [])))
  pub not_null : GoesOn (one as_non_null (a_function ∷ []) (taking 1 (a_function ∷ [])))
  pub branched_on_null : GoesOn (one br_on_null (no_function ∷ one_i32 ∷ []) (branching (one_i32 ∷ [])))
  pub not_branched_on_null : GoesOn (one br_on_null (a_function ∷ one_i32 ∷ []) (taking 2 (a_function ∷ one_i32 ∷ [])))
  -- exceptions that are caught within the activation
  pub caught_at_label : GoesOn (reduce outside (in_try by_table) (throwing 1 0 (one_i32 ∷ [])))
  -- stuck by their rows
  pub address_other : GetsStuck (one load (one_i64 ∷ []) (number_for 1))
  pub call_ref_other : GetsStuck (one call_ref (a_function ∷ one_i64 ∷ []) (taking 2 (one_i64 ∷ [])))
  pub not_null_of_number : GetsStuck (one as_non_null (one_i32 ∷ []) (taking 1 (a_function ∷ [])))
  pub branch_on_null_below : GetsStuck (one br_on_null (a_function ∷ one_i64 ∷ []) (branching (one_i32 ∷ [])))
  pub unsupported : GetsStuck (one (op.Parametric (op.TypedSelectMulti [])) [] silent)
  -- no answers
  pub sum_other : IsRefused (one sum (one_i32 ∷ one_i32 ∷ []) (taking 2 (one_i64 ∷ [])))
  pub not_taken : IsRefused (one sum (one_i32 ∷ one_i32 ∷ []) (number_for 1))
  pub null_as_not_null : (v : Value) → IsRefused (one as_non_null (no_function ∷ []) (taking 1 (v ∷ [])))
  pub returned_no_more : (n : ℕ) (vs : List Value) → IsRefused (replacing (a_function ∷ one_i32 ∷ []) (taking n vs))
  pub returned_other : IsRefused (replacing (a_function ∷ one_i32 ∷ []) (branching (one_i32 ∷ [])))
  pub branch_without_label : IsRefused (one sum (one_i32 ∷ one_i32 ∷ []) (branching (one_i32 ∷ [])))
  pub caught_other : IsRefused (reduce outside (in_try by_table) (throwing 1 0 (one_i64 ∷ [])))
  pub caught_too_far : IsRefused (reduce outside (in_try by_table) (throwing 0 0 (one_i32 ∷ [])))
  pub not_caught : IsRefused (reduce outside (in_try no_handlers) (throwing 1 0 (one_i32 ∷ [])))
  pub no_such_clause : IsRefused (reduce outside (in_try by_clauses) (throwing 1 2 []))
