-- The worked answers.
use Rattle.std.specs.Prelude.{ℤ}
use Rattle.std.proofs.Common.{◌≡◌, List, [], ◌∷◌, ◌++◌, true, Some, length, reverse, rules, refl, sym, ap, subst, inl, ⊎_elim}
use Rattle.wasm_types.specs.settings.Features.{has}
use Rattle.wasm_types.specs.trees.Types.{Abstract, i32, i64, InnerOf, function, array_of, struct_of, continuation, number, ref, func, nofunc, concrete}
use Rattle.wasm_types.specs.trees.Trees.{TypeTree, opened}
use Rattle.wasm_types.specs.trees.AbstractOrder.{AbstractBelow, same, nofunc_func}
use Rattle.wasm_types.specs.trees.Below.{itself, abstract_above}
use Rattle.wasm_operators_enums.specs.declared.bulk.BulkOperator.TheVariants as bulk
use Rattle.wasm_operators_enums.specs.Op as op
use Rattle.wasm_operator_validator_rules.specs.Operands.{ValueType, Operand, bottom, some_reference, known, IsReference, all_known}
use Rattle.wasm_operator_validator_rules.specs.Context.{Context, Signature}
use Rattle.wasm_operator_validator_rules.specs.InstructionTypes.{◌⟶◌, reference_to}
use Rattle.wasm_operator_validator_rules.specs.Row.{not_null}
use Rattle.wasm_operator_validator_rules.specs.worked.Contexts.{widening, any_function}
use Rattle.wasm_operator_validator_rules.specs.worked.Codes.{end, constant, sum}
use Rattle.wasm_operator_validator_soundness.specs.Values.{Value, number_value, ref_null, ref_defined, ref_i31, ref_host, ref_extern, ref_exn, Fits, FitsOperand, AllFit}
use Rattle.wasm_operator_validator_soundness.specs.States.{front}
use Rattle.wasm_operator_validator_soundness.specs.Machine.{context_at}
use Rattle.wasm_operator_validator_soundness.specs.worked.Values.{one_i32, one_i64, a_function, no_function, null_ref, some_ref}
use Rattle.wasm_operator_validator_soundness.specs.worked.Runs.{outside, standing, taking, number_given, number_for, load, call_ref}
use Rattle.wasm_operator_validator_soundness.specs.worked.Answered.{AnsweredWorked}
use Rattle.wasm_operator_validator_soundness.proofs.Invariant.{some_same}
use Rattle.wasm_operator_validator_soundness.proofs.Rows.{table_fits, table_takes}

abbrev i32_known : Operand
i32_known = known (number i32)

abbrev i64_known : Operand
i64_known = known (number i64)

abbrev widens : Signature
widens = record { params = number i32 ∷ []; results = number i64 ∷ [] }

-- a function, and the null of functions, of the types that the worked module names
function_of_type : Fits a_function (ref true (concrete widening))
unfolding opened
function_of_type = (tt, itself)

function_of_any : Fits a_function any_function
unfolding opened
function_of_any = (tt, (widening, itself, refl, same))

some_function : Fits a_function (some_ref func)
unfolding opened
some_function = (tt, (widening, itself, refl, same))

null_of_any : Fits no_function any_function
null_of_any = (tt, (refl, nofunc_func))

null_of_type : Fits no_function (ref true (concrete widening))
unfolding opened
null_of_type = search rules

i32_is_no_i64 : i32 ≡ i64 → ⊥
i32_is_no_i64 e = absurd cc

i64_is_no_i32 : i64 ≡ i32 → ⊥
i64_is_no_i32 e = absurd cc

-- ---- what is no null

-- a function is of a reference type that is not null
not_null_fits : (t : Operand) → IsReference t → FitsOperand a_function t → FitsOperand a_function (not_null t)
not_null_fits bottom i f = absurd f
not_null_fits some_reference i f = absurd f
not_null_fits (known (number n)) i f = absurd i
not_null_fits (known (ref n h)) i f = (tt, f.1)

-- nothing is of the bottom of functions but its null
abbrev IsBottom : Abstract → Type 0
IsBottom nofunc = Unit {0}
IsBottom h = ⊥

below_bottom : (h k : Abstract) → AbstractBelow h k → IsBottom k → IsBottom h
below_bottom h k same i = i
below_bottom h k nofunc_func i = absurd i
below_bottom h k b i = absurd i

no_bottom : (x : InnerOf TypeTree) → IsBottom (abstract_above x) → ⊥
no_bottom (function ps rs) i = i
no_bottom (array_of f) i = i
no_bottom (struct_of fs) i = i
no_bottom (continuation t) i = i

nothing_fits : (v : Value) → Fits v (some_ref nofunc) → ⊥
nothing_fits (number_value n) f = f
nothing_fits (ref_null s a) f = f.0
nothing_fits (ref_defined t) f = no_bottom _ (below_bottom _ nofunc f.1.3 tt)
nothing_fits (ref_i31 s) f = below_bottom _ nofunc f.1.1 tt
nothing_fits (ref_host s) f = below_bottom _ nofunc f.1.1 tt
nothing_fits (ref_extern s) f = below_bottom _ nofunc f.1.1 tt
nothing_fits (ref_exn s t) f = below_bottom _ nofunc f.1.1 tt

-- nothing is of the bottom type
no_values : (vs : List Value) → AllFit vs (bottom ∷ []) → ⊥
no_values [] f = f
no_values (v ∷ vs) f = f.0

-- ---- rows of operators on nulls

abbrev NotNullRow : List Operand → List Operand → Type 0
NotNullRow popped pushed = (t : Operand) × IsReference t × (popped ≡ t ∷ []) × (pushed ≡ not_null t ∷ [])

abbrev Stand : List Value → List Operand → Type 0
Stand vs popped = AllFit (front (reverse popped) vs) (reverse popped)

not_null_kept : (popped pushed : List Operand) → NotNullRow popped pushed → Stand (a_function ∷ []) popped → (length popped ≡ 1) × AllFit (a_function ∷ []) (reverse pushed)
not_null_kept popped pushed r f = (
  ap (λ (l : List Operand). length l) r.2,
  subst (λ (l : List Operand). AllFit (a_function ∷ []) (reverse l)) (sym r.3) (not_null_fits r.0 r.1 (subst (λ (l : List Operand). Stand (a_function ∷ []) l) r.2 f).0, tt),
)

number_is_none : (t : Operand) → IsReference t → FitsOperand one_i32 t → ⊥
number_is_none bottom i f = f
number_is_none some_reference i f = f
number_is_none (known (number n)) i f = i
number_is_none (known (ref n h)) i f = f

number_refused : (popped pushed : List Operand) → NotNullRow popped pushed → Stand (one_i32 ∷ []) popped → ⊥
number_refused popped pushed r f = number_is_none r.0 r.1 (subst (λ (l : List Operand). Stand (one_i32 ∷ []) l) r.2 f).0

abbrev BranchRow : List Operand → List Operand → Type 0
BranchRow popped pushed = (ts : List ValueType) × (t : Operand) × (Some (number i32 ∷ []) ≡ Some ts) × IsReference t
    × (popped ≡ all_known ts ++ t ∷ []) × (pushed ≡ all_known ts ++ not_null t ∷ [])

above_number : (ts : List ValueType) (t : Operand) (l : List Operand) → Some (number i32 ∷ []) ≡ Some ts → l ≡ all_known ts ++ t ∷ [] → l ≡ i32_known ∷ t ∷ []
above_number ts t l e p = subst (λ (us : List ValueType). l ≡ all_known us ++ t ∷ []) (sym (some_same (number i32 ∷ []) ts e)) p

branch_kept : (popped pushed : List Operand) → BranchRow popped pushed → Stand (a_function ∷ one_i32 ∷ []) popped
    → (length popped ≡ 2) × AllFit (a_function ∷ one_i32 ∷ []) (reverse pushed)
branch_kept popped pushed r f =
    let p = above_number r.0 r.1 popped r.2 r.4 in
    let q = above_number r.0 (not_null r.1) pushed r.2 r.5 in (
      ap (λ (l : List Operand). length l) p,
      subst (λ (l : List Operand). AllFit (a_function ∷ one_i32 ∷ []) (reverse l)) (sym q)
          (not_null_fits r.1 r.3 (subst (λ (l : List Operand). Stand (a_function ∷ one_i32 ∷ []) l) p f).0, (refl, tt)),
    )

below_refused : (popped pushed : List Operand) → BranchRow popped pushed → Stand (a_function ∷ one_i64 ∷ []) popped → ⊥
below_refused popped pushed r f = i64_is_no_i32 (subst (λ (l : List Operand). Stand (a_function ∷ one_i64 ∷ []) l) (above_number r.0 r.1 popped r.2 r.4) f).1.0

-- ---- the worked answers

-- within the worked function
abbrev inner : Context
inner = context_at outside (standing [] end)

pub answered_worked : (x : ℤ) → AnsweredWorked x
unfolding has opened
answered_worked x = record {
  constant_given = (
    λ popped pushed r. table_fits inner (constant x) ([] ⟶ number i32 ∷ []) refl number_given refl (refl, tt) popped pushed r.0.1,
    ⊎_elim (λ n. n (([], i32_known ∷ [], ((search rules, (_, refl, (refl, refl))), tt)), tt)) (λ e. absurd cc),
  );
  summed = (
    λ popped pushed r. table_fits inner sum (number i32 ∷ number i32 ∷ [] ⟶ number i32 ∷ []) refl (number_for 2) refl (refl, tt) popped pushed r.0.1,
    ⊎_elim (λ n. n ((i32_known ∷ i32_known ∷ [], i32_known ∷ [], ((search rules, (_, refl, (refl, refl))), (refl, (refl, tt)))), tt)) (λ e. absurd cc),
  );
  accessed = (
    λ popped pushed r. table_fits inner load (number i32 ∷ [] ⟶ number i32 ∷ []) refl (number_for 1) refl (refl, tt) popped pushed r.0.1,
    ⊎_elim (λ n. n ((i32_known ∷ [], i32_known ∷ [], ((search rules, (_, refl, (refl, refl))), (refl, tt))), tt)) (λ e. absurd cc),
  );
  table_read = (
    λ popped pushed r. table_fits inner (op.Bulk (bulk.TableGet 0)) (number i32 ∷ [] ⟶ any_function ∷ []) refl (taking 1 (no_function ∷ [])) refl (null_of_any, tt) popped pushed r.0.1,
    ⊎_elim (λ n. n ((i32_known ∷ [], known any_function ∷ [], ((search rules, (_, refl, (refl, refl))), (refl, tt))), tt)) (λ e. absurd cc),
  );
  block = search rules;
  branched = (
    tt,
    ⊎_elim (λ n. n ((i32_known ∷ [], [], ((search rules, (number i32 ∷ [], [], refl, refl)), (refl, tt))), (refl, tt))) (λ e. absurd cc),
  );
  branched_if = (
    tt,
    ⊎_elim (λ n. n ((i32_known ∷ i32_known ∷ [], i32_known ∷ [], ((search rules, (number i32 ∷ [], refl, (refl, refl))), (refl, (refl, tt)))), (refl, (refl, tt)))) (λ e. absurd cc),
  );
  not_branched_if = (
    tt,
    ⊎_elim (λ n. n ((i32_known ∷ i32_known ∷ [], i32_known ∷ [], ((search rules, (number i32 ∷ [], refl, (refl, refl))), (refl, (refl, tt)))), (refl, (refl, tt)))) (λ e. absurd cc),
  );
  branched_by_table = (
    tt,
    ⊎_elim (λ n. n ((i32_known ∷ i32_known ∷ [], [], ((search rules, (i32_known ∷ [], [], ((number i32 ∷ [], refl, (refl, tt)), tt), refl)), (refl, (refl, tt)))), (refl, (refl, tt)))) (λ e. absurd cc),
  );
  returned = (tt, ⊎_elim (λ n. n ((i32_known ∷ [], [], ((search rules, ([], refl)), (refl, tt))), (refl, tt))) (λ e. absurd cc));
  called = (
    (refl, tt),
    ⊎_elim (λ n. n ((i32_known ∷ [], i64_known ∷ [], ((search rules, (widens, (widening, refl, (λ s. absurd cc), refl), (refl, refl))), (refl, tt))), ((refl, tt), tt))) (λ e. absurd cc),
  );
  call_traps = (
    tt,
    ⊎_elim (λ n. n ((i32_known ∷ [], i64_known ∷ [], ((search rules, (widens, (widening, refl, (λ s. absurd cc), refl), (refl, refl))), (refl, tt))), ((refl, tt), tt))) (λ e. absurd cc),
  );
  dropped = (tt, ⊎_elim (λ n. n ((known any_function ∷ [], [], ((search rules, (known any_function, refl, refl)), (null_of_any, tt))), tt)) (λ e. absurd cc));
  selected = (
    tt,
    ⊎_elim (λ n. n (
      (
        i64_known ∷ i64_known ∷ i32_known ∷ [],
        i64_known ∷ [],
        ((search rules, (number i64, record { allowed = tt; known = tt; is = refl }, (λ s. absurd cc), (refl, refl))), (refl, (refl, (refl, tt)))),
      ),
      (refl, (refl, refl)),
    ))
        (λ e. absurd cc),
  );
  local_read = (
    tt,
    ⊎_elim (λ n. n (([], i64_known ∷ [], ((search rules, (number i64, record { local = refl; used = λ s. absurd cc }, refl, (refl, refl))), tt)), tt)) (λ e. absurd cc),
  );
  local_written = (
    tt,
    ⊎_elim (λ n. n ((known (some_ref func) ∷ [], [], ((search rules, (some_ref func, record { local = refl; used = λ s. absurd cc }, (refl, refl))), (some_function, tt))), some_function)) (λ e. absurd cc),
  );
  local_kept = (
    tt,
    ⊎_elim (λ n. n ((known (some_ref func) ∷ [], known (some_ref func) ∷ [], ((search rules, (some_ref func, record { local = refl; used = λ s. absurd cc }, (refl, refl))), (some_function, tt))), some_function)) (λ e. absurd cc),
  );
  called_by_reference = (
    λ popped pushed r. table_fits inner call_ref (number i32 ∷ reference_to widening ∷ [] ⟶ number i64 ∷ []) refl (taking 2 (one_i64 ∷ [])) refl (refl, tt) popped pushed r.0.1,
    ⊎_elim (λ n. n ((i32_known ∷ known (reference_to widening) ∷ [], i64_known ∷ [], ((search rules, (_, refl, (refl, refl))), (function_of_type, (refl, tt)))), tt)) (λ e. absurd cc),
  );
  called_null = (
    tt,
    ⊎_elim (λ n. n ((i32_known ∷ known (reference_to widening) ∷ [], i64_known ∷ [], ((search rules, (_, refl, (refl, refl))), (null_of_type, (refl, tt)))), tt)) (λ e. absurd cc),
  );
  returned_by_reference = (
    (refl, tt),
    ⊎_elim (λ n. n ((i32_known ∷ known (reference_to widening) ∷ [], [], ((search rules, (widening, widens, [], refl, refl, (refl, tt), refl)), (function_of_type, (refl, tt)))), tt)) (λ e. absurd cc),
  );
  not_null = (
    λ popped pushed r. not_null_kept popped pushed r.0.1 r.1,
    ⊎_elim (λ n. n ((known (some_ref func) ∷ [], known (some_ref func) ∷ [], ((search rules, (known (some_ref func), tt, refl, refl)), (some_function, tt))), tt)) (λ e. absurd cc),
  );
  branched_on_null = (
    (refl, tt),
    ⊎_elim (λ n. n ((i32_known ∷ known any_function ∷ [], i32_known ∷ known (some_ref func) ∷ [], ((search rules, (number i32 ∷ [], known any_function, refl, tt, refl, refl)), (null_of_any, (refl, tt)))), tt)) (λ e. absurd cc),
  );
  not_branched_on_null = (
    λ popped pushed r. branch_kept popped pushed r.0.1 r.1,
    ⊎_elim (λ n. n ((i32_known ∷ known (some_ref func) ∷ [], i32_known ∷ known (some_ref func) ∷ [], ((search rules, (number i32 ∷ [], known (some_ref func), refl, tt, refl, refl)), (some_function, (refl, tt)))), tt))
        (λ e. absurd cc),
  );
  caught_at_label = (
    (refl, tt),
    ⊎_elim (λ n. n ((i32_known ∷ [], i64_known ∷ [], ((search rules, (widens, (widening, refl, (λ s. absurd cc), refl), (refl, refl))), (refl, tt))), ((refl, tt), tt))) (λ e. absurd cc),
  );
  address_other = (
    λ popped pushed r. table_fits inner load (number i32 ∷ [] ⟶ number i32 ∷ []) refl (number_for 1) refl (refl, tt) popped pushed r.0.1,
    inl (λ w. i64_is_no_i32 (table_takes inner load (number i32 ∷ [] ⟶ number i32 ∷ []) refl (one_i64 ∷ []) w.0.0 w.0.1 w.0.2.0.1 w.0.2.1).0),
  );
  call_ref_other = (
    λ popped pushed r. table_fits inner call_ref (number i32 ∷ reference_to widening ∷ [] ⟶ number i64 ∷ []) refl (taking 2 (one_i64 ∷ [])) refl (refl, tt) popped pushed r.0.1,
    inl (λ w. i64_is_no_i32
        (table_takes inner call_ref (number i32 ∷ reference_to widening ∷ [] ⟶ number i64 ∷ []) refl (a_function ∷ one_i64 ∷ []) w.0.0 w.0.1 w.0.2.0.1 w.0.2.1).1.0),
  );
  not_null_of_number = (λ popped pushed r. absurd (number_refused popped pushed r.0.1 r.1), inl (λ w. number_refused w.0.0 w.0.1 w.0.2.0.1 w.0.2.1));
  branch_on_null_below = ((refl, tt), inl (λ w. below_refused w.0.0 w.0.1 w.0.2.0.1 w.0.2.1));
  unsupported = (λ popped pushed r. absurd r.0.1, inl (λ w. w.0.2.0.1));
  sum_other = λ r. i64_is_no_i32 (r (i32_known ∷ i32_known ∷ []) (i32_known ∷ []) ((search rules, (_, refl, (refl, refl))), (refl, (refl, tt)))).1.0;
  not_taken = λ r. absurd (let e = (r (i32_known ∷ i32_known ∷ []) (i32_known ∷ []) ((search rules, (_, refl, (refl, refl))), (refl, (refl, tt)))).0 in cc);
  null_as_not_null = λ v r.
      nothing_fits v
      (r (known (null_ref nofunc) ∷ []) (known (some_ref nofunc) ∷ []) ((search rules, (known (null_ref nofunc), tt, refl, refl)), ((tt, (refl, same)), tt))).1.0;
  returned_no_more = λ n vs r. no_values vs
      (r (i32_known ∷ known (reference_to widening) ∷ []) (bottom ∷ [])
      ((search rules, (widening, widens, [], refl, refl, (refl, tt), refl)), (function_of_type, (refl, tt)))).1;
  returned_other = search rules;
  branch_without_label = λ r. r;
  caught_other = search rules;
  caught_too_far = λ r. r;
  not_caught = λ r. r;
  no_such_clause = λ r. r;
}
