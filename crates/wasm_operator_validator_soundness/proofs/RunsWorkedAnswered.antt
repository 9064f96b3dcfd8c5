-- The worked answers.
use Rattle.std.specs.Prelude.{ℤ}
use Rattle.std.proofs.Common.{◌≡◌, List, [], ◌∷◌, Bool, true, false, IsTrue, refl, sym, subst, true≢false}
use Rattle.wasm_types.specs.trees.Types.{Number, i32, i64, Abstract, any, none, noexn, extern, noextern, abstract, ref, InnerOf, function, array_of, struct_of, continuation}
use Rattle.wasm_types.specs.trees.Trees.{TypeTree, opened}
use Rattle.wasm_types.specs.trees.Below.{Below, expanded, abstract_above}
use Rattle.wasm_types.specs.trees.AbstractOrder.{AbstractBelow, same, noextern_extern}
use Rattle.wasm_operator_validator_rules.specs.Operands.{known}
use Rattle.wasm_operator_validator_soundness.specs.runs.Values.{Program, Value, number_value, ref_null, ref_function, ref_object, ref_i31, ref_host, ref_extern, ref_exn, least_type, HasValue, AllFit}
use Rattle.wasm_operator_validator_soundness.specs.runs.States.{trapped, Move, done, choose}
use Rattle.wasm_operator_validator_soundness.specs.runs.worked.Caught.{tag_type}
use Rattle.wasm_operator_validator_soundness.specs.runs.worked.Runs.{one, silent, giving, small}
use Rattle.wasm_operator_validator_soundness.specs.runs.worked.Answered.{empty, with_empty, AnsweredWorked}
use Rattle.wasm_operator_validator_soundness.proofs.Progress.{no_trap}
use Rattle.wasm_operator_validator_soundness.proofs.WorkedCaught.{standard_at}

-- no type of a value that is not null is at the end of a hierarchy
abbrev IsInside : Abstract → Type 0
IsInside none = ⊥
IsInside noexn = ⊥
IsInside h = Unit {0}

above_none : (h : Abstract) → AbstractBelow h none → IsInside h → ⊥
above_none h same i = i

above_noexn : (h : Abstract) → AbstractBelow h noexn → IsInside h → ⊥
above_noexn h same i = i

inner_inside : (x : InnerOf TypeTree) → IsInside (abstract_above x)
inner_inside (function ps rs) = tt
inner_inside (array_of f) = tt
inner_inside (struct_of fs) = tt
inner_inside (continuation f) = tt

nothing_below : (v : Value) (h : Abstract) → ((k : Abstract) → AbstractBelow k h → IsInside k → ⊥) → Below (least_type v) (ref false (abstract false h)) → ⊥
nothing_below (number_value n b) h e l = l
nothing_below (ref_null c k) h e l = l.0
nothing_below (ref_function i t) h e l = e (abstract_above (expanded l.1.0)) l.1.3 (inner_inside (expanded l.1.0))
nothing_below (ref_object k t) h e l = e (abstract_above (expanded l.1.0)) l.1.3 (inner_inside (expanded l.1.0))
nothing_below (ref_i31 b) h e l = e _ l.1.1 tt
nothing_below (ref_host k) h e l = e _ l.1.1 tt
nothing_below (ref_extern k) h e l = e _ l.1.1 tt
nothing_below (ref_exn k t) h e l = e _ l.1.1 tt

-- an external reference is not shared, and nothing else is one
abbrev IsInternal : Abstract → Type 0
IsInternal extern = ⊥
IsInternal noextern = ⊥
IsInternal h = Unit {0}

above_extern : (h : Abstract) → AbstractBelow h extern → IsInternal h → ⊥
above_extern h same i = i
above_extern h noextern_extern i = i

inner_internal : (x : InnerOf TypeTree) → IsInternal (abstract_above x)
inner_internal (function ps rs) = tt
inner_internal (array_of f) = tt
inner_internal (struct_of fs) = tt
inner_internal (continuation f) = tt

never_shared : (v : Value) → Below (least_type v) (ref false (abstract true extern)) → ⊥
never_shared (number_value n b) l = l
never_shared (ref_null c k) l = l.0
never_shared (ref_function i t) l = above_extern (abstract_above (expanded l.1.0)) l.1.3 (inner_internal (expanded l.1.0))
never_shared (ref_object k t) l = above_extern (abstract_above (expanded l.1.0)) l.1.3 (inner_internal (expanded l.1.0))
never_shared (ref_i31 b) l = true≢false (sym l.1.0)
never_shared (ref_host k) l = true≢false (sym l.1.0)
never_shared (ref_extern k) l = true≢false (sym l.1.0)
never_shared (ref_exn k t) l = true≢false (sym l.1.0)

no_empty : HasValue empty → ⊥
no_empty h = nothing_below h.0 none above_none h.2

not_empty : (p : Program) (vs : List Value) → AllFit p vs (known empty ∷ []) → ⊥
not_empty p [] f = f
not_empty p (v ∷ vs) f = nothing_below v none above_none f.0.1

-- what may not trap needs another answer
no_other : (b : Bool) (m : Move) → (choose b (done trapped) m).is_answer → ((choose b (done trapped) m).outcome ≡ trapped → IsTrue false) → (m.is_answer → ⊥) → ⊥
no_other true m i e k = true≢false (sym (e refl))
no_other false m i e k = k i

abbrev IsLong : Number → Type 0
IsLong i64 = Unit {0}
IsLong n = ⊥

apart : i64 ≡ i32 → ⊥
apart e = subst IsLong e tt

pub answered_worked : (x : ℤ) → AnsweredWorked x
unfolding opened
answered_worked x = record {
  of_number = (number_value i64 0, tt, refl);
  of_null = (ref_null false any, tt, (tt, (refl, same)));
  of_host = (ref_host 0, tt, (tt, (refl, same)));
  of_exception = (ref_exn 0 tag_type, tt, (tt, (refl, same)));
  of_none = no_empty;
  of_no_exception = λ h. nothing_below h.0 noexn above_noexn h.2;
  of_shared = λ h. never_shared h.0 h.2;
  thrown = (standard_at 2 tag_type refl, tt, ((number_value i32 0, tt, refl), tt));
  never_thrown = λ m. no_empty m.2.0;
  divides = refl;
  adds = refl;
  divides_floats = refl;
  truncates = refl;
  saturates = refl;
  loads = refl;
  grows = refl;
  fills = refl;
  drops = refl;
  reads_global = refl;
  reads_table = refl;
  reads_field = refl;
  makes = refl;
  casts = refl;
  tests = refl;
  loads_vector = refl;
  extracts = refl;
  adds_lanes = refl;
  fences = refl;
  throws = refl;
  throws_null = refl;
  added = (giving one, (((tt, refl), tt), tt), λ e. absurd (no_trap _ tt e));
  added_long = λ i. apart i.0.0.1;
  null_thrown = (silent, tt, λ e. refl);
  thrown_again = (record (giving one) { leaves = 1 }, (((tt, refl), tt), tt), λ e. refl);
  nothing_thrown = λ h. not_empty (small x) h.0.values h.1.0;
  global_read = (giving one, (((tt, refl), tt), tt), λ e. absurd (no_trap _ tt e));
  empty_global = λ h. no_other h.0.traps _ h.1 h.2 (λ i. not_empty (with_empty x) h.0.values i.0);
}
