-- The worked rows of references to functions and of null.
use Rattle.std.proofs.Common.{◌≡◌, ℕ, Bool, List, [], ◌∷◌, ◌++◌, Some, slice_get, true, false, refl, sym, subst, rules}
use Rattle.wasm_types.specs.settings.Features.{has}
use Rattle.wasm_types.specs.trees.Types.{i32, i64, func, InnerOf, function, number, ref, abstract, concrete}
use Rattle.wasm_types.specs.trees.Trees.{TypeTree, opened}
use Rattle.wasm_types.specs.trees.AbstractOrder.{same}
use Rattle.wasm_types.specs.trees.Below.{expanded}
use Rattle.wasm_operator_validator_rules.specs.Operands.{ValueType, Operand, some_reference, known, all_known}
use Rattle.wasm_operator_validator_rules.specs.Context.{Signature, IsFunctionType}
use Rattle.wasm_operator_validator_rules.specs.Named.{used_type}
use Rattle.wasm_operator_validator_rules.specs.InstructionTypes.{reference_to}
use Rattle.wasm_operator_validator_rules.specs.Row.{IsCallee, IsIndirect}
use Rattle.wasm_operator_validator_rules.specs.worked.Contexts.{widening, any_function, some_module, table_of}
use Rattle.wasm_operator_validator_rules.specs.worked.References.{cell, null_to, giving_i64, CallsWorked, TailCallsWorked, NullsWorked}

-- ---- the last of a list

only : {A : Type 0} (xs : List A) (x y : A) → y ∷ [] ≡ xs ++ x ∷ [] → y ≡ x
only [] x y e = cc
only (z ∷ []) x y e = absurd cc
only (z ∷ w ∷ xs) x y e = absurd cc

none : {A : Type 0} (xs : List A) (x : A) → [] ≡ xs ++ x ∷ [] → ⊥
none [] x e = absurd cc
none (z ∷ xs) x e = absurd cc

not_two : {A : Type 0} (xs : List A) (x y z : A) → z ∷ [] ≡ xs ++ x ∷ y ∷ [] → ⊥
not_two [] x y z e = absurd cc
not_two (v ∷ []) x y z e = absurd cc
not_two (v ∷ w ∷ xs) x y z e = absurd cc

alone : {A : Type 0} (xs : List A) (x y : A) → y ∷ [] ≡ xs ++ x ∷ [] → xs ≡ []
alone [] x y e = refl
alone (z ∷ []) x y e = absurd cc
alone (z ∷ w ∷ xs) x y e = absurd cc

-- ---- a tail call without its argument

lacks_argument : (t : TypeTree) (b : Signature) (any : List Operand) → used_type giving_i64 0 ≡ Some t → IsFunctionType t b
    → known (null_to widening) ∷ [] ≡ any ++ all_known (b.params ++ reference_to t ∷ []) → ⊥
unfolding opened
lacks_argument t b any u p f =
    let h : widening ≡ t = cc in
    let q : ◌≡◌ {A = InnerOf TypeTree} (function (number i32 ∷ []) (number i64 ∷ [])) (function b.params b.results) =
    subst (λ (x : TypeTree). expanded x ≡ function b.params b.results) (sym h) p in
    let r : b.params ≡ number i32 ∷ [] = cc in
    let g : known (null_to widening) ∷ [] ≡ any ++ all_known (number i32 ∷ reference_to t ∷ []) =
    subst (λ (ps : List ValueType). known (null_to widening) ∷ [] ≡ any ++ all_known (ps ++ reference_to t ∷ [])) r f in
    not_two any (known (number i32)) (known (reference_to t)) (known (null_to widening)) g

-- ---- the rows

pub calls_worked : CallsWorked
unfolding has opened
calls_worked = record {
  call_ref = refl;
  call_ref_struct = refl;
  call_ref_unknown = refl;
  call_ref_not_shared = refl;
  call_ref_shared = refl;
  call_ref_row = (search rules, (_, refl, (refl, refl)));
  return_call_ref = (widening, record { params = number i32 ∷ []; results = number i64 ∷ [] }, some_reference ∷ [], refl, refl, (refl, tt), refl);
  return_call_ref_operand = λ (t, b, any, u, p, k, f). lacks_argument t b any u p f;
  return_call_ref_other = search rules;
  return_call_ref_struct = search rules;
  return_call_ref_not_shared = search rules;
}

-- what is called, and through which table
abbrev called : Signature
called = record { params = number i32 ∷ []; results = number i64 ∷ [] }

through : (wide : Bool) → (x : ℕ) → slice_get some_module.tables x ≡ Some (table_of any_function wide) → IsIndirect giving_i64 0 x (table_of any_function wide) called
unfolding opened
through wide x found = record {
  table = found;
  table_used = λ s. absurd cc;
  functions = (false, (tt, (refl, same)));
  callee = widening;
  type = refl;
  type_used = λ s. absurd cc;
  function = refl;
}

-- another operand on top than the argument
not_i32 : (b : Signature) (any : List Operand) → IsCallee giving_i64 0 b → known (number i64) ∷ [] ≡ any ++ all_known b.params → ⊥
unfolding opened
not_i32 b any (t, found, used, f) p =
    let h : widening ≡ t = cc in
    let q : ◌≡◌ {A = InnerOf TypeTree} (function (number i32 ∷ []) (number i64 ∷ [])) (function b.params b.results) =
    subst (λ (x : TypeTree). expanded x ≡ function b.params b.results) (sym h) f in
    let r : b.params ≡ number i32 ∷ [] = cc in
    let g : known (number i64) ∷ [] ≡ any ++ all_known (number i32 ∷ []) =
    subst (λ (ps : List ValueType). known (number i64) ∷ [] ≡ any ++ all_known ps) r p in
    let e : known (number i64) ≡ known (number i32) = only any (known (number i32)) (known (number i64)) g in
    cc

pub tail_calls_worked : TailCallsWorked
unfolding has opened
tail_calls_worked = record {
  call = (called, some_reference ∷ [], (widening, refl, (λ s. absurd cc), refl), (refl, tt), refl);
  call_other = search rules;
  call_unknown = search rules;
  call_not_shared = search rules;
  call_operand = λ (b, any, c, r, p). not_i32 b any c p;
  indirect = (table_of any_function false, called, some_reference ∷ [], through false 0 refl, (refl, tt), refl);
  indirect_64 = (table_of any_function true, called, [], through true 2 refl, (refl, tt), refl);
  indirect_other = search rules;
  indirect_no_functions = search rules;
  indirect_struct = search rules;
}

pub nulls_worked : NullsWorked
unfolding has opened
nulls_worked = record {
  as_non_null = search rules;
  as_non_null_of_some = search rules;
  as_non_null_of_number = search rules;
  as_non_null_of_bottom = search rules;
  as_non_null_stays_null = search rules;
  on_null = (number i64 ∷ [], known any_function, refl, tt, refl, refl);
  on_null_of_some = ([], some_reference, refl, tt, refl, refl);
  on_null_carries = search rules;
  on_null_stays_null = search rules;
  on_null_unknown = search rules;
  on_non_null = (number i64 ∷ [], false, abstract false func, refl, (refl, refl));
  on_non_null_to_null = ([], true, concrete cell, refl, (refl, refl));
  on_non_null_gives = λ (ts, n, h, l, (p, q)).
      (let e : ref false (abstract false func) ∷ [] ≡ ts ++ ref n h ∷ [] = cc in
      let f : ts ≡ [] = alone ts (ref n h) (ref false (abstract false func)) e in
      let g : known any_function ∷ [] ≡ [] = rw f at q in cc);
  on_non_null_of_number = λ popped pushed (ts, n, h, l, t).
      (let e : number i64 ∷ [] ≡ ts ++ ref n h ∷ [] = cc in let f : number i64 ≡ ref n h = only ts (ref n h) (number i64) e in cc);
  on_non_null_of_nothing = λ popped pushed (ts, n, h, l, t). (let e : [] ≡ ts ++ ref n h ∷ [] = cc in none ts (ref n h) e);
  on_non_null_unknown = search rules;
}
