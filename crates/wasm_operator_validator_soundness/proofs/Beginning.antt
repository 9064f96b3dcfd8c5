-- What a call begins with.
use Rattle.std.proofs.Common.{◌≡◌, ◌<◌, ℕ, zero, suc, Bool, true, false, IsTrue, List, [], ◌∷◌, ◌++◌, length, map, Some, slice_get, refl, sym, ap, subst, ◌∙◌, arith, inl, inr}
use Rattle.std.specs.Prelude.{All, ◌⊎◌, if◌then◌else◌, nat_lt}
use Rattle.std.proofs.lemmas.Bool.{ltb-true}
use Rattle.std.proofs.lemmas.List.Elements.{All-head, All-tail}
use Rattle.wasm_types.specs.trees.Types.{Abstract, func, extern, any, none, noextern, nofunc, eq, struct, array, i31, exn, noexn, cont, nocont, HeapOf, abstract, concrete, exact, number, ref}
use Rattle.wasm_types.specs.trees.Types.{InnerOf, function, array_of, struct_of, continuation}
use Rattle.wasm_types.specs.trees.Trees.{TypeTree}
use Rattle.wasm_types.specs.trees.Each.{EachHeap, EachValue}
use Rattle.wasm_types.specs.trees.AbstractOrder.{AbstractBelow, same, eq_any, i31_any, struct_any, array_any, none_any, i31_eq, struct_eq}
use Rattle.wasm_types.specs.trees.AbstractOrder.{array_eq, none_eq, none_i31, none_struct, none_array, nofunc_func, noextern_extern, noexn_exn, nocont_cont}
use Rattle.wasm_types.specs.trees.Below.{expanded, is_shared, abstract_above, bottom_of, itself, IsAboveAbstract}
use Rattle.wasm_types.specs.trees.Chains.{IsSound}
use Rattle.wasm_operator_validator_rules.specs.Operands.{ValueType, all_known}
use Rattle.wasm_operator_validator_rules.specs.Context.{is_defaulted, initialised_at_first}
use Rattle.wasm_operator_validator_soundness.specs.Values.{Value, number_value, ref_null, ref_defined, ref_i31, ref_host, ref_extern, ref_exn, bottom_under, least_type, Fits, AllFit}
use Rattle.wasm_operator_validator_soundness.specs.Machine.{IsNull}
use Rattle.wasm_operator_validator_soundness.specs.Soundness.{LocalFits, LocalsFit}
use Rattle.wasm_operator_validator_soundness.specs.Beginning.{null_value, default_value, called_with, CallsMayBegin, NullsAreGiven, NullsAreOne}

-- ---- the bottom of each hierarchy

under_below : (a : Abstract) → AbstractBelow (bottom_under a) a
under_below func = nofunc_func
under_below nofunc = same
under_below extern = noextern_extern
under_below noextern = same
under_below exn = noexn_exn
under_below noexn = same
under_below cont = nocont_cont
under_below nocont = same
under_below any = none_any
under_below none = same
under_below eq = none_eq
under_below struct = none_struct
under_below array = none_array
under_below i31 = none_i31

one_bottom : (a b : Abstract) → AbstractBelow a b → bottom_under a ≡ bottom_under b
one_bottom a b same = refl
one_bottom a b eq_any = refl
one_bottom a b i31_any = refl
one_bottom a b struct_any = refl
one_bottom a b array_any = refl
one_bottom a b none_any = refl
one_bottom a b i31_eq = refl
one_bottom a b struct_eq = refl
one_bottom a b array_eq = refl
one_bottom a b none_eq = refl
one_bottom a b none_i31 = refl
one_bottom a b none_struct = refl
one_bottom a b none_array = refl
one_bottom a b nofunc_func = refl
one_bottom a b noextern_extern = refl
one_bottom a b noexn_exn = refl
one_bottom a b nocont_cont = refl

under_itself : (a : Abstract) → bottom_under (bottom_under a) ≡ bottom_under a
under_itself a = one_bottom (bottom_under a) a (under_below a)

under_constructor : (x : InnerOf TypeTree) → bottom_under (abstract_above x) ≡ bottom_of x
under_constructor (function ps rs) = refl
under_constructor (array_of f) = refl
under_constructor (struct_of fs) = refl
under_constructor (continuation t) = refl

under_bottom : (x : InnerOf TypeTree) → bottom_under (bottom_of x) ≡ bottom_of x
under_bottom x = ap bottom_under (sym (under_constructor x)) ∙ under_itself (abstract_above x) ∙ under_constructor x

-- ---- nulls

null_above : (t : TypeTree) → IsSound t → IsAboveAbstract t (is_shared t) (bottom_under (bottom_of (expanded t)))
null_above t s u d =
    ((s u d).shared, under_bottom (expanded t) ∙ sym (under_constructor (expanded t)) ∙ ap bottom_under (s u d).constructor ∙ under_constructor (expanded u))

null_fits : (h : HeapOf TypeTree) → EachHeap IsSound h → Fits (null_value h) (ref true h)
null_fits (abstract s a) i = (tt, (refl, under_below a))
null_fits (concrete t) i = (tt, null_above t i)
null_fits (exact t) i = (tt, null_above t i)

is_null : (h : HeapOf TypeTree) → IsNull (null_value h)
is_null (abstract s a) = tt
is_null (concrete t) = tt
is_null (exact t) = tt

pub nulls_given : NullsAreGiven
nulls_given h i = (is_null h, null_fits h i)

abbrev null_type : Bool → Abstract → ValueType
null_type s a = ref true (abstract s a)

same_null : (s r : Bool) (a b : Abstract) → s ≡ r → a ≡ b → null_type s a ≡ null_type r b
same_null s r a b e f = cc

one_null : (s : Bool) (a : Abstract) (h : HeapOf TypeTree) → Fits (ref_null s a) (ref true h) → least_type (ref_null s a) ≡ least_type (null_value h)
one_null s a (abstract r b) f = same_null s r _ _ f.1.0 (sym (under_itself a) ∙ one_bottom (bottom_under a) b f.1.1)
one_null s a (concrete t) f = let g = f.1 t itself in same_null s (is_shared t) _ _ g.0 (g.1 ∙ sym (under_bottom (expanded t)))
one_null s a (exact t) f = let g = f.1 t itself in same_null s (is_shared t) _ _ g.0 (g.1 ∙ sym (under_bottom (expanded t)))

pub nulls_one : NullsAreOne
nulls_one h (ref_null s a) i = one_null s a h i.1
nulls_one h (number_value n) i = absurd i.0
nulls_one h (ref_defined t) i = absurd i.0
nulls_one h (ref_i31 s) i = absurd i.0
nulls_one h (ref_host s) i = absurd i.0
nulls_one h (ref_extern s) i = absurd i.0
nulls_one h (ref_exn s t) i = absurd i.0

-- ---- locals

default_fits : (t : ValueType) → EachValue IsSound t → LocalFits (default_value t) t
default_fits (number n) i = refl
default_fits (ref true h) i = null_fits h i
default_fits (ref false h) i = tt

defaults_fit : (ts : List ValueType) → All (EachValue IsSound) ts → LocalsFit (map default_value ts) ts
defaults_fit [] i = tt
defaults_fit (t ∷ ts) i = (default_fits t (All-head (EachValue IsSound) t ts i), defaults_fit ts (All-tail (EachValue IsSound) t ts i))

called_fit : (ps ts : List ValueType) (vs : List Value) → AllFit vs (all_known ps) → All (EachValue IsSound) ts → LocalsFit (called_with vs ts) (ps ++ ts)
called_fit [] ts [] f i = defaults_fit ts i
called_fit [] ts (v ∷ vs) f i = absurd f
called_fit (p ∷ ps) ts [] f i = absurd f
called_fit (p ∷ ps) ts (v ∷ vs) f i = (f.0, called_fit ps ts vs f.1 i)

default_there : (t : ValueType) → IsTrue (is_defaulted (Some t)) → (v : Value) × (default_value t ≡ Some v)
default_there (number n) i = (number_value n, refl)
default_there (ref true h) i = (null_value h, refl)
default_there (ref false h) i = absurd cc

defaults_there : (ts : List ValueType) (x : ℕ) → IsTrue (is_defaulted (slice_get ts x)) → (v : Value) × (slice_get (map default_value ts) x ≡ Some (Some v))
defaults_there [] x i = absurd cc
defaults_there (t ∷ ts) zero i = let r = default_there t i in (r.0, ap Some r.1)
defaults_there (t ∷ ts) (suc x) i = defaults_there ts x i

called_there : (ps ts : List ValueType) (vs : List Value) (x : ℕ) → AllFit vs (all_known ps) → (x < length ps) ⊎ IsTrue (is_defaulted (slice_get (ps ++ ts) x))
    → (v : Value) × (slice_get (called_with vs ts) x ≡ Some (Some v))
called_there [] ts [] x f (inl l) = absurd (omega arith)
called_there [] ts [] x f (inr i) = defaults_there ts x i
called_there [] ts (v ∷ vs) x f i = absurd f
called_there (p ∷ ps) ts [] x f i = absurd f
called_there (p ∷ ps) ts (v ∷ vs) zero f i = (v, refl)
called_there (p ∷ ps) ts (v ∷ vs) (suc x) f (inl l) = called_there ps ts vs x f.1 (inl (omega arith))
called_there (p ∷ ps) ts (v ∷ vs) (suc x) f (inr i) = called_there ps ts vs x f.1 (inr i)

either_first : (b c : Bool) → IsTrue (if b then true else c) → (b ≡ true) ⊎ IsTrue c
either_first true c i = inl refl
either_first false c i = inr i

left_by : {P Q R : Type 0} → (P → Q) → P ⊎ R → Q ⊎ R
left_by f (inl p) = inl (f p)
left_by f (inr r) = inr r

pub calls_begin : CallsMayBegin
calls_begin g ps ts vs e f i = record {
  fit = subst (λ (l : List ValueType). LocalsFit (called_with vs ts) l) (sym e) (called_fit ps ts vs f i);
  have_values = λ x j.
      let k = subst (λ (l : List ValueType). IsTrue (initialised_at_first (length ps) l x)) e j in
      called_there ps ts vs x f (left_by (ltb-true x (length ps)) (either_first (nat_lt x (length ps)) _ k));
}
