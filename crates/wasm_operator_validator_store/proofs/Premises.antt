-- The small program of the worked rows: its types are standard, its values fit, and all fits in its store.
use Rattle.std.proofs.Common.{◌≡◌, ◌≤◌, ℕ, true, false, List, [], ◌∷◌, None, refl, sym, ap, subst, ◌∙◌, arith, rules}
use Rattle.wasm_types.specs.settings.Features.{has}
use Rattle.wasm_types.specs.settings.Limits.{default_limits}
use Rattle.wasm_types.specs.settings.Settings.{Settings}
use Rattle.wasm_types.specs.trees.Types.{i32, i31, any, func, number, value, ref, abstract, concrete, function, struct, struct_of, InnerOf}
use Rattle.wasm_types.specs.trees.Trees.{TypeTree, opened}
use Rattle.wasm_types.specs.trees.AbstractOrder.{AbstractBelow, same, struct_any, i31_any, none_any, nofunc_func}
use Rattle.wasm_types.specs.trees.Below.{supertype, DeclaredBelow, itself, declared, expanded, abstract_above}
use Rattle.wasm_types.specs.trees.ValidGroup.{Written, AreValidGroups, IsValidGroup, done, next, types_from}
use Rattle.wasm_operator_validator_rules.specs.Operands.{ValueType, stack}
use Rattle.wasm_operator_validator_rules.specs.Context.{Signature, IsFunctionType}
use Rattle.wasm_operator_validator_soundness.specs.runs.Values.{IsStandard, IsStandardType, ref_null, ref_exn, Fits, IsMade, AllFit}
use Rattle.wasm_operator_validator_soundness.specs.runs.ValidStates.{IsTagType}
use Rattle.wasm_operator_validator_soundness.specs.runs.worked.Caught.{alone}
use Rattle.wasm_operator_validator_soundness.specs.runs.worked.Runs.{gives_i32, takes_i32, pair, triple}
use Rattle.wasm_operator_validator_store.specs.Stores.{field_at, most_pages}
use Rattle.wasm_operator_validator_store.specs.ValidStores.{StoreFits}
use Rattle.wasm_operator_validator_store.specs.worked.Linked.{bits}
use Rattle.wasm_operator_validator_store.specs.worked.Program.{num, first_pair, own, object, counter, constant, callees, small_memory, wide_memory, shared_memory, empty_memory, holds, store, program}
use Rattle.wasm_operator_validator_store.proofs.Lists.{none_some}

-- ---- types

abbrev settings : Settings
settings = record { features = bits; limits = default_limits }

only_standard : IsStandard bits
unfolding has
only_standard = record { descriptors = refl; sharing = refl; switching = refl }

abbrev written : InnerOf ℕ → Written
written i = alone (record { is_final = false; supertypes = []; shared = false; descriptor = None; describes = None; inner = i })

gives_valid : IsValidGroup settings [] (written (function [] (number i32 ∷ [])))
unfolding default_limits has opened types_from
gives_valid = search rules

takes_valid : IsValidGroup settings [] (written (function (number i32 ∷ []) []))
unfolding default_limits has opened types_from
takes_valid = search rules

pair_valid : IsValidGroup settings [] (written (struct_of (record { storage = value (number i32); mutable = true } ∷ [])))
unfolding default_limits has opened types_from
pair_valid = search rules

standard_by : (g : Written) (t : TypeTree) → AreValidGroups settings [] (g ∷ []) (t ∷ []) → IsStandardType t
standard_by g t v = record { settings = settings; standard = only_standard; groups = g ∷ []; types = t ∷ []; valid = v; has_it = (0, search rules, refl) }

gives_standard : IsStandardType gives_i32
unfolding types_from
gives_standard = standard_by (written (function [] (number i32 ∷ []))) gives_i32 (next gives_valid done)

takes_standard : IsStandardType takes_i32
unfolding types_from
takes_standard = standard_by (written (function (number i32 ∷ []) [])) takes_i32 (next takes_valid done)

pair_standard : IsStandardType pair
unfolding types_from
pair_standard = standard_by (written (struct_of (record { storage = value (number i32); mutable = true } ∷ []))) pair (next pair_valid done)

-- ---- values

own_made : IsMade program own
unfolding opened types_from
own_made = (gives_standard, tt, (_, refl, refl))

pub own_fits : Fits program own (ref false (concrete gives_i32))
own_fits = (own_made, (tt, itself))

own_callable : Fits program own callees.element
unfolding opened types_from
own_callable = (own_made, (tt, (gives_i32, itself, refl, same)))

null_callable : Fits program (ref_null false func) callees.element
null_callable = (tt, (tt, (refl, nofunc_func)))

pair_made : IsMade program first_pair
unfolding opened types_from
pair_made = (pair_standard, tt)

pub pair_fits : Fits program first_pair (ref false (concrete pair))
pair_fits = (pair_made, (tt, itself))

pair_is_any : Fits program first_pair (ref true (abstract false any))
unfolding opened types_from
pair_is_any = (pair_made, (tt, (pair, itself, refl, struct_any)))

-- a type without a supertype is below itself alone
only_itself : (t u : TypeTree) → DeclaredBelow t u → supertype t ≡ None → t ≡ u
only_itself t u itself e = refl
only_itself t u (declared d k) e = absurd (none_some _ (sym e ∙ d))

pub triple_unfit : Fits program first_pair (ref false (concrete triple)) → ⊥
unfolding opened types_from
triple_unfit f = none_some _ (ap (λ (t : TypeTree). field_at (expanded t) 1) (only_itself pair triple f.1.1 refl))

no_scalar : AbstractBelow struct i31 → ⊥
no_scalar l = elim l [ ]

pub scalar_unfit : Fits program first_pair (ref false (abstract false i31)) → ⊥
unfolding opened types_from
scalar_unfit f = no_scalar (subst (λ (t : TypeTree). AbstractBelow (abstract_above (expanded t)) i31) (sym (only_itself pair f.1.1.0 f.1.1.1 refl)) f.1.1.3)

pub exception_made : IsMade program (ref_exn 0 takes_i32)
unfolding opened types_from
exception_made = (takes_standard, tt, ((num 0, tt, refl), tt))

-- ---- the store

takes_tag : IsTagType takes_i32
unfolding opened types_from
takes_tag = (takes_standard, tt)

parameters : InnerOf TypeTree → List ValueType
parameters (function ps rs) = ps
parameters i = []

six_fits : (b : Signature) → IsFunctionType takes_i32 b → AllFit program (num 6 ∷ []) (stack b.params)
unfolding opened types_from parameters
six_fits b e = subst (λ (ts : List ValueType). AllFit program (num 6 ∷ []) (stack ts)) (ap parameters e) ((tt, refl), tt)

small_pages : 8 ≤ most_pages small_memory
small_pages = omega arith

wide_pages : 4 ≤ most_pages wide_memory
wide_pages = omega arith

shared_pages : 4 ≤ most_pages shared_memory
shared_pages = omega arith

no_pages : 0 ≤ most_pages empty_memory
no_pages = omega arith

pub store_fits : StoreFits program store
unfolding opened types_from
store_fits = record {
  globals = (((tt, refl), tt), (((tt, refl), tt), tt));
  tables = (
    ((null_callable, tt), ((null_callable, tt), tt)),
    (((own_callable, tt), ((null_callable, tt), ((null_callable, tt), tt))), tt),
  );
  memories = ((8, refl, small_pages), ((4, refl, wide_pages), ((4, refl, shared_pages), ((0, refl, no_pages), tt))));
  segments = (
    ((own_callable, tt), ((own_callable, tt), tt)),
    (((pair_is_any, (object pair (num 7 ∷ []), refl, refl)), (((tt, (tt, (refl, i31_any))), tt), tt)), tt),
  );
  objects = (
    (((tt, refl), tt), tt),
    (
      (((tt, refl), tt), tt),
      (
        (((tt, (tt, (refl, none_any))), tt), (((tt, (tt, (refl, none_any))), tt), (((tt, (tt, (refl, none_any))), tt), tt))),
        ((((tt, refl), tt), (((tt, refl), tt), tt)), tt),
      ),
    ),
  );
  exceptions = ((takes_i32, refl, six_fits, (tt, tt)), tt);
  tags = (takes_tag, (takes_tag, tt));
  externs = tt;
  global_addresses = ((holds counter (num 1), refl, (refl, refl, refl, (λ m. refl))), ((holds constant (num 2), refl, (refl, refl, refl, (λ m. refl))), tt));
  table_addresses = ((_, refl, (refl, refl, (tt, (refl, same)), (tt, (refl, same)))), ((_, refl, (refl, refl, (tt, (refl, same)), (tt, (refl, same)))), tt));
  memory_addresses = (
    (_, refl, (refl, refl, refl, omega arith), omega arith),
    ((_, refl, (refl, refl, refl, tt), omega arith), ((_, refl, (refl, refl, refl, omega arith), omega arith), ((_, refl, (refl, refl, refl, omega arith), omega arith), tt))),
  );
  tag_addresses = (refl, (refl, tt));
}
