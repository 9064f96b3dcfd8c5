-- The worked rows of exceptions, and of clauses of `try_table`.
use Rattle.std.proofs.Common.{◌≡◌, ◌∙◌, List, [], ◌∷◌, ◌++◌, true, false, refl, sym, ap, subst, rules}
use Rattle.wasm_types.specs.settings.Features.{has}
use Rattle.wasm_types.specs.trees.Types.{i32, i64, func, exn, number, InnerOf, function}
use Rattle.wasm_types.specs.trees.Trees.{TypeTree, opened}
use Rattle.wasm_types.specs.trees.AbstractOrder.{same}
use Rattle.wasm_types.specs.trees.Below.{expanded}
use Rattle.wasm_operator_validator_rules.specs.Operands.{ValueType, Operand, AllBelow, known, all_known}
use Rattle.wasm_operator_validator_rules.specs.Exceptions.{exception}
use Rattle.wasm_operator_validator_rules.specs.worked.Contexts.{any_function}
use Rattle.wasm_operator_validator_rules.specs.worked.Operators.{i32_known, i64_known}
use Rattle.wasm_operator_validator_rules.specs.worked.Exceptions.{from_to, ExceptionsWorked, CatchesWorked}

only : {A : Type 0} (xs : List A) (x y : A) → y ∷ [] ≡ xs ++ x ∷ [] → y ≡ x
only [] x y e = cc
only (z ∷ []) x y e = absurd cc
only (z ∷ w ∷ xs) x y e = absurd cc

-- what may be null is not below what may not
wider : (ts us : List ValueType) → exception true ∷ [] ≡ ts → exception false ∷ [] ≡ us → AllBelow (all_known ts) (all_known us) → ⊥
wider ts us e f b =
    let c = subst (λ (v : List ValueType). AllBelow (all_known v) (all_known us)) (sym e) b in
    let d = subst (λ (v : List ValueType). AllBelow (all_known (exception true ∷ [])) (all_known v)) (sym f) c in d.0.0

pub exceptions_worked : ExceptionsWorked
unfolding has opened
exceptions_worked = record {
  throw = (number i32 ∷ [], i64_known ∷ [], (from_to (number i32 ∷ []) [], refl, refl), refl);
  throw_nothing = ([], [], (from_to [] [], refl, refl), refl);
  throw_other = λ (ts, any, (t, e, p), f). (let h : i64_known ≡ i32_known = only any i32_known i64_known cc in let i : i64 ≡ i32 = cc in cc);
  throw_gives = search rules;
  throw_unknown = search rules;
  throw_enabled = (search rules, ([], [], (from_to [] [], refl, refl), refl));
  throw_without = search rules;
  throw_ref = search rules;
  throw_ref_of_function = λ (any, e). (let f : known any_function ≡ known (exception true) = only any (known (exception true)) (known any_function) e in let g : func ≡ exn = cc in cc);
  throw_ref_without = search rules;
  rethrow = search rules;
  rethrow_block = search rules;
  rethrow_unknown = search rules;
  rethrow_without = search rules;
}

pub catches_worked : CatchesWorked
unfolding has opened
catches_worked = record {
  one = (number i32 ∷ [], (from_to (number i32 ∷ []) [], refl, refl), (number i32 ∷ [], refl, (refl, tt)));
  one_outwards = (number i32 ∷ [], (from_to (number i32 ∷ []) [], refl, refl), (number i32 ∷ [], refl, (refl, tt)));
  one_other = search rules;
  one_more = search rules;
  one_wider = λ (ts, (t, e, p), (us, f, b)).
      (let h : from_to (exception true ∷ []) [] ≡ t = cc in
      let q : ◌≡◌ {A = InnerOf TypeTree} (function (exception true ∷ []) []) (function ts []) = ap expanded h ∙ p in
      wider ts us (cc) (cc) b);
  one_gives = search rules;
  one_unknown = search rules;
  one_ref = (number i32 ∷ [], (from_to (number i32 ∷ []) [], refl, refl), (number i32 ∷ exception false ∷ [], refl, (refl, ((tt, (refl, same)), tt))));
  one_ref_narrower = (number i32 ∷ [], (from_to (number i32 ∷ []) [], refl, refl), (number i32 ∷ exception true ∷ [], refl, (refl, ((tt, (refl, same)), tt))));
  one_ref_turned = search rules;
  one_ref_alone = search rules;
  all_of_them = search rules;
  all_carries = search rules;
  all_unknown = search rules;
  all_ref = (exception false ∷ [], refl, ((tt, (refl, same)), tt));
  all_ref_narrower = (exception true ∷ [], refl, ((tt, (refl, same)), tt));
  all_ref_other = search rules;
  all_ref_alone = search rules;
}
