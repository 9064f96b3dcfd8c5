-- The worked rows of operators on descriptors.
use Rattle.std.proofs.Common.{◌≡◌, List, [], ◌∷◌, ◌++◌, true, false, refl, sym, subst, rules}
use Rattle.wasm_types.specs.settings.Features.{has}
use Rattle.wasm_types.specs.trees.Types.{any, HeapOf, ref, abstract, concrete, exact}
use Rattle.wasm_types.specs.trees.Trees.{opened}
use Rattle.wasm_types.specs.trees.AbstractOrder.{same, struct_any}
use Rattle.wasm_types.specs.trees.Below.{Below, itself}
use Rattle.wasm_operator_validator_rules.specs.Operands.{ValueType}
use Rattle.wasm_operator_validator_rules.specs.worked.References.{to}
use Rattle.wasm_operator_validator_rules.specs.worked.Objects.{described, describing}
use Rattle.wasm_operator_validator_rules.specs.worked.Descriptors.{full, describing_full, described_shared, describing_shared, DescriptorsWorked}

only : {A : Type 0} (xs : List A) (x y : A) → y ∷ [] ≡ xs ++ x ∷ [] → y ≡ x
only [] x y e = cc
only (z ∷ []) x y e = absurd cc
only (z ∷ w ∷ xs) x y e = absurd cc

pub descriptors_worked : DescriptorsWorked
unfolding has opened
descriptors_worked = record {
  new = (_, describing_full, record { struct = refl; descriptor = refl }, (refl, refl));
  new_plainly = (_, describing, record { struct = refl; descriptor = refl }, (refl, refl));
  new_inexactly = search rules;
  new_without = search rules;
  new_not_shared = search rules;
  new_default = (_, describing, record { struct = refl; descriptor = refl }, refl, (refl, refl));
  new_no_default = search rules;
  new_default_without = search rules;
  get = (described, describing, false, refl, refl, (refl, refl));
  get_exact = (described, describing, true, refl, refl, (refl, refl));
  get_more = search rules;
  get_none = search rules;
  get_shared = (described_shared, describing_shared, false, refl, refl, (refl, refl));
  get_not_shared = search rules;
  cast = (concrete described, concrete describing, record { named = refl; castable = refl; descriptor = refl }, (refl, refl));
  cast_null = (exact described, exact describing, record { named = refl; castable = refl; descriptor = refl }, (refl, refl));
  cast_inexactly = search rules;
  cast_without = search rules;
  cast_abstract = search rules;
  cast_continuation = search rules;
  cast_not_shared = search rules;
  on_cast = (
    abstract false any,
    concrete described,
    concrete describing,
    record { from_named = refl; to_named = refl; from_castable = refl; to_castable = refl; below = (tt, (described, itself, refl, struct_any)) },
    refl,
    ([], (to described, refl, (tt, itself)), (refl, refl)),
  );
  on_cast_without = search rules;
  on_cast_unknown = search rules;
  on_cast_carries_null = λ popped pushed (h, k, d, i, e, (ts, (u, l, b), t)).
      (let f : to described ≡ u = (let j : to described ∷ [] ≡ ts ++ u ∷ [] = cc in only ts u (to described) j) in
      let c : Below (ref true k) (to described) = subst (λ (v : ValueType). Below (ref true k) v) (sym f) b in c.0);
  on_fail = (
    abstract false any,
    concrete described,
    concrete describing,
    record { from_named = refl; to_named = refl; from_castable = refl; to_castable = refl; below = (tt, (described, itself, refl, struct_any)) },
    refl,
    ([], (ref true (abstract false any), refl, (tt, (refl, same))), (refl, refl)),
  );
  on_fail_carries_second = λ popped pushed (h, k, d, i, e, (ts, (u, l, b), t)).
      (let f : to described ≡ u = (let j : to described ∷ [] ≡ ts ++ u ∷ [] = cc in only ts u (to described) j) in
      let c : Below (ref true h) (to described) = subst (λ (v : ValueType). Below (ref true h) v) (sym f) b in c.0);
}
