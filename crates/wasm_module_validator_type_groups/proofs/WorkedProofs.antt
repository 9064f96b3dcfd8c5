-- The worked groups.
use Rattle.std.proofs.Common.{◌≡◌, ◌↔◌, ℕ, Bool, true, false, cond, IsTrue, [], ◌∷◌, ◌++◌, length, refl, ap, arith, rules}
use Rattle.wasm_module_validator_type_storage.specs.trees.Groups.{group_ranges}
use Rattle.wasm_types.specs.settings.Features.{has}
use Rattle.wasm_types.specs.trees.Unfold.{type_count}
use Rattle.wasm_module_validator_type_storage.specs.trees.Formed.{IsMissing}
use Rattle.wasm_module_validator_type_storage.specs.trees.Worked.{id_of, pair, lower, both}
use Rattle.wasm_module_validator_type_list.specs.List.{IsAdded}
use Rattle.wasm_module_validator_type_groups.specs.adding.Interned.{ids_from, AddsGroup}
use Rattle.wasm_module_validator_type_groups.specs.adding.Worked.{AddingWorked}

missing_first : IsMissing [] pair
missing_first k e = absurd cc

missing_second : IsMissing (pair ∷ []) lower
missing_second k e = search rules

first_added : AddsGroup [] (pair ∷ []) [] (id_of 0 ∷ id_of 1 ∷ []) pair
unfolding group_ranges type_count
first_added = record {
  is_new = true;
  number = 0;
  first = 0;
  interned = record { at = refl; groups = refl; new_exactly = (λ t s. missing_first, λ t. refl); next = λ t. refl };
  ids = refl;
  added = refl;
}

again_added : AddsGroup both both (id_of 0 ∷ []) (id_of 0 ∷ id_of 0 ∷ id_of 1 ∷ []) pair
unfolding group_ranges type_count
again_added = record {
  is_new = false;
  number = 0;
  first = 0;
  interned = record { at = refl; groups = refl; new_exactly = (λ t. absurd cc, λ a. absurd (a refl 0 refl)); next = λ t. absurd cc };
  ids = refl;
  added = refl;
}

second_added : AddsGroup (pair ∷ []) both (id_of 1 ∷ []) (id_of 1 ∷ id_of 2 ∷ []) lower
unfolding group_ranges type_count
second_added = record {
  is_new = true;
  number = 1;
  first = 2;
  interned = record { at = refl; groups = refl; new_exactly = (λ t s. missing_second, λ t. refl); next = λ t. refl };
  ids = refl;
  added = refl;
}

not_added : (b : Bool) → pair ∷ both ≡ cond b (pair ∷ both) both → (IsTrue b ↔ IsAdded both pair) → ⊥
not_added true e i = i.0 refl refl 0 refl
not_added false e i = let l : 3 ≡ 2 = ap length e in omega (arith, l)

few_ids : (first : ℕ) → id_of 0 ∷ [] ≡ [] ++ ids_from first 2 → ⊥
few_ids first e = let l : 1 ≡ 2 = ap length e in omega (arith, l)

pub adding_is_worked : AddingWorked
unfolding has
adding_is_worked = record {
  ids = refl;
  no_ids = refl;
  kept = refl;
  as_it_is = refl;
  first = first_added;
  second = second_added;
  again = again_added;
  known_kept_out = λ w. not_added w.is_new w.interned.groups w.interned.new_exactly;
  too_few_ids = λ w. few_ids w.first w.added;
}
