-- The rows of `Types`.
use Rattle.std.proofs.Common.{◌≡◌, inr, ℕ, Bool, true, false, List, [], ◌∷◌, length, Option, Some, None, if◌then◌else◌, nat_eq, refl, ap, subst, rules, arith, lit<}
use Rattle.wasm_types.specs.settings.Features.{has}
use Rattle.wasm_types.specs.trees.Unfold.{type_count}
use Rattle.wasm_module_validator_type_storage.specs.trees.Groups.{Group, group_ranges, declared_by_id}
use Rattle.wasm_module_validator_type_storage.specs.trees.ByIds.{IdBelow, itself, declared}
use Rattle.wasm_module_validator_type_storage.specs.trees.Worked.{id_of, pair, lower, both}
use Rattle.wasm_module_validator_canonical_types.specs.matches.MatchesById.{EntryMatchesById}
use Rattle.wasm_module_validator_type_groups.specs.composites.Composites.{IsCompositeValid}
use Rattle.wasm_module_validator_canonical_types.specs.type_list.List.{InternsAlone}
use Rattle.wasm_module_validator_canonical_types.specs.type_list.Lookups.{HasIds}
use Rattle.wasm_module_validator_tests.specs.Types.{lower_type, TypesInterned, above, below, TypesMatched, all_features, TypesValid}

untrue : false ≡ true → ⊥
untrue e = absurd cc

turned : true ≡ false → ⊥
turned e = absurd cc

-- ---- interning

ends_of : ℕ → Option (ℕ × ℕ) → ℕ
ends_of d None = d
ends_of d (Some r) = r.1

firsts_of : ℕ → Option (ℕ × ℕ) → ℕ
firsts_of d None = d
firsts_of d (Some r) = r.0

first_is : (first end d : ℕ) → HasIds both 1 first end → 2 ≡ first
unfolding group_ranges type_count firsts_of
first_is first end d h = ap (firsts_of d) h

-- the new list is longer, so the group is new
is_new : (b : Bool) → both ≡ (if b then lower ∷ pair ∷ [] else pair ∷ []) → b ≡ true
is_new true e = refl
is_new false e = let n = ap (λ (x : List Group). length x) e in absurd (omega (arith, n))

-- none of the list's is the group
no_such : (b : Bool) → (if b then Some pair else None) ≡ Some lower → ⊥
no_such true e = let f : pair ≡ lower = cc in let n = ap (λ (g : Group). length g.types) f in omega (arith, n)
no_such false e = absurd cc

not_longer : (b : Bool) → pair ∷ [] ≡ (if b then lower ∷ pair ∷ [] else pair ∷ []) → b ≡ false
not_longer true e = let n = ap (λ (x : List Group). length x) e in absurd (omega (arith, n))
not_longer false e = refl

second : (k : ℕ) (i : InternsAlone (pair ∷ []) both lower_type (id_of k)) → 2 ≡ k
second k i =
    let n : i.number ≡ 1 = i.interned.next (is_new i.is_new i.interned.groups) in
    let h : HasIds both 1 i.place.first i.place.end = subst (λ (m : ℕ). HasIds both m i.place.first i.place.end) n i.place.ids in
    let f = first_is i.place.first i.place.end 0 h in
    let a = i.place.at in
    omega (arith, f, a)

pub types_interned : TypesInterned
unfolding group_ranges type_count firsts_of ends_of
types_interned = record {
  first_ids = refl;
  not_one_less = λ h. let e = ap (ends_of 0) h in omega (arith, e);
  not_of_the_first = λ h. let e = ap (ends_of 0) h in omega (arith, e);
  no_group = λ h. absurd cc;
  added = record {
    is_new = true;
    number = 1;
    interned = record { at = refl; groups = refl; new_exactly = (λ t. search rules, λ a. refl); next = λ t. refl };
    place = record { first = 2; end = 3; ids = refl; at = refl };
  };
  found = record {
    is_new = false;
    number = 1;
    interned = record { at = refl; groups = refl; new_exactly = (λ t. search rules, λ a. absurd (a refl 1 refl)); next = λ t. search rules };
    place = record { first = 2; end = 3; ids = refl; at = refl };
  };
  another_id = λ i. let e = second 1 i in omega (arith, e);
  not_added = λ i. no_such (nat_eq i.number 0) i.interned.at;
}

-- ---- matching

lower_below : IdBelow both (id_of 2) (id_of 1)
unfolding type_count declared_by_id
lower_below = declared refl itself

not_below : IdBelow both (id_of 1) (id_of 2) → ⊥
unfolding type_count declared_by_id
not_below (declared e r) = absurd cc

not_first : IdBelow both (id_of 1) (id_of 0) → ⊥
unfolding type_count declared_by_id
not_first (declared e r) = absurd cc

entry_matches : EntryMatchesById both below above
unfolding type_count declared_by_id
entry_matches = (refl, ((refl, (tt, itself), λ h. (tt, itself)), tt))

pub types_matched : TypesMatched
unfolding type_count declared_by_id
types_matched = record {
  packed = tt;
  packed16 = tt;
  other_packed = λ h. h;
  other_packed16 = λ h. h;
  unpacked = λ h. h;
  packed_value = λ h. h;
  lower = (tt, lower_below);
  upside_down = λ h. not_below h.1;
  entry = entry_matches;
  final_entry = entry_matches;
  shared_entry = λ h. turned h.0;
  other_constructor = λ h. h.1;
  declared = entry_matches;
  other_fields = λ h. not_first h.1.0.1.1;
}

-- ---- validity

struct_valid : IsCompositeValid both all_features below
unfolding has type_count declared_by_id
struct_valid = search rules

pub types_valid : TypesValid
unfolding has type_count declared_by_id
types_valid = record {
  struct = struct_valid;
  struct_without_features = λ h. untrue h.1.0;
  shared_of_unshared = λ h. untrue (h.1.2.0.1 refl);
  one_result = search rules;
  two_results = search rules;
  two_results_without_features = λ h. untrue (h.1.2 (lit< tt));
  valid = record {
    subtyping = inr refl;
    composite = struct_valid;
    above = (refl, entry_matches);
    depth = tt;
    descriptors = search rules;
    along = (tt, tt);
    described = tt;
    describes = tt;
  };
  too_deep = λ t. t.depth;
  without_features = λ t. untrue t.composite.1.0;
  of_final = λ t. turned t.above.0;
}
