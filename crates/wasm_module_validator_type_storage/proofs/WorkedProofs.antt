-- The worked lists of groups.
use Rattle.std.proofs.Common.{◌≡◌, refl, rules, arith, ap}
use Rattle.wasm_types.specs.trees.Trees.{TypeTree, opened}
use Rattle.wasm_types.specs.trees.declared.index.CoreTypeId.{CoreTypeId}
use Rattle.wasm_types.specs.trees.AbstractOrder.{struct_eq}
use Rattle.wasm_types.specs.trees.Unfold.{type_count, type_tree}
use Rattle.wasm_module_validator_type_storage.specs.trees.Groups.{tree_of, group_numbers, group_ranges, declared_by_id}
use Rattle.wasm_module_validator_type_storage.specs.trees.ByIds.{IdBelow, itself, declared}
use Rattle.wasm_module_validator_type_storage.specs.displays.Chains.{IsUnder, HasDepth, top, below}
use Rattle.wasm_module_validator_type_storage.specs.displays.Chains as chain
use Rattle.wasm_module_validator_type_storage.specs.displays.Worked.{ChainsWorked, three_and_one}
use Rattle.wasm_module_validator_type_storage.specs.displays.Worked as displays
use Rattle.wasm_module_validator_type_storage.proofs.Chains.{one_depth, no_deeper, between, same_depth}
use Rattle.wasm_module_validator_type_storage.specs.trees.Worked.{NumbersWorked, TreesWorked, FormsWorked, BelowWorked, ValuesWorked, both, id_of}

pub numbers_worked : NumbersWorked
unfolding type_count group_numbers group_ranges declared_by_id
numbers_worked = record {
  counted = refl;
  first = refl;
  second = refl;
  no_third = refl;
  groups = refl;
  ranges = refl;
  declared = refl;
  supertypes = refl;
  of_module = refl;
}

pub trees_worked : TreesWorked
unfolding type_count type_tree opened
trees_worked = record {
  one_group = refl;
  places = (refl, refl, refl);
  field = refl;
  above = refl;
  top = refl;
  other_places = λ e. let f : (tree_of both 0).place ≡ (tree_of both 1).place = ap (λ (t : TypeTree). t.place) e in omega (arith, f);
  other_groups = search rules;
  as_written_twice = refl;
}

pub forms_worked : FormsWorked
unfolding type_count
forms_worked = record {
  all = search rules;
  all_canonical = search rules;
  twice = λ f. f.1 refl 0 refl;
  written_twice = search rules;
  not_canonical = search rules;
  unknown_id = search rules;
  known_id = search rules;
  unknown_place = search rules;
  own_supertype = search rules;
  later_supertype = search rules;
  earlier_supertype = search rules;
  two_supertypes = search rules;
  module_index = search rules;
  module_index_as_written = search rules;
}

pub below_worked : BelowWorked
unfolding type_count declared_by_id
below_worked = record {
  supertype = refl;
  none_past_the_end = refl;
  itself = itself;
  declared = declared refl itself;
  upside_down = search rules;
  unrelated = search rules;
  as_written_twice = search rules;
}

-- an id without a supertype is below itself alone
only_itself : (j : CoreTypeId) → IdBelow both (id_of 0) j → id_of 0 ≡ j
unfolding type_count declared_by_id
only_itself j itself = refl
only_itself j (declared e r) = absurd cc

pub values_worked : ValuesWorked
unfolding type_count declared_by_id
values_worked = record {
  numbers = refl;
  other_numbers = search rules;
  declared = (tt, declared refl itself);
  upside_down = search rules;
  null = search rules;
  exactly = (tt, refl);
  declared_exactly = search rules;
  not_exactly = search rules;
  under = (tt, (id_of 2, itself, (refl, struct_eq)));
  not_under = λ h. let e = only_itself h.1.0 h.1.1 in search rules;
  not_under_shared = λ h. let e = only_itself h.1.0 h.1.1 in search rules;
  over = (tt, λ j d. let e = only_itself j d in search rules);
  not_over = λ h. let e = h.1 (id_of 2) itself in search rules;
  not_over_shared = λ h. let e = h.1 (id_of 2) itself in search rules;
  shared = refl;
  shared_numbers = refl;
  top = refl;
  top_of_abstract = refl;
}

zero_depth : HasDepth three_and_one (displays.id 0) 0
zero_depth = top refl

two_depth : HasDepth three_and_one (displays.id 2) 2
two_depth = below {b = displays.id 1} refl (below {b = displays.id 0} refl zero_depth)

three_depth : HasDepth three_and_one (displays.id 3) 0
three_depth = top refl

-- by its depth it would be the first
not_under_three : IsUnder three_and_one (displays.id 2) (displays.id 3) → ⊥
not_under_three u =
    let first : IsUnder three_and_one (displays.id 2) (displays.id 0) = chain.declared {b = displays.id 1} refl (chain.declared {b = displays.id 0} refl chain.itself) in
    let there = between three_and_one (displays.id 2) (displays.id 0) (displays.id 3) 2 0 0 first u two_depth zero_depth three_depth (omega arith) in
    let same : displays.id 0 ≡ displays.id 3 = same_depth three_and_one (displays.id 0) (displays.id 3) 0 there zero_depth three_depth in
    omega (arith, ap (λ (x : CoreTypeId). x.0) same)

pub chains_worked : ChainsWorked
chains_worked = record {
  itself = chain.itself;
  two_steps = chain.declared {b = displays.id 1} refl (chain.declared {b = displays.id 0} refl chain.itself);
  upside_down = λ u. let le = no_deeper three_and_one (displays.id 0) (displays.id 2) 0 2 u zero_depth two_depth in omega arith;
  apart = not_under_three;
  first_depth = zero_depth;
  third_depth = two_depth;
  not_three = λ h. let e = one_depth three_and_one (displays.id 2) 3 2 h two_depth in omega (arith, e);
  unknown = search rules;
}
