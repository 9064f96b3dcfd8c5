-- The worked rows of groups.
use Rattle.std.proofs.Common.{ℕ, ◌≤◌, List, [], ◌∷◌, refl, rules, arith}
use Rattle.wasm_types_settings.specs.Features.{has}
use Rattle.wasm_types_settings.specs.Limits.{default_limits}
use Rattle.wasm_types_settings.specs.Settings.{Settings}
use Rattle.wasm_types_trees.specs.Trees.{TypeTree, opened}
use Rattle.wasm_types_trees.specs.AbstractOrder.{eq_any}
use Rattle.wasm_types_trees.specs.Below.{itself, declared}
use Rattle.wasm_types_trees.specs.ValidGroup.{Written, types_from, IsValidGroup, AreValidGroups, done, next}
use Rattle.wasm_types_trees.specs.worked.Groups.{open_type, single, struct_type, nothing, integer, deep, IsRefused, GroupsWorked}

-- of groups one after the other the first is valid
first_is_valid : (settings : Settings) (space after : List TypeTree) (g : Written) (gs : List Written) → AreValidGroups settings space (g ∷ gs) after
    → IsValidGroup settings space g
first_is_valid settings space after g gs (next v vs) = v

no_supertype_yet : IsRefused [] (single (open_type (0 ∷ []) (struct_type (integer ∷ []))))
unfolding default_limits has opened types_from
no_supertype_yet = search rules

pub groups_worked : GroupsWorked
unfolding default_limits has opened types_from deep
groups_worked = record {
  empty_group = search rules;
  empty_group_needs = search rules;
  group_needs = search rules;
  one_function = search rules;
  two_supertypes = λ v. let two : 2 ≤ 1 = v.supertypes 0 (open_type [] nothing) (omega arith) in absurd (omega arith);
  own_supertype = search rules;
  later_supertype = search rules;
  earlier_supertype = search rules;
  unknown_index = search rules;
  own_index = search rules;
  own_index_needs = search rules;
  earlier_index = search rules;
  same_fields = search rules;
  more_fields = search rules;
  supertype_mismatch = search rules;
  final_supertype = search rules;
  open_type_needs = search rules;
  supertype_needs = search rules;
  contravariant_parameter = record {
    explicit = search rules;
    supertypes = search rules;
    references = search rules;
    types = (
      record {
        subtyping = search rules;
        composite = search rules;
        above = (refl, (refl, (((tt, declared refl itself), tt), tt)));
        depth = search rules;
        descriptors = search rules;
        along = search rules;
        described = search rules;
        describes = search rules;
      },
      tt,
    );
  };
  covariant_parameter = search rules;
  covariant_result = record {
    explicit = search rules;
    supertypes = search rules;
    references = search rules;
    types = (
      record {
        subtyping = search rules;
        composite = search rules;
        above = (refl, (refl, (tt, ((tt, declared refl itself), tt))));
        depth = search rules;
        descriptors = search rules;
        along = search rules;
        described = search rules;
        describes = search rules;
      },
      tt,
    );
  };
  contravariant_result = search rules;
  immutable_field = search (rules, eq_any);
  mutable_field = search rules;
  shared_below_unshared = search rules;
  one_result = search rules;
  two_results = search rules;
  two_results_need = search rules;
  structs = search rules;
  structs_need = search rules;
  arrays = search rules;
  arrays_need = search rules;
  parts = search rules;
  parts_need = search rules;
  fields_need = search rules;
  exceptions = search rules;
  exceptions_need = search rules;
  continuation_type = search rules;
  continuation_needs = search rules;
  continuation_needs_too = search rules;
  continuation_of_struct = search rules;
  shared_numbers = search rules;
  shared_function = search rules;
  shared_reference = search rules;
  shared_in_unshared = search rules;
  shared_needs = search rules;
  unshared_parameter = search rules;
  unshared_result = search rules;
  unshared_field = search rules;
  unshared_element = search rules;
  unshared_type = search rules;
  descriptor = search rules;
  open_descriptor = search rules;
  descriptor_needs = search rules;
  descriptor_without_describes = search rules;
  describes_without_descriptor = search rules;
  describes_before = search rules;
  descriptor_finality = search rules;
  descriptor_of_function = search rules;
  function_describes = search rules;
  descriptors_along = search rules;
  descriptor_lost = search rules;
  descriptor_added = search rules;
  descriptor_apart = search rules;
  describes_lost = search rules;
  describes_added = search rules;
  describes_apart = search rules;
  depth_63 = search rules;
  depth_64 = search rules;
  depth_1 = search rules;
  depth_2 = search rules;
  in_turn = next (search rules) (next (search rules) done);
  out_of_turn = λ after v. no_supertype_yet (first_is_valid _ [] after _ _ v);
  equal_groups = search rules;
  other_groups = search rules;
}
