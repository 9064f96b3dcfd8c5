-- The worked rows of matching.
use Rattle.std.proofs.Common.{refl, rules}
use Rattle.wasm_types_trees.specs.Trees.{opened}
use Rattle.wasm_types_trees.specs.Below.{DeclaredBelow, itself}
use Rattle.wasm_types_trees.specs.worked.Types.{base, derived}
use Rattle.wasm_types_trees.specs.worked.Matches.{MatchesWorked}
use Rattle.wasm_types_trees.proofs.WorkedSubtypeProofs.{IsNot, above_base, derived_base}

not_base : DeclaredBelow base derived → ⊥
unfolding opened
not_base d = above_base (IsNot derived) derived (λ e f g. cc) d refl refl refl

pub matches_worked : MatchesWorked
unfolding opened
matches_worked = record {
  packed = search rules;
  packed_not = search rules;
  packed_no_value = search rules;
  value_not_packed = search rules;
  constant_field = search (rules, derived_base);
  constant_field_not = λ p. not_base p.1.0.1.1;
  variable_field = search (rules, itself);
  variable_field_not = λ p. not_base (p.1.0.2 refl).1;
  variable_field_not_either = λ p. not_base p.1.0.1.1;
  mutability = search rules;
  other_number = search rules;
  more_fields = search rules;
  fewer_fields = search rules;
  later_field = search rules;
  exchanged_fields = search rules;
  arrays = search (rules, derived_base);
  arrays_not = (λ p. not_base p.1.1.1, λ p. not_base (p.1.2 refl).1);
  parameters = search (rules, derived_base);
  parameters_not = λ p. not_base p.1.0.0.1;
  results = search (rules, derived_base);
  results_not = λ p. not_base p.1.1.0.1;
  count_of_parameters = search rules;
  count_of_results = search rules;
  continuations = search (rules, derived_base);
  continuations_not = λ p. not_base p.1;
  functions_alone = search rules;
  arrays_alone = search rules;
  structs_alone = search rules;
  continuations_alone = search rules;
  shared = search rules;
  shared_not = search rules;
  unshared_not = search rules;
  finality = search rules;
}
