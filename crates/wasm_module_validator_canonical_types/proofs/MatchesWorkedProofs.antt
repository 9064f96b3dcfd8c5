-- The worked types.
use Rattle.std.proofs.Common.{◌≡◌, refl, rules, arith}
use Rattle.wasm_types.specs.trees.Unfold.{type_count}
use Rattle.wasm_module_validator_type_storage.specs.trees.Groups.{declared_by_id}
use Rattle.wasm_module_validator_type_storage.specs.trees.ByIds.{IdBelow, itself, declared}
use Rattle.wasm_module_validator_type_storage.specs.trees.Worked.{both, id_of}
use Rattle.wasm_module_validator_canonical_types.specs.matches.Worked.{MatchesWorked}

-- id 2 is declared below id 1, which declares nothing
lower_below : IdBelow both (id_of 2) (id_of 1)
unfolding type_count declared_by_id
lower_below = declared refl itself

not_below : IdBelow both (id_of 1) (id_of 2) → ⊥
unfolding type_count declared_by_id
not_below (declared e r) = absurd cc

pub matches_worked : MatchesWorked
unfolding type_count declared_by_id
matches_worked = record {
  field = (refl, (tt, lower_below), λ h. let z = h in absurd cc);
  field_upside_down = λ h. not_below h.1.1;
  mutable_field = λ h. not_below (h.2 refl).1;
  same_mutable_field = (refl, (tt, itself), λ h. (tt, itself));
  other_mutability = λ h. let z = h.0 in cc;
  wider = ((refl, (tt, lower_below), λ h. let z = h in absurd cc), tt);
  narrower = λ h. h;
  results = (tt, ((tt, lower_below), tt));
  results_upside_down = λ h. not_below h.1.0.1;
  parameters = (((tt, lower_below), tt), tt);
  parameters_upside_down = λ h. not_below h.0.0.1;
  more_results = λ h. h.1;
  continuations = lower_below;
  continuations_upside_down = not_below;
  other_constructor = λ h. h;
  known = search rules;
}
