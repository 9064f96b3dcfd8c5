-- The worked states that are stuck, and the places that are meant.
use Rattle.std.specs.Prelude.{ℤ}
use Rattle.std.proofs.Common.{◌≡◌, true, false, [], refl, sym, subst, inl, inr, arith, true≢false}
use Rattle.std.proofs.lemmas.List.Elements.{All-head}
use Rattle.wasm_types.specs.trees.Types.{Number, i32, i64, v128, any, ref, abstract}
use Rattle.wasm_types.specs.trees.Trees.{opened}
use Rattle.wasm_operator_validator_soundness.specs.runs.Machine.{HasDefault, IsOfBytes}
use Rattle.wasm_operator_validator_soundness.specs.runs.worked.Stuck.{StuckWorked, PlacesWorked}
use Rattle.wasm_operator_validator_soundness.proofs.RunsInvariant.{none_is_some}

abbrev Is64 : Number → Type 0
Is64 i64 = Unit {0}
Is64 n = ⊥

apart : i64 ≡ i32 → ⊥
apart e = subst Is64 e tt

no_vector : i64 ≡ v128 → ⊥
no_vector e = subst Is64 e tt

abbrev IsVector : Number → Type 0
IsVector v128 = Unit {0}
IsVector n = ⊥

no_lane : v128 ≡ i32 → ⊥
no_lane e = subst IsVector e tt

pub stuck_worked : (x : ℤ) → StuckWorked x
unfolding opened
stuck_worked x = record {
  operand_missing = inl (λ k. k.0.1);
  operand_wrong = inl (λ k. apart k.0.0.1);
  shifted_by_vector = inl (λ k. no_lane k.0.0.1);
  lane_of_number = inl (λ k. no_vector k.0.0.1);
  vector_missing = inl (λ k. k.0.1.1);
  nothing_dropped = inr refl;
  reference_selected = inl (λ k. k.0);
  no_reference = inl (λ k. k.0);
  parameter_missing = inl (λ k. k.0);
  condition_wrong = inl (λ k. apart k.0.1);
  argument_wrong = inl (λ k. apart k.1.0.0.1);
  no_function = inr refl;
  no_function_in_table = inl (λ k. k.1.0);
  result_wrong = inl (λ k. apart k.0.0.1);
  result_left = inl (λ k. k.0.1);
  owed_wrong = inl (λ k. absurd cc);
  thrown_wrong = inl (λ k. apart k.0.0.1);
  handed_on_wrong = inl (λ k. absurd cc);
  clause_label = inr refl;
  clause_tag = inr refl;
  nothing_caught = inr refl;
  delegate_label = inr refl;
  local_unset = inr refl;
  local_unknown = inr refl;
  global_immutable = inl (λ k. absurd (true≢false (sym k.0)));
  global_unknown = inr refl;
  label_unknown = inr refl;
  function_unknown = inr refl;
  reference_unknown = inr refl;
  table_unknown = inr refl;
  memory_unknown = inr refl;
  no_memory_read = inr refl;
  no_memory_written = inr refl;
  no_memory_changed = inr refl;
  no_memory_for_vector = inr refl;
  no_memory_filled = inr refl;
  segment_unknown = inr refl;
  data_not_dropped = inl (λ k. absurd (omega (arith, k.0)));
  tag_unknown = inr refl;
  type_unknown = inr refl;
  block_unknown = inr refl;
  null_unknown = inr refl;
  cast_unknown = inr refl;
  array_as_struct = inr refl;
  struct_as_array = inr refl;
  no_object = inr refl;
  field_unknown = inr refl;
  field_wrong = inl (λ k. absurd cc);
  packed_as_whole = inl (λ k. none_is_some 8 (sym k.1.0));
  whole_as_packed = inl (λ k. none_is_some (k.1.0).0 (k.1.0).1);
  copied_apart = inl (λ k. absurd cc);
  field_immutable = inl (λ k. absurd (true≢false (sym k.1.0)));
  initialised_immutable = inl (λ k. absurd (true≢false (sym k.1.0)));
  no_array = inl (λ k. absurd cc);
  not_unboxed = inl (λ k. k.0.1);
  not_compared = inl (λ k. k.0.1.1);
  no_default = inl (λ k. let r : HasDefault (ref false (abstract false any)) = All-head HasDefault (ref false (abstract false any)) [] k.1.0 in none_is_some r.0 r.1);
  bytes_as_references = inl (λ k. All-head IsOfBytes (ref true (abstract false any)) [] k.1.0.0);
  data_unknown = inl (λ k. absurd (omega (arith, k.1.0.1)));
  cast_elsewhere = inl (λ k. absurd cc);
  cast_across = inl (λ k. absurd cc);
  nothing_runs = inr refl;
}

pub places_worked : (x : ℤ) → PlacesWorked x
unfolding opened
places_worked x = record {
  own_parameter = λ k. k.1.0.0;
  own_results = λ k. k.0.0;
  own_field_written = λ k. k.1.1.0;
  own_field_read = λ k. k.0.0;
  inherited_field = refl;
  cast_fits = λ k. k.0 refl;
  null_passes = refl;
  null_falls = refl;
}
