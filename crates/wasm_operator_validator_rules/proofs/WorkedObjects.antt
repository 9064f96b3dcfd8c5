-- The worked rows of operators on structs, arrays and references.
use Rattle.std.proofs.Common.{◌≡◌, List, [], ◌∷◌, ◌++◌, true, false, refl, sym, subst, rules}
use Rattle.wasm_types.specs.settings.Features.{has}
use Rattle.wasm_types.specs.trees.Types.{any, eq, extern, array, HeapOf, ref, concrete}
use Rattle.wasm_types.specs.trees.Trees.{TypeTree, opened}
use Rattle.wasm_types.specs.trees.AbstractOrder.{i31_eq}
use Rattle.wasm_types.specs.trees.Below.{Below, DeclaredBelow, itself, declared}
use Rattle.wasm_operator_validator_rules.specs.Operands.{ValueType, Operand, known, all_known}
use Rattle.wasm_operator_validator_rules.specs.worked.Operators.{i32_known}
use Rattle.wasm_operator_validator_rules.specs.worked.References.{null_to, to, cell}
use Rattle.wasm_operator_validator_rules.specs.worked.Objects.{wide_cell, node}
use Rattle.wasm_operator_validator_rules.specs.worked.ObjectTypes.{StructsWorked, ArraysWorked, CastsWorked}
use Rattle.wasm_operator_validator_rules.specs.worked.ObjectRows.{to_abstract, GcRowsWorked, ObjectOperandsWorked, CastBranchesWorked}

-- ---- the last of a list

only : {A : Type 0} (xs : List A) (x y : A) → y ∷ [] ≡ xs ++ x ∷ [] → y ≡ x
only [] x y e = cc
only (z ∷ []) x y e = absurd cc
only (z ∷ w ∷ xs) x y e = absurd cc

only_known : (ts : List ValueType) (t : ValueType) (x : Operand) → x ∷ [] ≡ all_known (ts ++ t ∷ []) → x ≡ known t
only_known [] t x e = cc
only_known (u ∷ []) t x e = absurd cc
only_known (u ∷ v ∷ ts) t x e = absurd cc

-- ---- the table

pub structs_worked : StructsWorked
unfolding has opened
structs_worked = record {
  new = refl;
  new_plainly = refl;
  new_array = refl;
  new_unknown = refl;
  new_described = refl;
  new_describing = refl;
  new_default = refl;
  new_no_default = refl;
  new_default_described = refl;
  get = refl;
  get_packed = refl;
  get_unknown = refl;
  get_unsigned = refl;
  get_unsigned_value = refl;
  get_signed = refl;
  get_signed_value = refl;
  set = refl;
  set_immutable = refl;
  get_not_shared = refl;
}

pub arrays_worked : ArraysWorked
unfolding has opened
arrays_worked = record {
  new = refl;
  new_struct = refl;
  new_default = refl;
  new_no_default = refl;
  new_fixed = refl;
  new_fixed_struct = refl;
  new_data = refl;
  new_data_references = refl;
  new_data_unknown = refl;
  get = refl;
  get_packed = refl;
  get_signed = refl;
  get_signed_value = refl;
  get_unsigned = refl;
  get_unsigned_value = refl;
  set = refl;
  set_immutable = refl;
  fill = refl;
  fill_immutable = refl;
  init_data = refl;
  init_data_references = refl;
  init_data_unknown = refl;
  init_data_immutable = refl;
}

pub casts_worked : CastsWorked
unfolding has opened
casts_worked = record {
  test = refl;
  test_function = refl;
  cast = refl;
  cast_null = refl;
  cast_exact = refl;
  cast_unknown = refl;
  cast_shared = refl;
  cast_not_shared = refl;
  test_unknown = refl;
  test_continuation = refl;
  cast_continuation_type = refl;
  small_number = refl;
  of_its_own_row = refl;
}

-- ---- rows of their own

not_a_node : DeclaredBelow wide_cell node → ⊥
unfolding opened
not_a_node d = search rules

pub gc_rows_worked : GcRowsWorked
unfolding has opened
gc_rows_worked = record {
  equal = search rules;
  equal_shared = search rules;
  equal_half_shared = search rules;
  new_elem = (_, refl, (null_to wide_cell, null_to cell, refl, refl, (tt, declared refl itself)), (refl, refl));
  new_elem_other = search rules;
  new_elem_numbers = search rules;
  new_elem_unknown = search rules;
  length = search rules;
  length_of_struct = search rules;
  copy = (_, _, refl, refl, refl, (tt, declared refl itself), (refl, refl));
  copy_up = search rules;
  copy_immutable = search rules;
  copy_packed = search rules;
  copy_bytes_as_halves = search rules;
  copy_bytes_as_words = search rules;
  init_elem = (_, refl, refl, (null_to cell, null_to cell, refl, refl, (tt, itself)), (refl, refl));
  init_elem_other = search rules;
  init_elem_immutable = search rules;
  to_any = search rules;
  to_any_null = search rules;
  to_any_shared = search rules;
  to_extern = search rules;
  to_extern_null = search rules;
  i31_get_unsigned = search rules;
  i31_get_signed = search rules;
  i31_get_unsigned_any = search rules;
  i31_get_any = search rules;
}

pub object_operands_worked : ObjectOperandsWorked
unfolding has opened
object_operands_worked = record {
  field_of_subtype = (known (null_to cell) ∷ [], i32_known ∷ [], [], (_, refl, (refl, refl)), ((tt, declared refl itself), tt), refl);
  field_of_other = search rules;
  equal_hierarchies = search rules;
  equal_number = search rules;
  equal_bottom = (to_abstract true true eq ∷ to_abstract true true eq ∷ [], i32_known ∷ [], [], (true, (refl, refl)), (tt, ((tt, (refl, i31_eq)), tt)), refl);
  length_of_some = (to_abstract true false array ∷ [], i32_known ∷ [], [], (false, (refl, refl)), (tt, tt), refl);
  to_any_of_some = (to_abstract false true extern ∷ [], to_abstract false true any ∷ [], [], (false, true, (refl, refl)), (tt, tt), refl);
  set_immutable = search rules;
}

pub cast_branches_worked : CastBranchesWorked
unfolding has opened
cast_branches_worked = record {
  on_cast = (
    concrete cell,
    concrete wide_cell,
    record { from_named = refl; to_named = refl; from_castable = refl; to_castable = refl; below = (tt, declared refl itself) },
    ([], (to wide_cell, refl, (tt, itself)), (refl, refl)),
  );
  on_cast_null = (
    concrete cell,
    concrete wide_cell,
    record { from_named = refl; to_named = refl; from_castable = refl; to_castable = refl; below = (tt, declared refl itself) },
    ([], (null_to wide_cell, refl, (tt, itself)), (refl, refl)),
  );
  on_cast_null_stays = λ (h, k, i, (ts, c, t)).
      (let f : known (null_to cell) ≡ known (ref false h) = only_known ts (ref false h) (known (null_to cell)) t.1 in cc);
  on_cast_exchanged = search rules;
  on_cast_carries_first = λ popped pushed (h, k, i, (ts, (u, l, b), t)).
      (let e : to node ∷ [] ≡ ts ++ u ∷ [] = cc in
      let f : to node ≡ u = only ts u (to node) e in
      let n : concrete wide_cell ≡ k = (let j = i.to_named in cc) in
      let c : Below (to wide_cell) (to node) =
      subst (λ (v : ValueType). Below (to wide_cell) v) (sym f) (subst (λ (v : HeapOf TypeTree). Below (ref false v) u) (sym n) b) in
      not_a_node c.1);
  on_cast_unknown = search rules;
  on_fail = (
    concrete cell,
    concrete wide_cell,
    record { from_named = refl; to_named = refl; from_castable = refl; to_castable = refl; below = (tt, declared refl itself) },
    ([], (null_to cell, refl, (tt, itself)), (refl, refl)),
  );
  on_fail_carries_second = λ popped pushed (h, k, i, (ts, (u, l, b), t)).
      (let e : to wide_cell ∷ [] ≡ ts ++ u ∷ [] = cc in
      let f : to wide_cell ≡ u = only ts u (to wide_cell) e in
      let c : Below (ref true h) (to wide_cell) = subst (λ (v : ValueType). Below (ref true h) v) (sym f) b in c.0);
  on_cast_of_continuation = search rules;
  on_cast_to_continuation = search rules;
}
