-- The worked rows of operators.
use Rattle.std.proofs.Common.{◌≡◌, List, [], ◌∷◌, ◌++◌, true, false, refl, sym, inl, rules}
use Rattle.wasm_types.specs.settings.Features.{has}
use Rattle.wasm_types.specs.trees.Types.{i32, i64, number, concrete}
use Rattle.wasm_types.specs.trees.Trees.{opened}
use Rattle.wasm_types.specs.trees.AbstractOrder.{same}
use Rattle.wasm_operator_validator_rules.specs.Operands.{Operand, AllBelow, all_known}
use Rattle.wasm_operator_validator_rules.specs.Row.{of_type}
use Rattle.wasm_operator_validator_rules.specs.worked.Contexts.{any_function, widening, table_of}
use Rattle.wasm_operator_validator_rules.specs.worked.Operators.{i32_known, i64_known, ControlWorked, OperandsWorked, VariablesWorked, ReferencesWorked, FeaturesWorked}

-- the last of two, and of one
last_of_two : (any : List Operand) (x a b : Operand) → any ++ x ∷ [] ≡ a ∷ b ∷ [] → x ≡ b
last_of_two [] x a b e = absurd cc
last_of_two (y ∷ []) x a b e = cc
last_of_two (y ∷ z ∷ []) x a b e = absurd cc
last_of_two (y ∷ z ∷ w ∷ any) x a b e = absurd cc

last_of_one : (any : List Operand) (x a : Operand) → any ++ x ∷ [] ≡ a ∷ [] → x ≡ a
last_of_one [] x a e = cc
last_of_one (y ∷ []) x a e = absurd cc
last_of_one (y ∷ z ∷ any) x a e = absurd cc

-- what a branch by a table takes, below its index
below_last : (any : List Operand) (t u a b : Operand) → any ++ t ∷ u ∷ [] ≡ a ∷ b ∷ [] → t ≡ a
below_last [] t u a b e = cc
below_last (y ∷ []) t u a b e = absurd cc
below_last (y ∷ z ∷ []) t u a b e = absurd cc
below_last (y ∷ z ∷ w ∷ any) t u a b e = absurd cc

i64_is_no_i32 : i64_known ≡ i32_known → ⊥
i64_is_no_i32 e = absurd cc

both : (s any : List Operand) → AllBelow s (all_known (number i32 ∷ [])) → any ++ (s ++ i32_known ∷ []) ≡ i64_known ∷ i32_known ∷ [] → ⊥
both [] any f e = absurd f
both (t ∷ []) any f e = let g : t ≡ i64_known = below_last any t i32_known i64_known i32_known e in let h : AllBelow (i64_known ∷ []) (i32_known ∷ []) = rw g at f in absurd cc
both (t ∷ u ∷ s) any f e = absurd f.1

pub control_worked : ControlWorked
unfolding has opened
control_worked = record {
  nop = search rules;
  nop_takes = search rules;
  unreachable = search rules;
  br = (search rules, (number i64 ∷ [], i32_known ∷ [], refl, refl));
  br_other = λ (e, (ts, any, l, p)). let h : ts ≡ number i64 ∷ [] = cc in let q : any ++ i64_known ∷ [] ≡ i64_known ∷ i32_known ∷ [] =
      rw h at (sym p) in i64_is_no_i32 (last_of_two any i64_known i64_known i32_known q);
  br_unknown = search rules;
  br_if = (search rules, (number i32 ∷ [], refl, (refl, refl)));
  br_if_condition = search rules;
  br_table = (search rules, (i64_known ∷ [], [], ((number i64 ∷ [], refl, (refl, tt)), ((number i64 ∷ [], refl, (refl, tt)), ((number i64 ∷ [], refl, (refl, tt)), tt))), refl));
  br_table_unequal = λ (e, (s, any, ((ts, l, f), more), p)). let h : ts ≡ number i32 ∷ [] = cc in both s any (rw h at f) (sym p);
  return = (search rules, (i64_known ∷ [], refl));
  return_other = λ (e, (any, p)). i64_is_no_i32 (sym (last_of_one any i32_known i64_known (sym p)));
  call = (search rules, (record { params = number i32 ∷ []; results = number i64 ∷ [] }, (widening, refl, (λ s. absurd cc), refl), (refl, refl)));
  call_backwards = search rules;
  call_unknown = search rules;
  call_not_shared = search rules;
  call_indirect = (
    search rules,
    (
      table_of any_function false,
      record { params = number i32 ∷ []; results = number i64 ∷ [] },
      record {
        table = refl;
        table_used = λ s. absurd cc;
        functions = (false, (tt, (refl, same)));
        callee = widening;
        type = refl;
        type_used =
            λ s. absurd cc;
        function = refl;
      },
      (refl, refl),
    ),
  );
  call_indirect_64 = (
    search rules,
    (
      table_of any_function true,
      record { params = number i32 ∷ []; results = number i64 ∷ [] },
      record {
        table = refl;
        table_used = λ s. absurd cc;
        functions = (false, (tt, (refl, same)));
        callee = widening;
        type = refl;
        type_used =
            λ s. absurd cc;
        function = refl;
      },
      (refl, refl),
    ),
  );
  call_indirect_no_functions = search rules;
  return_call = search rules;
  frame_end = search rules;
}

pub operands_worked : OperandsWorked
unfolding has opened
operands_worked = record {
  drop = search rules;
  drop_none = search rules;
  select = search rules;
  select_bottom = search rules;
  select_unequal = search rules;
  select_reference = search rules;
  select_some_reference = search rules;
  typed_select = search rules;
  typed_select_other = search rules;
  typed_select_of_many = search rules;
}

pub variables_worked : VariablesWorked
unfolding has opened
variables_worked = record {
  get = search rules;
  get_other = search rules;
  get_unset = search rules;
  get_unknown = search rules;
  get_not_shared = search rules;
  get_number_shared = search rules;
  set = search rules;
  set_gives = search rules;
  tee = search rules;
  tee_gives_none = search rules;
  global = (search rules, (_, refl, (refl, refl)));
  global_constant = search rules;
}

pub references_worked : ReferencesWorked
unfolding has opened
references_worked = record {
  is_null = search rules;
  is_null_of_some = search rules;
  is_null_of_number = search rules;
  null = search rules;
  null_of_function = search rules;
  null_unknown = search rules;
  function = (search rules, (widening, concrete widening, refl, inl refl, (λ s. absurd cc), of_type, (refl, refl)));
  function_nullable = search rules;
  function_unreferenced = search rules;
  init = (search rules, (table_of any_function true, any_function, refl, (λ s. absurd cc), refl, (tt, (refl, same)), (refl, refl)));
  init_other = search rules;
  copy = (search rules, (table_of any_function false, table_of any_function true, refl, refl, (λ s. absurd cc), (λ s. absurd cc), (tt, (refl, same)), (refl, refl)));
  copy_other = search rules;
}

pub features_worked : FeaturesWorked
unfolding has opened
features_worked = record {
  sum = (record { proposal = refl; floats = λ h. absurd cc }, (_, refl, (refl, refl)));
  call_ref = search rules;
  return_call_ref = search rules;
  as_non_null = search rules;
  float_sum = search rules;
  float_load = search rules;
  load = (record { proposal = refl; floats = λ h. absurd cc }, (_, refl, (refl, refl)));
  float_truncation = search rules;
  sign_extension = search rules;
  memory_copy = search rules;
  typed_select = search rules;
}
