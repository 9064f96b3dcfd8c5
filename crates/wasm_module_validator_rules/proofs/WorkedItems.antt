-- Imports, types, shared items, segments of expressions, and spaces of more than one item.
use Rattle.std.specs.Prelude.{ℤ}
use Rattle.std.proofs.Common.{[], ◌∷◌, refl, rules, inl, inr}
use Rattle.wasm_types.specs.settings.Features.{has}
use Rattle.wasm_types.specs.trees.Trees.{opened}
use Rattle.wasm_types.specs.trees.AbstractOrder.{same}
use Rattle.wasm_types.specs.trees.ValidGroup.{types_from, done, next}
use Rattle.wasm_types.specs.settings.Limits.{default_limits}
use Rattle.wasm_types.specs.trees.Types.{i32, i64, number}
use Rattle.wasm_types.specs.trees.Below.{itself}
use Rattle.wasm_operator_validator_rules.specs.Operands.{Operand, known}
use Rattle.wasm_module_validator_rules.specs.worked.Items.{ImportsWorked, TypesWorked, SharedWorked, ElementsWorked, IndicesWorked}
use Rattle.wasm_module_validator_rules.proofs.WorkedParts.{types_hold, tables_hold, imports_hold, globals_hold, data_holds, procedure_with, tree_holds, function_is}
use Rattle.wasm_module_validator_rules.proofs.WorkedParts.{is_constant, is_constant_by, is_long, is_no_function, is_no_shared_function, null_functions, externals}

-- operands
abbrev an_i32 : Operand
an_i32 = known (number i32)

abbrev an_i64 : Operand
an_i64 = known (number i64)

pub imports_worked : ImportsWorked
unfolding has opened types_from default_limits
imports_worked = record {
  memory = imports_hold done (search rules, tt) (search rules);
  memory_too_large = search rules;
  second_too_large = search rules;
  table = imports_hold done (record { element = inl refl; limits = search rules; wide = search rules; shared = search rules }, tt) (search rules);
  table_backwards = search rules;
  table_without_null = imports_hold done (record { element = inr (_, record { allowed = search rules; known = tt; is = refl }); limits = search rules; wide = search rules; shared = search rules }, tt) (search rules);
  function = imports_hold (next (search rules) done) ((_, _, refl, refl), tt) (search rules);
  function_unknown = search rules;
  function_of_struct = search rules;
  exactly_unknown = search rules;
  tag = imports_hold (next (search rules) done) (record { exceptions = search rules; type = _; signature = _; named = refl; function = refl; results = inl refl }, tt) (search rules);
  tag_unknown = search rules;
  tag_of_struct = search rules;
  tag_gives_needs = (imports_hold (next (search rules) done) (record { exceptions = search rules; type = _; signature = _; named = refl; function = refl; results = inr (search rules) }, tt) (search rules), search rules);
  global = imports_hold (next (search rules) done) ((record { content = (_, record { allowed = search rules; known = search rules; is = refl }); shared = search rules }, search rules), tt) (search rules);
  global_of_unknown_type = search rules;
}

pub types_worked : TypesWorked
unfolding has opened types_from default_limits
types_worked = record {
  earlier_type = types_hold (next (search rules) (next (search rules) done)) (search rules);
  later_type = search rules;
  own_type = types_hold (next (search rules) (next (search rules) done)) (search rules);
  unknown_type = search rules;
  open_supertype = types_hold (next (search rules) (next (search rules) done)) (search rules);
  final_supertype = search rules;
  supertype_of_another_kind = search rules;
  types_of_groups = types_hold (next (search rules) (next (search rules) done)) (search rules);
  unused_type_wrong = search rules;
}

pub shared_worked : SharedWorked
unfolding has opened types_from default_limits
shared_worked = record {
  table_needs = (tables_hold ((record { element = inr (_, record { allowed = search rules; known = tt; is = refl }); limits = search rules; wide = search rules; shared = λ s. (refl, refl) }, refl), tt) (search rules), search rules);
  table_of_unshared = search rules;
  imported_table = imports_hold done (record { element = inr (_, record { allowed = search rules; known = tt; is = refl }); limits = search rules; wide = search rules; shared = λ s. (refl, refl) }, tt) (search rules);
  imported_table_of_unshared = search rules;
  global = globals_hold ((record { content = (_, record { allowed = search rules; known = tt; is = refl }); shared = λ s. (refl, refl) }, is_no_shared_function _ _), tt) (search rules);
  global_of_unshared = search rules;
  imported_global = imports_hold done ((record { content = (_, record { allowed = search rules; known = tt; is = refl }); shared = λ s. (refl, refl) }, search rules), tt) (search rules);
  imported_global_of_unshared = search rules;
}

pub elements_worked : (x : ℤ) → ElementsWorked x
unfolding has opened types_from default_limits
elements_worked x = record {
  null = procedure_with (null_functions _ _ 1 (search rules), tt) tt (record { mode = (_, refl, (tt, (refl, same)), is_constant _ _ x); items = ((_, record { allowed = search rules; known = tt; is = refl }), (is_no_function _ _, tt)); within = search rules }, tt) (search rules);
  number = search rules;
  second_is_number = search rules;
  fit = procedure_with ((externals _ 1 (search rules), refl), tt) tt (record { mode = (_, refl, (tt, (refl, same)), is_constant _ _ x); items = ((_, record { allowed = search rules; known = tt; is = refl }), tt); within = search rules }, tt) (search rules);
  do_not_fit = search rules;
  fit_by_type = procedure_with (null_functions _ _ 1 (search rules), tt) tt (record { mode = (_, refl, (tt, (_, itself, refl, same)), is_constant _ _ x); items = ((_, record { allowed = search rules; known = search rules; is = refl }), tt); within = search rules }, tt) (search rules);
  known_type = procedure_with tt tt (record { mode = search rules; items = ((_, record { allowed = search rules; known = search rules; is = refl }), tt); within = search rules }, tt) (search rules);
  unknown_type = search rules;
  not_constant = search rules;
  type_needs = (procedure_with (null_functions _ _ 1 (search rules), tt) tt (record { mode = (_, refl, (tt, (refl, same)), is_constant _ _ x); items = ((_, record { allowed = search rules; known = tt; is = refl }), tt); within = search rules }, tt) (search rules), search rules);
  non_null_type_needs = (procedure_with (null_functions _ _ 1 (search rules), tt) tt (record { mode = (_, refl, (tt, (refl, same)), is_constant _ _ x); items = ((_, record { allowed = search rules; known = tt; is = refl }), tt); within = search rules }, tt) (search rules), search rules);
  active_alone = procedure_with (null_functions _ _ 1 (search rules), tt) tt (record { mode = (_, refl, (tt, (refl, same)), is_constant_by _ refl _ _ x); items = ((_, record { allowed = search rules; known = tt; is = refl }), tt); within = search rules }, tt) (search rules);
  passive_needs = (procedure_with tt tt (record { mode = search rules; items = ((_, record { allowed = search rules; known = tt; is = refl }), tt); within = search rules }, tt) (search rules), search rules);
  passive_functions_need = (procedure_with tt tt (record { mode = search rules; items = (search rules, tt); within = search rules }, tt) (search rules), search rules);
  passive_function_unknown = search rules;
}

pub indices_worked : (x : ℤ) → IndicesWorked x
unfolding has opened types_from default_limits
indices_worked x = record {
  second_table = procedure_with ((externals _ 1 (search rules), refl), ((record { element = inl refl; limits = search rules; wide = search rules; shared = search rules }, refl), tt)) tt (record { mode = (_, refl, (tt, (refl, same)), is_long _ _ x); items = (search rules, tt); within = search rules }, tt) (search rules);
  second_table_by_short = search rules;
  first_table = search rules;
  third_table = search rules;
  table_unnamed = search rules;
  first_memory = data_holds (search rules, (search rules, tt)) tt ((_, refl, is_constant _ _ x), tt) (search rules);
  first_memory_by_long = search rules;
  second_memory = data_holds (search rules, (search rules, tt)) tt ((_, refl, is_long _ _ x), tt) (search rules);
  second_memory_by_short = search rules;
  third_memory = search rules;
  size_of_first_table = tree_holds (next (search rules) done) (_, _, refl, refl) ((externals _ 1 (search rules), refl), ((record { element = inl refl; limits = search rules; wide = search rules; shared = search rules }, refl), tt)) tt tt (_, refl, function_is refl tt (search rules) (record { expression = (refl, refl); typed = (an_i32 ∷ [], ([], an_i32 ∷ [], [], (search rules, (_, refl, (refl, refl))), tt, refl), ((refl, tt), tt, tt)) })) (search rules);
  size_of_second_table = tree_holds (next (search rules) done) (_, _, refl, refl) ((externals _ 1 (search rules), refl), ((record { element = inl refl; limits = search rules; wide = search rules; shared = search rules }, refl), tt)) tt tt (_, refl, function_is refl tt (search rules) (record { expression = (refl, refl); typed = (an_i64 ∷ [], ([], an_i64 ∷ [], [], (search rules, (_, refl, (refl, refl))), tt, refl), ((refl, tt), tt, tt)) })) (search rules);
  size_of_first_table_wide = search rules;
  size_of_third_table = search rules;
  size_of_first_memory = tree_holds (next (search rules) done) (_, _, refl, refl) tt (search rules, (search rules, tt)) tt (_, refl, function_is refl tt (search rules) (record { expression = (refl, refl); typed = (an_i32 ∷ [], ([], an_i32 ∷ [], [], (search rules, (_, refl, (refl, refl))), tt, refl), ((refl, tt), tt, tt)) })) (search rules);
  size_of_second_memory = tree_holds (next (search rules) done) (_, _, refl, refl) tt (search rules, (search rules, tt)) tt (_, refl, function_is refl tt (search rules) (record { expression = (refl, refl); typed = (an_i64 ∷ [], ([], an_i64 ∷ [], [], (search rules, (_, refl, (refl, refl))), tt, refl), ((refl, tt), tt, tt)) })) (search rules);
  size_of_first_memory_wide = search rules;
  size_of_third_memory = search rules;
}
