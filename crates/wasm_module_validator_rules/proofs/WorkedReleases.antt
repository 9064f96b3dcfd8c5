-- What the first release allows by itself.
use Rattle.std.specs.Prelude.{ℤ}
use Rattle.std.proofs.Common.{[], ◌∷◌, refl, rules, arith}
use Rattle.wasm_types.specs.settings.Features.{has}
use Rattle.wasm_types.specs.trees.Trees.{opened}
use Rattle.wasm_types.specs.trees.AbstractOrder.{same}
use Rattle.wasm_types.specs.trees.ValidGroup.{types_from, done, next}
use Rattle.wasm_types.specs.settings.Limits.{default_limits}
use Rattle.wasm_types.specs.trees.Types.{f32, number}
use Rattle.wasm_operator_validator_rules.specs.Operands.{Operand, known}
use Rattle.wasm_module_validator_rules.specs.Spaces.{with_types}
use Rattle.wasm_module_validator_rules.specs.worked.Releases.{ReleasesWorked}
use Rattle.wasm_module_validator_rules.proofs.WorkedParts.{tables_hold, memories_hold, imports_hold, globals_hold, items_hold, data_holds, procedure_with, tree_holds, function_is}
use Rattle.wasm_module_validator_rules.proofs.WorkedParts.{is_constant_by, reads_first_by, number_global, variable_global, null_functions}

-- operands
abbrev an_f32 : Operand
an_f32 = known (number f32)

pub releases_worked : (x : ℤ) → ReleasesWorked x
unfolding has opened types_from default_limits
releases_worked x = record {
  table = tables_hold (null_functions _ _ 1 (search rules), tt) (search rules);
  table_of_external = search rules;
  table_wide = search rules;
  two_tables = search rules;
  table_empty = procedure_with (null_functions _ _ 1 (search rules), tt) tt tt (search rules);
  table_filled = search rules;
  elements = procedure_with (null_functions _ _ 1 (search rules), tt) tt (record { mode = (_, refl, (tt, (refl, same)), is_constant_by _ refl _ _ x); items = (search rules, tt); within = search rules }, tt) (search rules);
  elements_declared = search rules;
  elements_as_expressions = search rules;
  memory = memories_hold (search rules, tt) (search rules);
  memory_shared = search rules;
  memory_with_page_size = search rules;
  memory_wide = search rules;
  two_memories = search rules;
  bytes = data_holds (search rules, tt) tt ((_, refl, is_constant_by _ refl _ _ x), tt) (search rules);
  bytes_passive = search rules;
  bytes_counted = search rules;
  tag = search rules;
  global = globals_hold ((number_global _ _, is_constant_by _ refl _ _ x), tt) (search rules);
  global_summed = search rules;
  imported_read = items_hold done (search rules, tt) tt tt tt ((number_global _ _, reads_first_by (with_types []) _ _ refl _ (λ c. absurd (omega (arith, c)))), tt) tt tt (search rules);
  own_read = search rules;
  variable = globals_hold ((variable_global _ _, is_constant_by _ refl _ _ x), tt) (search rules);
  variable_exported = search rules;
  variable_exported_later = items_hold done tt tt tt tt ((variable_global _ _, is_constant_by _ refl _ _ x), tt) ((_, refl, search rules), tt) (tt, tt) (search rules);
  variable_imported = search rules;
  variable_imported_later = imports_hold done ((variable_global _ _, search rules), tt) (search rules);
  global_of_functions = search rules;
  floats = tree_holds (next (search rules) done) (_, _, refl, refl) tt tt tt (_, refl, function_is refl tt (search rules) (record { expression = (refl, (refl, refl)); typed = (an_f32 ∷ [], ([], an_f32 ∷ [], [], (search rules, (_, record { local = refl; used = search rules }, refl, (refl, refl))), tt, refl), (an_f32 ∷ [], (an_f32 ∷ [], an_f32 ∷ [], [], (search rules, (_, refl, (refl, refl))), (refl, tt), refl), ((refl, tt), tt, tt))) })) (search rules);
  floats_missing = search rules;
  float_operator = tree_holds (next (search rules) done) (_, _, refl, refl) tt tt tt (_, refl, function_is refl tt (search rules) (record { expression = (refl, (refl, (refl, refl))); typed = (an_f32 ∷ [], ([], an_f32 ∷ [], [], (search rules, tt), tt, refl), (an_f32 ∷ [], (an_f32 ∷ [], an_f32 ∷ [], [], (search rules, (_, refl, (refl, refl))), (refl, tt), refl), ([], (an_f32 ∷ [], [], [], (search rules, (an_f32, refl, refl)), (refl, tt), refl), (tt, tt, tt)))) })) (search rules);
  float_operator_needs = (tree_holds (next (search rules) done) (_, _, refl, refl) tt tt tt (_, refl, function_is refl tt (search rules) (record { expression = (refl, (refl, (refl, refl))); typed = (an_f32 ∷ [], ([], an_f32 ∷ [], [], (search rules, tt), tt, refl), (an_f32 ∷ [], (an_f32 ∷ [], an_f32 ∷ [], [], (search rules, (_, refl, (refl, refl))), (refl, tt), refl), ([], (an_f32 ∷ [], [], [], (search rules, (an_f32, refl, refl)), (refl, tt), refl), (tt, tt, tt)))) })) (search rules), search rules);
  locals = tree_holds (next (search rules) done) (_, _, refl, refl) tt tt tt (_, refl, function_is refl ((_, record { allowed = search rules; known = tt; is = refl }), tt) (search rules) (record { expression = refl; typed = (tt, tt, tt) })) (search rules);
  locals_of_functions = search rules;
}
