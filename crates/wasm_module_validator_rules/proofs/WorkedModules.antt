-- The worked modules.
use Rattle.std.specs.Prelude.{ℤ}
use Rattle.std.proofs.Common.{true, false, [], refl, rules, inl, inr}
use Rattle.wasm_types.specs.settings.Features.{has}
use Rattle.wasm_types.specs.trees.Trees.{opened}
use Rattle.wasm_types.specs.trees.AbstractOrder.{same}
use Rattle.wasm_types.specs.trees.Below.{itself}
use Rattle.wasm_types.specs.trees.ValidGroup.{types_from, done, next}
use Rattle.wasm_types.specs.settings.Limits.{default_limits}
use Rattle.wasm_module_validator_rules.specs.worked.Modules.{FunctionsWorked, SpacesWorked, GlobalsWorked, SegmentsWorked, LimitsWorked, ContextWorked}
use Rattle.wasm_module_validator_rules.specs.Spaces.{with_types}
use Rattle.wasm_module_validator_rules.proofs.WorkedParts.{types_hold, tables_hold, memories_hold, tags_hold, imports_hold, globals_hold, items_hold, data_holds}
use Rattle.wasm_module_validator_rules.proofs.WorkedParts.{procedure_with, exporting_holds, tree_holds, function_is, gives_constant, is_constant, is_long, is_sum, reads_first, refers, is_function}
use Rattle.wasm_module_validator_rules.proofs.WorkedParts.{number_global, long_global, variable_global, shared_global, null_functions, externals, some_functions}

pub functions_worked : (x : ℤ) → FunctionsWorked x
unfolding has opened types_from default_limits
functions_worked x = record {
  nothing = types_hold done (search rules);
  function = procedure_with tt tt tt (search rules);
  body = tree_holds (next (search rules) done) (_, _, refl, refl) tt tt tt (_, refl, function_is refl tt (search rules) (gives_constant _ x)) (search rules);
  body_empty = search rules;
  body_of_another_type = search rules;
  body_missing = search rules;
  body_too_many = search rules;
  type_unknown = search rules;
  start = record {
    types = next (search rules) done;
    imports = tt;
    functions = ((_, _, refl, refl), tt);
    tables = tt;
    memories = tt;
    tags = tt;
    globals = tt;
    exports = tt;
    names = tt;
    start = (_, refl, refl);
    element_segments = tt;
    data_count = tt;
    code = ((_, refl, function_is refl tt (search rules) (record { expression = refl; typed = (tt, tt, tt) })), tt);
    data_segments = tt;
    limits = search rules;
  };
  start_takes = search rules;
  start_gives = search rules;
  start_unknown = search rules;
  exported = exporting_holds (search rules, (search rules, tt)) ((search rules, tt), (tt, tt)) (search rules);
  export_unknown = search rules;
  export_of_another_space = search rules;
  export_twice = search rules;
  imported_exactly = (imports_hold (next (search rules) done) ((search rules, (_, _, refl, refl)), tt) (search rules), search rules);
  named_nowhere = search rules;
  named_in_export = record {
    types = next (search rules) done;
    imports = tt;
    functions = ((_, _, refl, refl), tt);
    tables = tt;
    memories = tt;
    tags = tt;
    globals = tt;
    exports = (search rules, tt);
    names = (tt, tt);
    start = tt;
    element_segments = tt;
    data_count = tt;
    code = ((_, refl, function_is refl tt (search rules) (refers _ _ refl (inl refl))), tt);
    data_segments = tt;
    limits = search rules;
  };
  named_in_segment = tree_holds (next (search rules) done) (_, _, refl, refl) tt tt (record { mode = search rules; items = (search rules, tt); within = search rules }, tt) (_, refl, function_is refl tt (search rules) (refers _ _ refl (inl refl))) (search rules);
}

pub spaces_worked : SpacesWorked
unfolding has opened types_from default_limits
spaces_worked = record {
  memory = memories_hold (search rules, tt) (search rules);
  memory_backwards = search rules;
  memory_whole = memories_hold (search rules, tt) (search rules);
  memory_too_large = search rules;
  memory_shared_needs = (memories_hold (search rules, tt) (search rules), search rules);
  memory_shared_without_end = search rules;
  page_of_one_byte = memories_hold (search rules, tt) (search rules);
  page_of_two_bytes = search rules;
  memories_need = (memories_hold (search rules, (search rules, tt)) (search rules), search rules);
  memories_imported_need = (items_hold done (search rules, tt) tt (search rules, tt) tt tt tt tt (search rules), search rules);
  table = tables_hold ((record { element = inl refl; limits = search rules; wide = search rules; shared = search rules }, refl), tt) (search rules);
  table_backwards = search rules;
  table_without_null = search rules;
  table_filled = procedure_with ((some_functions _, (search rules, is_function _ _ refl (inl refl) false 0 (_, itself, refl, same))), tt) tt tt (search rules);
  table_filled_needs = (procedure_with ((record { element = inl refl; limits = search rules; wide = search rules; shared = search rules }, (search rules, is_function _ _ refl (inl refl) true 0 (_, itself, refl, same))), tt) tt tt (search rules), search rules);
  tag_needs = (tags_hold (next (search rules) done) (record { exceptions = search rules; type = _; signature = _; named = refl; function = refl; results = inl refl }, tt) (search rules), search rules);
  memory_wide_needs = (memories_hold (search rules, tt) (search rules), search rules);
  page_needs = (memories_hold (search rules, tt) (search rules), search rules);
  table_wide_needs = (tables_hold ((record { element = inl refl; limits = search rules; wide = search rules; shared = search rules }, refl), tt) (search rules), search rules);
  table_shared_of_unshared = search rules;
  table_of_external_needs = (tables_hold ((externals _ 0 (search rules), refl), tt) (search rules), search rules);
  tables_need = (tables_hold (null_functions _ _ 0 (search rules), (null_functions _ _ 0 (search rules), tt)) (search rules), search rules);
  tag_gives_needs = (tags_hold (next (search rules) done) (record { exceptions = search rules; type = _; signature = _; named = refl; function = refl; results = inr (search rules) }, tt) (search rules), search rules);
  tag_unknown = search rules;
}

pub globals_worked : (x : ℤ) → GlobalsWorked x
unfolding has opened types_from default_limits
globals_worked x = record {
  global = globals_hold ((number_global _ _, is_constant _ _ x), tt) (search rules);
  global_of_another_type = search rules;
  constant_missing = search rules;
  not_constant = search rules;
  sum_needs = (globals_hold ((number_global _ _, is_sum _ _ x), tt) (search rules), search rules);
  imported_read = items_hold done (search rules, tt) tt tt tt ((number_global _ _, reads_first (with_types []) _ _), tt) tt tt (search rules);
  variable_read = search rules;
  variable_imported_needs = (imports_hold done ((variable_global _ _, search rules), tt) (search rules), search rules);
  variable_exported_needs = (items_hold done tt tt tt tt ((variable_global _ _, is_constant _ _ x), tt) ((_, refl, search rules), tt) (tt, tt) (search rules), search rules);
  earlier_read_needs = (globals_hold ((number_global _ _, is_constant _ _ x), ((number_global _ _, reads_first (with_types []) _ _), tt)) (search rules), search rules);
  later_read = search rules;
  itself_read = search rules;
  imports_come_first = items_hold done (search rules, tt) tt tt tt ((long_global _ _, is_long _ _ x), ((number_global _ _, reads_first (with_types []) _ _), tt)) tt tt (search rules);
  own_come_behind = search rules;
  shared_needs = (globals_hold ((shared_global _, is_constant _ _ x), tt) (search rules), search rules);
  shared_of_unshared = search rules;
  float_needs = (imports_hold done (search rules, tt) (search rules), search rules);
  table_reads_own = search rules;
}

pub segments_worked : (x : ℤ) → SegmentsWorked x
unfolding has opened types_from default_limits
segments_worked x = record {
  active = procedure_with (null_functions _ _ 1 (search rules), tt) tt (record { mode = (_, refl, (tt, (refl, same)), is_constant _ _ x); items = (search rules, tt); within = search rules }, tt) (search rules);
  does_not_fit = search rules;
  function_unknown = search rules;
  table_unknown = search rules;
  offset_of_another_type = search rules;
  declared_needs = (procedure_with tt tt (record { mode = search rules; items = (search rules, tt); within = search rules }, tt) (search rules), search rules);
  placed = data_holds (search rules, tt) tt ((_, refl, is_constant _ _ x), tt) (search rules);
  data_offset_of_another_type = search rules;
  memory_unknown = search rules;
  placed_wide = data_holds (search rules, tt) tt ((_, refl, is_long _ _ x), tt) (search rules);
  placed_wide_by_short = search rules;
  passive_needs = (data_holds tt tt (search rules, tt) (search rules), search rules);
  count_needs = (data_holds tt (search rules) tt (search rules), search rules);
  counted = data_holds tt (search rules) (search rules, tt) (search rules);
}

pub limits_worked : LimitsWorked
unfolding has opened types_from default_limits
limits_worked = record {
  type_size = (imports_hold (next (search rules) done) ((_, _, refl, refl), tt) (search rules), search rules);
  type_size_of_nothing = types_hold done (search rules);
  locals_and_parameters = (
    tree_holds (next (search rules) done) (_, _, refl, refl) tt tt tt (_, refl, function_is refl (search rules) (search rules) (record { expression = refl; typed = (tt, tt, tt) })) (search rules),
    search rules,
  );
  types = (types_hold (next (search rules) (next (search rules) done)) (search rules), search rules);
  empty_groups_count = (types_hold (next (search rules) (next (search rules) done)) (search rules), search rules);
  many_exports = (exporting_holds (search rules, (search rules, tt)) ((search rules, tt), (tt, tt)) (search rules), search rules);
  many_items = (procedure_with tt tt (record { mode = search rules; items = (search rules, (search rules, tt)); within = search rules }, tt) (search rules), search rules);
  many_segments = (data_holds tt tt (search rules, tt) (search rules), search rules);
  imports_count = (
    record {
      types = next (search rules) done;
      imports = ((_, _, refl, refl), tt);
      functions = ((_, _, refl, refl), tt);
      tables = tt;
      memories = tt;
      tags = tt;
      globals = tt;
      exports = tt;
      names = tt;
      start = tt;
      element_segments = tt;
      data_count = tt;
      code = ((_, refl, function_is refl tt (search rules) (record { expression = refl; typed = (tt, tt, tt) })), tt);
      data_segments = tt;
      limits = search rules;
    },
    search rules,
  );
}

pub context_worked : ContextWorked
unfolding opened types_from
context_worked = record {
  functions = refl;
  functions_differ = search rules;
  tables = refl;
  memories = refl;
  tags = refl;
  globals = refl;
  elements = refl;
  referenced = refl;
  exact = refl;
}
