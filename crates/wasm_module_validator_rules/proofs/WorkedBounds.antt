-- The bounds of tables and memories, and sizes.
use Rattle.std.proofs.Common.{refl, rules, inl}
use Rattle.wasm_types.specs.settings.Features.{has}
use Rattle.wasm_types.specs.trees.Trees.{opened}
use Rattle.wasm_types.specs.trees.ValidGroup.{types_from, done, next}
use Rattle.wasm_types.specs.settings.Limits.{default_limits}
use Rattle.wasm_module_validator_rules.specs.worked.Bounds.{BoundsWorked, SizesWorked}
use Rattle.wasm_module_validator_rules.proofs.WorkedParts.{tables_hold, memories_hold, imports_hold, items_hold, exporting_holds, number_global, null_functions}

pub bounds_worked : BoundsWorked
unfolding has opened types_from default_limits
bounds_worked = record {
  table_largest = tables_hold ((record { element = inl refl; limits = search rules; wide = search rules; shared = search rules }, refl), tt) (search rules);
  table_too_large = search rules;
  table_to_largest = tables_hold ((record { element = inl refl; limits = search rules; wide = search rules; shared = search rules }, refl), tt) (search rules);
  table_to_too_large = search rules;
  table_of_one_size = tables_hold ((record { element = inl refl; limits = search rules; wide = search rules; shared = search rules }, refl), tt) (search rules);
  wide_table_largest = tables_hold ((record { element = inl refl; limits = search rules; wide = search rules; shared = search rules }, refl), tt) (search rules);
  wide_table_too_large = search rules;
  wide_table_to_too_large = search rules;
  memory_to_largest = memories_hold (search rules, tt) (search rules);
  memory_to_too_large = search rules;
  wide_largest = memories_hold (search rules, tt) (search rules);
  wide_too_large = search rules;
  second_too_large = search rules;
  bytes_too_many = search rules;
  bytes_to_largest = memories_hold (search rules, tt) (search rules);
  bytes_to_too_many = search rules;
  wide_bytes = memories_hold (search rules, tt) (search rules);
  wide_bytes_too_many = search rules;
  pages = memories_hold (search rules, tt) (search rules);
  pages_too_many = search rules;
  pages_of_double_size = search rules;
}

pub sizes_worked : SizesWorked
unfolding has opened types_from default_limits
sizes_worked = record {
  imported_table = (imports_hold done (record { element = inl refl; limits = search rules; wide = search rules; shared = search rules }, tt) (search rules), search rules);
  imported_memory = (imports_hold done (search rules, tt) (search rules), search rules);
  imported_global = (imports_hold done ((number_global _ _, search rules), tt) (search rules), search rules);
  imported_tag = (imports_hold (next (search rules) done) (record { exceptions = search rules; type = _; signature = _; named = refl; function = refl; results = inl refl }, tt) (search rules), search rules);
  imported_exactly = (imports_hold (next (search rules) done) ((search rules, (_, _, refl, refl)), tt) (search rules), search rules);
  imported_both = (imports_hold (next (search rules) done) ((_, _, refl, refl), (search rules, tt)) (search rules), search rules);
  exported_table = (items_hold done tt (null_functions _ _ 1 (search rules), tt) tt tt tt (search rules, tt) (tt, tt) (search rules), search rules);
  exported_memory = (items_hold done tt tt (search rules, tt) tt tt (search rules, tt) (tt, tt) (search rules), search rules);
  exported_tag = (items_hold (next (search rules) done) tt tt tt (record { exceptions = search rules; type = _; signature = _; named = refl; function = refl; results = inl refl }, tt) tt (search rules, tt) (tt, tt) (search rules), search rules);
  exported_function = (exporting_holds (search rules, tt) (tt, tt) (search rules), search rules);
  exported_exactly = (exporting_holds (search rules, tt) (tt, tt) (search rules), search rules);
  passed_on = (items_hold done ((number_global _ _, search rules), tt) tt tt tt tt ((_, refl, search rules), tt) (tt, tt) (search rules), search rules);
}
