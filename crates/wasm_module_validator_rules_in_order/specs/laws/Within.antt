-- The limits hold of each front of a module that is within them.
use Rattle.std.proofs.Common.{◌≤◌, ℕ, [], map, length, sym, subst, arith}
use Rattle.std.proofs.lemmas.List.{append-nil}
use Rattle.wasm_types.specs.settings.Settings.{Settings}
use Rattle.wasm_sections_items.specs.imports.Spells.{ImportTree, ExportTree}
use Rattle.wasm_module_validator_rules.specs.Syntax.{ModuleTree}
use Rattle.wasm_module_validator_rules.specs.Spaces.{module_of}
use Rattle.wasm_module_validator_rules.specs.Valid.{SumsBelow, import_size, export_size, most_tables, most_memories}
use Rattle.wasm_module_validator_rules_in_order.specs.contexts.InOrder.{no_items, functions_read, tables_read, memories_read, tags_read, globals_read, exports_read}
use Rattle.wasm_module_validator_rules_in_order.specs.Sections.{Section, before, up_to}
use Rattle.wasm_module_validator_rules_in_order.specs.Sections as section
use Rattle.wasm_module_validator_rules_in_order.specs.laws.Turns.{sums_first}
use Rattle.wasm_module_validator_rules_in_order.specs.laws.Counts.{functions_counted, tables_counted, globals_counted, tags_counted}
use Rattle.wasm_module_validator_rules_in_order.specs.laws.Limits.{IsWithin, functions_come, tables_come, memories_come, tags_come, globals_come}

none_below : (n : ℕ) → 0 ≤ n
none_below n = omega arith

module _ (z : Settings) where
  -- nothing is within any limits
  pub nothing_is_within : IsWithin z no_items
  nothing_is_within = record {
    groups = none_below z.limits.types;
    types = none_below z.limits.types;
    imports = none_below z.limits.imports;
    functions = none_below z.limits.functions;
    tables = none_below (most_tables z);
    memories = none_below (most_memories z);
    tags = none_below z.limits.tags;
    globals = none_below z.limits.globals;
    exports = none_below z.limits.exports;
    element_segments = none_below z.limits.element_segments;
    data_segments = none_below z.limits.data_segments;
    data_count = tt;
    sizes = tt;
  }

  module _ (m : ModuleTree) where
    without_segments : IsWithin z (up_to section.data_segments m) → IsWithin z (before section.data_segments m)
    without_segments w = let e = none_below z.limits.data_segments in search (e, w)

    without_count : IsWithin z (up_to section.data_count m) → IsWithin z (before section.data_count m)
    without_count w = search (w)

    without_elements : IsWithin z (up_to section.element_segments m) → IsWithin z (before section.element_segments m)
    without_elements w = let e = none_below z.limits.element_segments in search (e, w)

    without_start : IsWithin z (up_to section.start m) → IsWithin z (before section.start m)
    without_start w = search (w)

    without_exports : IsWithin z (up_to section.exports m) → IsWithin z (before section.exports m)
    without_exports w =
        let e = none_below z.limits.exports in
        let g = module_of (exports_read m []) in
        let sizes = map (λ (i : ImportTree). import_size g i.ty) m.imports in
        let first = sums_first z.limits.type_size 1 sizes (map (λ (x : ExportTree). export_size g x.kind x.index) m.exports) w.sizes in
        let s = subst (SumsBelow z.limits.type_size 1) (sym (append-nil sizes)) first in
        search (e, s, w)

    without_globals : IsWithin z (up_to section.globals m) → IsWithin z (before section.globals m)
    without_globals w =
        let f = (globals_come z m m.globals w).0 in
        let e : length (module_of (globals_read m [])).globals ≤ z.limits.globals = omega (arith, f, globals_counted (globals_read m [])) in
        search (e, w)

    without_tags : IsWithin z (up_to section.tags m) → IsWithin z (before section.tags m)
    without_tags w =
        let f = (tags_come z m m.tags w).0 in
        let e : length (module_of (tags_read m [])).tags ≤ z.limits.tags = omega (arith, f, tags_counted (tags_read m [])) in
        search (e, w)

    without_memories : IsWithin z (up_to section.memories m) → IsWithin z (before section.memories m)
    without_memories w =
        let f = (memories_come z m m.memories w).0 in
        let e : length (module_of (memories_read m [])).memories ≤ most_memories z = omega (arith, f) in
        search (e, w)

    without_tables : IsWithin z (up_to section.tables m) → IsWithin z (before section.tables m)
    without_tables w =
        let f = (tables_come z m m.tables w).0 in
        let e : length (module_of (tables_read m [])).tables ≤ most_tables z = omega (arith, f, tables_counted (tables_read m [])) in
        search (e, w)

    without_functions : IsWithin z (up_to section.functions m) → IsWithin z (before section.functions m)
    without_functions w =
        let f = (functions_come z m m.functions w).0 in
        let e : length (module_of (functions_read m [])).functions ≤ z.limits.functions = omega (arith, f, functions_counted (functions_read m [])) in
        search (e, w)

    without_imports : IsWithin z (up_to section.imports m) → IsWithin z (before section.imports m)
    without_imports w = record {
      groups = w.groups;
      types = w.types;
      imports = none_below z.limits.imports;
      functions = none_below z.limits.functions;
      tables = none_below (most_tables z);
      memories = none_below (most_memories z);
      tags = none_below z.limits.tags;
      globals = none_below z.limits.globals;
      exports = w.exports;
      element_segments = w.element_segments;
      data_segments = w.data_segments;
      data_count = w.data_count;
      sizes = tt;
    }

    -- one section less after the other
    module _ (w : IsWithin z m) where
      all_but_code : IsWithin z (up_to section.data_segments m)
      all_but_code = search (w)

      to_count : IsWithin z (up_to section.data_count m)
      to_count = without_segments all_but_code

      to_elements : IsWithin z (up_to section.element_segments m)
      to_elements = without_count to_count

      to_start : IsWithin z (up_to section.start m)
      to_start = without_elements to_elements

      to_exports : IsWithin z (up_to section.exports m)
      to_exports = without_start to_start

      to_globals : IsWithin z (up_to section.globals m)
      to_globals = without_exports to_exports

      to_tags : IsWithin z (up_to section.tags m)
      to_tags = without_globals to_globals

      to_memories : IsWithin z (up_to section.memories m)
      to_memories = without_tags to_tags

      to_tables : IsWithin z (up_to section.tables m)
      to_tables = without_memories to_memories

      to_functions : IsWithin z (up_to section.functions m)
      to_functions = without_tables to_tables

      to_imports : IsWithin z (up_to section.imports m)
      to_imports = without_functions to_functions

      to_types : IsWithin z (up_to section.types m)
      to_types = without_imports to_imports

  pub within_up_to : (s : Section) (m : ModuleTree) → IsWithin z m → IsWithin z (up_to s m)
  within_up_to section.types m w = to_types m w
  within_up_to section.imports m w = to_imports m w
  within_up_to section.functions m w = to_functions m w
  within_up_to section.tables m w = to_tables m w
  within_up_to section.memories m w = to_memories m w
  within_up_to section.tags m w = to_tags m w
  within_up_to section.globals m w = to_globals m w
  within_up_to section.exports m w = to_exports m w
  within_up_to section.start m w = to_start m w
  within_up_to section.element_segments m w = to_elements m w
  within_up_to section.data_count m w = to_count m w
  within_up_to section.data_segments m w = all_but_code m w

  pub within_before : (s : Section) (m : ModuleTree) → IsWithin z m → IsWithin z (before s m)
  within_before section.types m w = nothing_is_within
  within_before section.imports m w = to_types m w
  within_before section.functions m w = to_imports m w
  within_before section.tables m w = to_functions m w
  within_before section.memories m w = to_tables m w
  within_before section.tags m w = to_memories m w
  within_before section.globals m w = to_tags m w
  within_before section.exports m w = to_globals m w
  within_before section.start m w = to_exports m w
  within_before section.element_segments m w = to_start m w
  within_before section.data_count m w = to_elements m w
  within_before section.data_segments m w = to_count m w
