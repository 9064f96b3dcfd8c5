-- A module with one section more is within the limits exactly where the section may begin, and each of its items is within them in turn.
use Rattle.std.proofs.Common.{◌≡◌, ◌⊎◌, ◌+◌, ◌≤◌, ℕ, true, List, [], ◌∷◌, ◌++◌, map, length, inr, ap, ◌∙◌, sym, arith}
use Rattle.std.proofs.lemmas.List.{map_push, append_assoc}
use Rattle.wasm_types.specs.settings.Settings.{Settings}
use Rattle.wasm_types.specs.trees.ValidGroup.{Written}
use Rattle.wasm_types.specs.externs.declared.memory.MemoryType.{MemoryType}
use Rattle.wasm_types.specs.externs.declared.tag.TagType.{TagType}
use Rattle.wasm_sections_items.specs.imports.Spells.{ImportTree, ExportTree}
use Rattle.wasm_sections_items.specs.segments.Spells.{GlobalTree, DataTree}
use Rattle.wasm_sections_items.specs.segments.Tables.{TableTree}
use Rattle.wasm_sections_items.specs.elements.Spells.{ElementTree}
use Rattle.wasm_operators_encoding.specs.expressions.Code.{Code}
use Rattle.wasm_module_validator_rules.specs.Syntax.{ModuleTree}
use Rattle.wasm_module_validator_rules.specs.Spaces.{types_behind, imported, function_of, table_of, memory_of, global_of, tag_of, function_with, function_space, table_space}
use Rattle.wasm_module_validator_rules.specs.Spaces.{memory_space, global_space, tag_space, module_of}
use Rattle.wasm_module_validator_rules.specs.Valid.{IsWithinLimits, import_size, export_size, type_sizes, most_tables, most_memories}
use Rattle.wasm_module_validator_rules_in_order.specs.contexts.InOrder.{no_items, functions_read, tables_read, memories_read, tags_read, globals_read, exports_read, elements_read, data_count_read}
use Rattle.wasm_module_validator_rules_in_order.specs.contexts.InOrder.{InTurn}
use Rattle.wasm_module_validator_rules_in_order.specs.contexts.laws.Lists.{turn_both}
use Rattle.wasm_module_validator_rules_in_order.specs.Sections as section
use Rattle.wasm_module_validator_rules_in_order.specs.Sections.{as_list}
use Rattle.wasm_module_validator_rules_in_order.specs.Adding.{IsWithinNext, Fits}
use Rattle.wasm_module_validator_rules_in_order.specs.laws.Turns.{turn_from, total_goes, total_comes, sums_go, sums_come}
use Rattle.wasm_module_validator_rules_in_order.specs.laws.Groups.{types_grow}
use Rattle.wasm_module_validator_rules_in_order.specs.laws.Counts.{functions_counted, tables_counted, globals_counted, tags_counted, own_counted, own_counted_so, counted_in_turn}

-- nothing is asked of items
turn_trivial : {A : Type 0} (b xs : List A) → InTurn (λ b x. Unit {0}) b xs
turn_trivial b [] = tt
turn_trivial b (x ∷ xs) = (tt, turn_trivial (b ++ x ∷ []) xs)

-- a module of groups alone
abbrev pub groups_read : List Written → ModuleTree
groups_read gs = record no_items { types = gs }

-- what stands before the data segments, and these
abbrev pub segments_read : ModuleTree → List (DataTree Code) → ModuleTree
segments_read k xs = record (data_count_read k) { data_segments = xs }

module _ (z : Settings) where
  abbrev pub IsWithin : ModuleTree → Type 0
  IsWithin m = IsWithinLimits z (module_of m) m

  -- ---- types

  abbrev GroupFits : List Written → Written → Type 0
  GroupFits b g = IsWithinNext z section.types (groups_read b) g

  pub types_go : (xs : List Written) → IsWithin (groups_read []) → Fits z section.types (groups_read []) (length xs) → InTurn GroupFits [] xs → IsWithin (groups_read xs)
  types_go xs w f h =
      let turns = turn_from GroupFits (λ b (g : Written). (length g.types ≡ 0) ⊎ (length (types_behind [] b) + length g.types ≤ z.limits.types)) (λ b g q. inr q.1) [] xs h in
      let none : length (types_behind [] []) ≤ z.limits.types = omega arith in
      let t = total_goes (λ b. length (types_behind [] b)) (λ (g : Written). length g.types) types_grow z.limits.types [] xs none turns in
      search (f, t, w)

  pub types_come : (xs : List Written) → IsWithin (groups_read xs) → Fits z section.types (groups_read []) (length xs) × InTurn GroupFits [] xs
  types_come xs w =
      let groups = counted_in_turn length 0 z.limits.types (λ l. omega arith) xs w.groups in
      let types = total_comes (λ b. length (types_behind [] b)) (λ (g : Written). length g.types) types_grow z.limits.types [] xs w.types in
      (w.groups, turn_both _ _ [] xs groups types)

  module _ (k : ModuleTree) where
    -- ---- functions, tables, memories, tags and globals

    functions_long : (xs : List ℕ) → length (function_space (functions_read k xs)) ≡ length (function_space (functions_read k [])) + length xs
    functions_long xs = own_counted (imported function_of k) (function_with true) xs

    pub functions_go : (xs : List ℕ) → IsWithin (functions_read k []) → Fits z section.functions (functions_read k []) (length xs) → IsWithin (functions_read k xs)
    functions_go xs w f =
        let e : length (module_of (functions_read k xs)).functions ≤ z.limits.functions = omega (arith, f, functions_counted (functions_read k xs), functions_long xs) in
        search (e, w)

    pub functions_come : (xs : List ℕ) → IsWithin (functions_read k xs)
        → Fits z section.functions (functions_read k []) (length xs) × InTurn (λ b x. IsWithinNext z section.functions (functions_read k b) x) [] xs
    functions_come xs w =
        let e : length (function_space (functions_read k xs)) ≤ z.limits.functions = omega (arith, w.functions, functions_counted (functions_read k xs)) in
        let f : length (function_space (functions_read k [])) + length xs ≤ z.limits.functions = omega (arith, e, functions_long xs) in
        (f, counted_in_turn (λ b. length (function_space (functions_read k b))) _ z.limits.functions functions_long xs e)

    tables_long : (xs : List (TableTree Code)) → length (table_space (tables_read k xs)) ≡ length (table_space (tables_read k [])) + length xs
    tables_long xs = own_counted (imported table_of k) (λ (t : TableTree Code). t.ty) xs

    pub tables_go : (xs : List (TableTree Code)) → IsWithin (tables_read k []) → Fits z section.tables (tables_read k []) (length xs) → IsWithin (tables_read k xs)
    tables_go xs w f =
        let e : length (module_of (tables_read k xs)).tables ≤ most_tables z = omega (arith, f, tables_counted (tables_read k xs), tables_long xs) in
        search (e, w)

    pub tables_come : (xs : List (TableTree Code)) → IsWithin (tables_read k xs)
        → Fits z section.tables (tables_read k []) (length xs) × InTurn (λ b x. IsWithinNext z section.tables (tables_read k b) x) [] xs
    tables_come xs w =
        let e : length (table_space (tables_read k xs)) ≤ most_tables z = omega (arith, w.tables, tables_counted (tables_read k xs)) in
        let f : length (table_space (tables_read k [])) + length xs ≤ most_tables z = omega (arith, e, tables_long xs) in
        (f, counted_in_turn (λ b. length (table_space (tables_read k b))) _ (most_tables z) tables_long xs e)

    memories_long : (xs : List MemoryType) → length (memory_space (memories_read k xs)) ≡ length (memory_space (memories_read k [])) + length xs
    memories_long xs = own_counted_so (imported memory_of k) xs

    pub memories_go : (xs : List MemoryType) → IsWithin (memories_read k []) → Fits z section.memories (memories_read k []) (length xs) → IsWithin (memories_read k xs)
    memories_go xs w f =
        let e : length (module_of (memories_read k xs)).memories ≤ most_memories z = omega (arith, f, memories_long xs) in
        search (e, w)

    pub memories_come : (xs : List MemoryType) → IsWithin (memories_read k xs)
        → Fits z section.memories (memories_read k []) (length xs) × InTurn (λ b x. IsWithinNext z section.memories (memories_read k b) x) [] xs
    memories_come xs w =
        let f : length (memory_space (memories_read k [])) + length xs ≤ most_memories z = omega (arith, w.memories, memories_long xs) in
        (f, counted_in_turn (λ b. length (memory_space (memories_read k b))) _ (most_memories z) memories_long xs w.memories)

    tags_long : (xs : List TagType) → length (tag_space (tags_read k xs)) ≡ length (tag_space (tags_read k [])) + length xs
    tags_long xs = own_counted_so (imported tag_of k) xs

    pub tags_go : (xs : List TagType) → IsWithin (tags_read k []) → Fits z section.tags (tags_read k []) (length xs) → IsWithin (tags_read k xs)
    tags_go xs w f =
        let e : length (module_of (tags_read k xs)).tags ≤ z.limits.tags = omega (arith, f, tags_counted (tags_read k xs), tags_long xs) in
        search (e, w)

    pub tags_come : (xs : List TagType) → IsWithin (tags_read k xs)
        → Fits z section.tags (tags_read k []) (length xs) × InTurn (λ b x. IsWithinNext z section.tags (tags_read k b) x) [] xs
    tags_come xs w =
        let e : length (tag_space (tags_read k xs)) ≤ z.limits.tags = omega (arith, w.tags, tags_counted (tags_read k xs)) in
        let f : length (tag_space (tags_read k [])) + length xs ≤ z.limits.tags = omega (arith, e, tags_long xs) in
        (f, counted_in_turn (λ b. length (tag_space (tags_read k b))) _ z.limits.tags tags_long xs e)

    globals_long : (xs : List (GlobalTree Code)) → length (global_space (globals_read k xs)) ≡ length (global_space (globals_read k [])) + length xs
    globals_long xs = own_counted (imported global_of k) (λ (x : GlobalTree Code). x.ty) xs

    pub globals_go : (xs : List (GlobalTree Code)) → IsWithin (globals_read k []) → Fits z section.globals (globals_read k []) (length xs) → IsWithin (globals_read k xs)
    globals_go xs w f =
        let e : length (module_of (globals_read k xs)).globals ≤ z.limits.globals = omega (arith, f, globals_counted (globals_read k xs), globals_long xs) in
        search (e, w)

    pub globals_come : (xs : List (GlobalTree Code)) → IsWithin (globals_read k xs)
        → Fits z section.globals (globals_read k []) (length xs) × InTurn (λ b x. IsWithinNext z section.globals (globals_read k b) x) [] xs
    globals_come xs w =
        let e : length (global_space (globals_read k xs)) ≤ z.limits.globals = omega (arith, w.globals, globals_counted (globals_read k xs)) in
        let f : length (global_space (globals_read k [])) + length xs ≤ z.limits.globals = omega (arith, e, globals_long xs) in
        (f, counted_in_turn (λ b. length (global_space (globals_read k b))) _ z.limits.globals globals_long xs e)

    -- ---- segments

    pub elements_go : (xs : List (ElementTree Code)) → IsWithin (elements_read k []) → Fits z section.element_segments (elements_read k []) (length xs) → IsWithin (elements_read k xs)
    elements_go xs w f = search (f, w)

    pub elements_come : (xs : List (ElementTree Code)) → IsWithin (elements_read k xs)
        → Fits z section.element_segments (elements_read k []) (length xs) × InTurn (λ b x. IsWithinNext z section.element_segments (elements_read k b) x) [] xs
    elements_come xs w = (w.element_segments, counted_in_turn length 0 z.limits.element_segments (λ l. omega arith) xs w.element_segments)

    pub segments_go : (xs : List (DataTree Code)) → IsWithin (segments_read k []) → Fits z section.data_segments (segments_read k []) (length xs) → IsWithin (segments_read k xs)
    segments_go xs w f = search (f, w)

    pub segments_come : (xs : List (DataTree Code)) → IsWithin (segments_read k xs)
        → Fits z section.data_segments (segments_read k []) (length xs) × InTurn (λ b x. IsWithinNext z section.data_segments (segments_read k b) x) [] xs
    segments_come xs w = (w.data_segments, turn_trivial [] xs)

    -- ---- exports

    abbrev size_of_export : ExportTree → ℕ
    size_of_export e = export_size (module_of (exports_read k [])) e.kind e.index

    export_sizes : (b : List ExportTree) (x : ExportTree)
        → type_sizes (module_of (exports_read k (b ++ x ∷ []))) (exports_read k (b ++ x ∷ [])) ≡ type_sizes (module_of (exports_read k b)) (exports_read k b) ++ size_of_export x ∷ []
    export_sizes b x = ap (λ ns. map (λ (i : ImportTree). import_size (module_of (exports_read k [])) i.ty) k.imports ++ ns) (map_push size_of_export b x)
        ∙ sym (append_assoc (map (λ (i : ImportTree). import_size (module_of (exports_read k [])) i.ty) k.imports) (map size_of_export b) (size_of_export x ∷ []))

    abbrev ExportFits : List ExportTree → ExportTree → Type 0
    ExportFits b x = IsWithinNext z section.exports (exports_read k b) x

    pub exports_go : (xs : List ExportTree) → IsWithin (exports_read k []) → Fits z section.exports (exports_read k []) (length xs) → InTurn ExportFits [] xs → IsWithin (exports_read k xs)
    exports_go xs w f h =
        let s = sums_go (λ b. type_sizes (module_of (exports_read k b)) (exports_read k b)) size_of_export export_sizes z.limits.type_size 1 [] xs w.sizes h in
        search (f, s, w)

    pub exports_come : (xs : List ExportTree) → IsWithin (exports_read k xs) → Fits z section.exports (exports_read k []) (length xs) × InTurn ExportFits [] xs
    exports_come xs w = (w.exports, sums_come (λ b. type_sizes (module_of (exports_read k b)) (exports_read k b)) size_of_export export_sizes z.limits.type_size 1 [] xs w.sizes)
