-- Imports within the limits: of each kind, and of the sizes of their types.
use Rattle.std.proofs.Common.{◌≡◌, ◌⊎◌, ◌+◌, ◌<◌, ◌≤◌, ℕ, List, [], ◌∷◌, ◌++◌, map, length, Option, inl, inr, refl, ap, ◌∙◌, sym, arith}
use Rattle.std.proofs.lemmas.List.{map_push, append-nil}
use Rattle.wasm_types.specs.settings.Settings.{Settings}
use Rattle.wasm_sections_items.specs.declared.imports.type_ref.TypeRef.{TypeRef}
use Rattle.wasm_sections_items.specs.declared.imports.type_ref.TypeRef.TheVariants as import
use Rattle.wasm_sections_items.specs.imports.Spells.{ImportTree}
use Rattle.wasm_module_validator_rules.specs.Syntax.{ModuleTree}
use Rattle.wasm_module_validator_rules.specs.Spaces.{function_of, table_of, memory_of, global_of, tag_of, function_space, table_space, memory_space, global_space, tag_space}
use Rattle.wasm_module_validator_rules.specs.Spaces.{module_of}
use Rattle.wasm_module_validator_rules.specs.Valid.{import_size, type_sizes, most_tables, most_memories}
use Rattle.wasm_module_validator_rules_in_order.specs.contexts.InOrder.{imports_read, InTurn}
use Rattle.wasm_module_validator_rules_in_order.specs.contexts.laws.Lists.{turn_both}
use Rattle.wasm_module_validator_rules_in_order.specs.Sections as section
use Rattle.wasm_module_validator_rules_in_order.specs.Sections.{as_list}
use Rattle.wasm_module_validator_rules_in_order.specs.Adding.{HasRoomIn, IsWithinNext, Fits, sum_from}
use Rattle.wasm_module_validator_rules_in_order.specs.laws.Turns.{turn_from, total_goes, total_comes, sums_go, sums_come}
use Rattle.wasm_module_validator_rules_in_order.specs.laws.Counts.{functions_counted, tables_counted, globals_counted, tags_counted, kind_counted}
use Rattle.wasm_module_validator_rules_in_order.specs.laws.Limits.{IsWithin}

-- one more of a kind, or none
abbrev one_of : {A : Type 0} → (TypeRef → Option A) → TypeRef → ℕ
one_of f t = length (as_list (f t))

module _ (z : Settings) (m : ModuleTree) where
  -- an import is of another kind, or there is room for it
  abbrev FitsKind : {A : Type 0} → (TypeRef → Option A) → ℕ → ℕ → TypeRef → Type 0
  FitsKind f have limit t = (one_of f t ≡ 0) ⊎ (have + one_of f t ≤ limit)

  room_of_function : (t : TypeRef) → HasRoomIn z m t → FitsKind function_of (length (function_space m)) z.limits.functions t
  room_of_function (import.Func x) h = inr (omega (arith, h))
  room_of_function (import.FuncExact x) h = inr (omega (arith, h))
  room_of_function t h = inl refl

  room_of_table : (t : TypeRef) → HasRoomIn z m t → FitsKind table_of (length (table_space m)) (most_tables z) t
  room_of_table (import.Table x) h = inr (omega (arith, h))
  room_of_table t h = inl refl

  room_of_memory : (t : TypeRef) → HasRoomIn z m t → FitsKind memory_of (length (memory_space m)) (most_memories z) t
  room_of_memory (import.Memory x) h = inr (omega (arith, h))
  room_of_memory t h = inl refl

  room_of_global : (t : TypeRef) → HasRoomIn z m t → FitsKind global_of (length (global_space m)) z.limits.globals t
  room_of_global (import.Global x) h = inr (omega (arith, h))
  room_of_global t h = inl refl

  room_of_tag : (t : TypeRef) → HasRoomIn z m t → FitsKind tag_of (length (tag_space m)) z.limits.tags t
  room_of_tag (import.Tag x) h = inr (omega (arith, h))
  room_of_tag t h = inl refl

  -- there is room for it in each space
  record FitsEach (t : TypeRef) : Type 0 where
    functions : length (function_space m) + one_of function_of t ≤ z.limits.functions
    tables : length (table_space m) + one_of table_of t ≤ most_tables z
    memories : length (memory_space m) + one_of memory_of t ≤ most_memories z
    globals : length (global_space m) + one_of global_of t ≤ z.limits.globals
    tags : length (tag_space m) + one_of tag_of t ≤ z.limits.tags

  room_of_each : (t : TypeRef) → FitsEach t → HasRoomIn z m t
  room_of_each (import.Func x) h = omega (arith, h.functions)
  room_of_each (import.FuncExact x) h = omega (arith, h.functions)
  room_of_each (import.Table x) h = omega (arith, h.tables)
  room_of_each (import.Memory x) h = omega (arith, h.memories)
  room_of_each (import.Global x) h = omega (arith, h.globals)
  room_of_each (import.Tag x) h = omega (arith, h.tags)

module _ (z : Settings) (k : ModuleTree) where
  abbrev size_of : ImportTree → ℕ
  size_of i = import_size (module_of (imports_read k [])) i.ty

  abbrev sizes : List ImportTree → List ℕ
  sizes b = type_sizes (module_of (imports_read k b)) (imports_read k b)

  sizes_grow : (b : List ImportTree) (x : ImportTree) → sizes (b ++ x ∷ []) ≡ sizes b ++ size_of x ∷ []
  sizes_grow b x = append-nil (map size_of (b ++ x ∷ [])) ∙ (map_push size_of b x ∙ ap (λ ns. ns ++ size_of x ∷ []) (sym (append-nil (map size_of b))))

  abbrev ImportFits : List ImportTree → ImportTree → Type 0
  ImportFits b i = IsWithinNext z section.imports (imports_read k b) i

  -- how many there are of a kind, where so many were read
  abbrev functions_in : List ImportTree → ℕ
  functions_in b = length (function_space (imports_read k b))

  abbrev tables_in : List ImportTree → ℕ
  tables_in b = length (table_space (imports_read k b))

  abbrev memories_in : List ImportTree → ℕ
  memories_in b = length (memory_space (imports_read k b))

  abbrev globals_in : List ImportTree → ℕ
  globals_in b = length (global_space (imports_read k b))

  abbrev tags_in : List ImportTree → ℕ
  tags_in b = length (tag_space (imports_read k b))

  module _ {A : Type 0} (f : TypeRef → Option A) (have : List ImportTree → ℕ)
      (step : (b : List ImportTree) (x : ImportTree) → have (b ++ x ∷ []) ≡ have b + one_of f x.ty) (limit : ℕ) (none : have [] ≤ limit)
      (room : (b : List ImportTree) (x : ImportTree) → ImportFits b x → FitsKind z (imports_read k b) f (have b) limit x.ty) where
    kind_goes : (xs : List ImportTree) → InTurn ImportFits [] xs → have xs ≤ limit
    kind_goes xs h = total_goes have (λ (x : ImportTree). one_of f x.ty) step limit [] xs none
        (turn_from ImportFits (λ b (x : ImportTree). FitsKind z (imports_read k b) f (have b) limit x.ty) room [] xs h)

  functions_step : (b : List ImportTree) (x : ImportTree) → functions_in (b ++ x ∷ []) ≡ functions_in b + one_of function_of x.ty
  functions_step b x = kind_counted (λ (i : ImportTree). function_of i.ty) b x

  tables_step : (b : List ImportTree) (x : ImportTree) → tables_in (b ++ x ∷ []) ≡ tables_in b + one_of table_of x.ty
  tables_step b x = kind_counted (λ (i : ImportTree). table_of i.ty) b x

  memories_step : (b : List ImportTree) (x : ImportTree) → memories_in (b ++ x ∷ []) ≡ memories_in b + one_of memory_of x.ty
  memories_step b x = kind_counted (λ (i : ImportTree). memory_of i.ty) b x

  globals_step : (b : List ImportTree) (x : ImportTree) → globals_in (b ++ x ∷ []) ≡ globals_in b + one_of global_of x.ty
  globals_step b x = kind_counted (λ (i : ImportTree). global_of i.ty) b x

  tags_step : (b : List ImportTree) (x : ImportTree) → tags_in (b ++ x ∷ []) ≡ tags_in b + one_of tag_of x.ty
  tags_step b x = kind_counted (λ (i : ImportTree). tag_of i.ty) b x

  pub imports_go : (xs : List ImportTree) → IsWithin z (imports_read k []) → Fits z section.imports (imports_read k []) (length xs) → InTurn ImportFits [] xs → IsWithin z (imports_read k xs)
  imports_go xs w f h =
      let s = sums_go sizes size_of sizes_grow z.limits.type_size 1 [] xs w.sizes (turn_from ImportFits (λ b x. sum_from 1 (sizes b) + size_of x < z.limits.type_size) (λ b x q. q.1) [] xs h) in
      let functions = kind_goes function_of functions_in functions_step z.limits.functions (omega arith) (λ b x q. room_of_function z (imports_read k b) x.ty q.0) xs h in
      let tables = kind_goes table_of tables_in tables_step (most_tables z) (omega arith) (λ b x q. room_of_table z (imports_read k b) x.ty q.0) xs h in
      let memories = kind_goes memory_of memories_in memories_step (most_memories z) (omega arith) (λ b x q. room_of_memory z (imports_read k b) x.ty q.0) xs h in
      let globals = kind_goes global_of globals_in globals_step z.limits.globals (omega arith) (λ b x q. room_of_global z (imports_read k b) x.ty q.0) xs h in
      let tags = kind_goes tag_of tags_in tags_step z.limits.tags (omega arith) (λ b x q. room_of_tag z (imports_read k b) x.ty q.0) xs h in
      record {
        groups = w.groups;
        types = w.types;
        imports = f;
        functions = omega (arith, functions, functions_counted (imports_read k xs));
        tables = omega (arith, tables, tables_counted (imports_read k xs));
        memories = memories;
        tags = omega (arith, tags, tags_counted (imports_read k xs));
        globals = omega (arith, globals, globals_counted (imports_read k xs));
        exports = w.exports;
        element_segments = w.element_segments;
        data_segments = w.data_segments;
        data_count = w.data_count;
        sizes = s;
      }

  pub imports_come : (xs : List ImportTree) → IsWithin z (imports_read k xs) → Fits z section.imports (imports_read k []) (length xs) × InTurn ImportFits [] xs
  imports_come xs w =
      let many : functions_in xs ≤ z.limits.functions = omega (arith, w.functions, functions_counted (imports_read k xs)) in
      let functions = total_comes functions_in (λ (x : ImportTree). one_of function_of x.ty) functions_step z.limits.functions [] xs many in
      let tables = total_comes tables_in (λ (x : ImportTree). one_of table_of x.ty) tables_step (most_tables z) [] xs (omega (arith, w.tables, tables_counted (imports_read k xs))) in
      let memories = total_comes memories_in (λ (x : ImportTree). one_of memory_of x.ty) memories_step (most_memories z) [] xs w.memories in
      let globals = total_comes globals_in (λ (x : ImportTree). one_of global_of x.ty) globals_step z.limits.globals [] xs (omega (arith, w.globals, globals_counted (imports_read k xs))) in
      let tags = total_comes tags_in (λ (x : ImportTree). one_of tag_of x.ty) tags_step z.limits.tags [] xs (omega (arith, w.tags, tags_counted (imports_read k xs))) in
      let all = turn_both _ _ [] xs functions (turn_both _ _ [] xs tables (turn_both _ _ [] xs memories (turn_both _ _ [] xs globals tags))) in
      let room = turn_from _ (λ b (x : ImportTree). HasRoomIn z (imports_read k b) x.ty)
      (λ b x q. room_of_each z (imports_read k b) x.ty (record { functions = q.0; tables = q.1.0; memories = q.1.1.0; globals = q.1.1.1.0; tags = q.1.1.1.1 })) [] xs all in
      (w.imports, turn_both _ _ [] xs room (sums_come sizes size_of sizes_grow z.limits.type_size 1 [] xs w.sizes))
