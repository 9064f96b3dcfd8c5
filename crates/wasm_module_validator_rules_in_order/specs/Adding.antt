-- What one item more asks for, and what is tested where a section begins (WebAssembly 3.0, validation, modules; appendix, implementation
-- limitations). An item is judged where it stands: in the context of what was read before it, in which a constant may refer to each
-- function.
use Rattle.std.specs.Prelude.{◌≡◌, ◌+◌, ◌<◌, ◌≤◌, ℕ, List, [], ◌∷◌, length, None}
use Rattle.wasm_types.specs.settings.Settings.{Settings}
use Rattle.wasm_types.specs.settings.Features.{BulkMemory}
use Rattle.wasm_types.specs.trees.Gates.{Has}
use Rattle.wasm_types.specs.trees.ValidGroup.{AreValidGroups, IsValidGroup}
use Rattle.wasm_sections_items.specs.imports.Spells.{ExportTree}
use Rattle.wasm_sections_items.specs.declared.imports.type_ref.TypeRef.{TypeRef}
use Rattle.wasm_sections_items.specs.declared.imports.type_ref.TypeRef.TheVariants as import
use Rattle.wasm_module_validator_rules.specs.Syntax.{ModuleTree}
use Rattle.wasm_module_validator_rules.specs.Spaces.{types_behind, function_space, table_space, memory_space, tag_space, global_space, imported_globals, module_of}
use Rattle.wasm_module_validator_rules.specs.Valid.{Each, IfThere, IsFunctionIndex, IsValidMemoryType, IsValidTagType, IsValidImport, IsValidExport, IsValidTable}
use Rattle.wasm_module_validator_rules.specs.Valid.{IsValidGlobal, IsValidStart, IsValidElement, IsValidData, import_size, export_size, type_sizes, most_tables, most_memories, IsWithinLimits}
use Rattle.wasm_module_validator_rules_in_order.specs.contexts.InOrder.{context_so_far, exports_read, InTurn, IsImportInTurn, IsFunctionInTurn, IsTableInTurn, IsTagInTurn, IsGlobalInTurn}
use Rattle.wasm_module_validator_rules_in_order.specs.contexts.InOrder.{IsExportInTurn, IsElementInTurn, IsDataInTurn}
use Rattle.wasm_module_validator_rules_in_order.specs.Sections.{Section, Item, items, adding, IsWithSection}
use Rattle.wasm_module_validator_rules_in_order.specs.Sections as section

-- ---- valid items

-- the next item of a section is valid behind what was read (validation, modules)
abbrev pub IsValidNext : Settings → (s : Section) → ModuleTree → Item s → Type 0
IsValidNext z section.types m g = IsValidGroup z (types_behind [] m.types) g
IsValidNext z section.imports m i = IsValidImport z (context_so_far m) i.ty
IsValidNext z section.functions m x = IsFunctionIndex (context_so_far m) x
IsValidNext z section.tables m t = IsValidTable z (context_so_far m) (imported_globals m) t
IsValidNext z section.memories m t = IsValidMemoryType z t
IsValidNext z section.tags m t = IsValidTagType z (context_so_far m) t
IsValidNext z section.globals m x = IsValidGlobal z (context_so_far m) (imported_globals m) (length (context_so_far m).globals) x
IsValidNext z section.exports m e = IsValidExport z (context_so_far m) e.kind e.index × Each (λ (f : ExportTree). f.name ≡ e.name → ⊥) m.exports
IsValidNext z section.start m x = IsValidStart (context_so_far m) x
IsValidNext z section.element_segments m x = IsValidElement z (context_so_far m) (imported_globals m) x
IsValidNext z section.data_count m n = Has z.features BulkMemory
IsValidNext z section.data_segments m x = IsValidData z (context_so_far m) (imported_globals m) x.mode

-- a whole section is valid: each item behind those before it (validation, modules)
abbrev pub IsValidSection : Settings → Section → ModuleTree → Type 0
IsValidSection z section.types m = AreValidGroups z [] m.types (types_behind [] m.types)
IsValidSection z section.imports m = InTurn (IsImportInTurn z m) [] m.imports
IsValidSection z section.functions m = InTurn (IsFunctionInTurn z m) [] m.functions
IsValidSection z section.tables m = InTurn (IsTableInTurn z m) [] m.tables
IsValidSection z section.memories m = Each (IsValidMemoryType z) m.memories
IsValidSection z section.tags m = InTurn (IsTagInTurn z m) [] m.tags
IsValidSection z section.globals m = InTurn (IsGlobalInTurn z m) [] m.globals
IsValidSection z section.exports m = InTurn (IsExportInTurn z m) [] m.exports
IsValidSection z section.start m = IfThere (IsValidStart (context_so_far (exports_read m m.exports))) m.start
IsValidSection z section.element_segments m = InTurn (IsElementInTurn z m) [] m.element_segments
IsValidSection z section.data_count m = IfThere (λ n. Has z.features BulkMemory) m.data_count
IsValidSection z section.data_segments m = InTurn (IsDataInTurn z m) [] m.data_segments

-- ---- limits (appendix, implementation limitations)

-- a sum, with these added
abbrev pub sum_from : ℕ → List ℕ → ℕ
sum_from sum [] = sum
sum_from sum (n ∷ ns) = sum_from (sum + n) ns

-- the size of the types of imports and exports so far, which begins at 1
abbrev pub size_so_far : ModuleTree → ℕ
size_so_far m = sum_from 1 (type_sizes (module_of m) m)

-- there are fewer of what is imported than the limit
abbrev pub HasRoomIn : Settings → ModuleTree → TypeRef → Type 0
HasRoomIn z m (import.Func x) = length (function_space m) < z.limits.functions
HasRoomIn z m (import.FuncExact x) = length (function_space m) < z.limits.functions
HasRoomIn z m (import.Table t) = length (table_space m) < most_tables z
HasRoomIn z m (import.Memory t) = length (memory_space m) < most_memories z
HasRoomIn z m (import.Global t) = length (global_space m) < z.limits.globals
HasRoomIn z m (import.Tag t) = length (tag_space m) < z.limits.tags

-- with the next item of a section what was read is still within the limits; of a start function and of a data count there is one
abbrev pub IsWithinNext : Settings → (s : Section) → ModuleTree → Item s → Type 0
IsWithinNext z section.types m g = (length m.types < z.limits.types) × (length (types_behind [] m.types) + length g.types ≤ z.limits.types)
IsWithinNext z section.imports m i = HasRoomIn z m i.ty × (size_so_far m + import_size (context_so_far m) i.ty < z.limits.type_size)
IsWithinNext z section.functions m x = length (function_space m) < z.limits.functions
IsWithinNext z section.tables m t = length (table_space m) < most_tables z
IsWithinNext z section.memories m t = length (memory_space m) < most_memories z
IsWithinNext z section.tags m t = length (tag_space m) < z.limits.tags
IsWithinNext z section.globals m x = length (global_space m) < z.limits.globals
IsWithinNext z section.exports m e = size_so_far m + export_size (context_so_far m) e.kind e.index < z.limits.type_size
IsWithinNext z section.start m x = m.start ≡ None
IsWithinNext z section.element_segments m x = length m.element_segments < z.limits.element_segments
IsWithinNext z section.data_count m n = (m.data_count ≡ None) × (n ≤ z.limits.data_segments)
IsWithinNext z section.data_segments m x = Unit {0}

-- where a section of so many items begins, there may be as many more
abbrev pub Fits : Settings → Section → ModuleTree → ℕ → Type 0
Fits z section.types m n = n ≤ z.limits.types
Fits z section.imports m n = n ≤ z.limits.imports
Fits z section.functions m n = length (function_space m) + n ≤ z.limits.functions
Fits z section.tables m n = length (table_space m) + n ≤ most_tables z
Fits z section.memories m n = length (memory_space m) + n ≤ most_memories z
Fits z section.tags m n = length (tag_space m) + n ≤ z.limits.tags
Fits z section.globals m n = length (global_space m) + n ≤ z.limits.globals
Fits z section.exports m n = n ≤ z.limits.exports
Fits z section.start m n = Unit {0}
Fits z section.element_segments m n = n ≤ z.limits.element_segments
Fits z section.data_count m n = Unit {0}
Fits z section.data_segments m n = n ≤ z.limits.data_segments

-- ---- items that are added

-- n is m with this item more, which is valid behind it, and within the limits
pub record Adds (z : Settings) (s : Section) (m : ModuleTree) (x : Item s) (n : ModuleTree) : Type 0 where
  pub valid : IsValidNext z s m x
  pub within : IsWithinNext z s m x
  pub added : n ≡ adding s m x

-- items are added one after the other
abbrev pub AddsEach : {M A : Type 0} → (M → A → M → Type 0) → M → List A → M → Type 0
AddsEach adds m [] n = m ≡ n
AddsEach adds m (x ∷ xs) n = (k : _) × adds m x k × AddsEach adds k xs n

-- n is m with a section of these items more, which is valid; and n is within the limits
pub record IsWithItems (z : Settings) (s : Section) (m : ModuleTree) (xs : List (Item s)) (n : ModuleTree) : Type 0 where
  pub added : IsWithSection s m n
  pub holds : items s n ≡ xs
  pub valid : IsValidSection z s n
  pub within : IsWithinLimits z (module_of n) n
