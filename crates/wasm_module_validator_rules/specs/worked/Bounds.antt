-- The bounds of tables and memories, and the sum of the sizes of what crosses a module's border.
use Rattle.std.specs.Prelude.{ℕ, suc, [], ◌∷◌, Some, None}
use Rattle.wasm_types.specs.settings.Limits.{default_limits}
use Rattle.wasm_types.specs.values.declared.value.ValType.TheVariants as value
use Rattle.wasm_types.specs.externs.declared.memory.MemoryType.{MemoryType}
use Rattle.wasm_sections_items.specs.declared.imports.kind.ExternalKind.TheVariants as kind
use Rattle.wasm_sections_items.specs.declared.imports.type_ref.TypeRef.TheVariants as import
use Rattle.wasm_module_validator_rules.specs.Syntax.{ModuleTree}
use Rattle.wasm_module_validator_rules.specs.worked.Trees.{Yes, No, takes_i32, funcref, table_with, wide_table, memory_with, wide_memory}
use Rattle.wasm_module_validator_rules.specs.worked.Trees.{with_page, constant_of, tag_with, exports, of_tables, of_memories, of_imports, of_tags}
use Rattle.wasm_module_validator_rules.specs.worked.Modules.{NeedsRoom, exporting}

-- a memory with addresses of 64 bits, of so many pages at first
abbrev pub wide_with : ℕ → MemoryType
wide_with n = record wide_memory { initial = n }

pub record BoundsWorked : Type 0 where
  -- tables: 2^32 - 1 elements, or 2^64 - 1
  pub table_largest : Yes (of_tables (table_with funcref 0xffff_ffff ∷ []))
  pub table_too_large : No (of_tables (table_with funcref 0x1_0000_0000 ∷ []))
  pub table_to_largest : Yes (of_tables (record (table_with funcref 1) { maximum = Some 0xffff_ffff } ∷ []))
  pub table_to_too_large : No (of_tables (record (table_with funcref 1) { maximum = Some 0x1_0000_0000 } ∷ []))
  pub table_of_one_size : Yes (of_tables (record (table_with funcref 2) { maximum = Some 2 } ∷ []))
  pub wide_table_largest : Yes (of_tables (wide_table funcref 0xffff_ffff_ffff_ffff ∷ []))
  pub wide_table_too_large : No (of_tables (wide_table funcref 0x1_0000_0000_0000_0000 ∷ []))
  pub wide_table_to_too_large : No (of_tables (record (wide_table funcref 1) { maximum = Some 0x1_0000_0000_0000_0000 } ∷ []))
  -- memories: 2^32 bytes, or 2^64, in pages of 2^16
  pub memory_to_largest : Yes (of_memories (memory_with 1 (Some 0x1_0000) ∷ []))
  pub memory_to_too_large : No (of_memories (memory_with 1 (Some 0x1_0001) ∷ []))
  pub wide_largest : Yes (of_memories (wide_with 0x1_0000_0000_0000 ∷ []))
  pub wide_too_large : No (of_memories (wide_with 0x1_0000_0000_0001 ∷ []))
  pub second_too_large : No (of_memories (memory_with 0x1_0000 None ∷ memory_with 0x1_0001 None ∷ []))
  -- pages of one byte, one less of them than there are addresses of 64 bits; pages of 2^16 that say so; no others
  pub bytes_too_many : No (of_memories (with_page 0 (memory_with 0x1_0000_0001 None) ∷ []))
  pub bytes_to_largest : Yes (of_memories (with_page 0 (memory_with 1 (Some 0x1_0000_0000)) ∷ []))
  pub bytes_to_too_many : No (of_memories (with_page 0 (memory_with 1 (Some 0x1_0000_0001)) ∷ []))
  pub wide_bytes : Yes (of_memories (with_page 0 (wide_with 0xffff_ffff_ffff_ffff) ∷ []))
  pub wide_bytes_too_many : No (of_memories (with_page 0 (wide_with 0x1_0000_0000_0000_0000) ∷ []))
  pub pages : Yes (of_memories (with_page 16 (memory_with 0x1_0000 None) ∷ []))
  pub pages_too_many : No (of_memories (with_page 16 (memory_with 0x1_0001 None) ∷ []))
  pub pages_of_double_size : No (of_memories (with_page 17 (memory_with 1 None) ∷ []))

-- ---- sizes

-- the sizes of what is imported and exported come to this sum: it is below a limit that is one more, and not below itself
abbrev pub IsOfSize : ℕ → ModuleTree → Type 0
IsOfSize n m = NeedsRoom (record default_limits { type_size = suc n }) (record default_limits { type_size = n }) m

-- one of these is exported, by the name `a`
abbrev pub with_exported_table : ModuleTree
with_exported_table = record (of_tables (table_with funcref 1 ∷ [])) { exports = exports 97 kind.Table 0 ∷ [] }

abbrev pub with_exported_memory : ModuleTree
with_exported_memory = record (of_memories (memory_with 1 None ∷ [])) { exports = exports 97 kind.Memory 0 ∷ [] }

abbrev pub with_exported_tag : ModuleTree
with_exported_tag = record (of_tags (takes_i32 ∷ []) (tag_with 0 ∷ [])) { exports = exports 97 kind.Tag 0 ∷ [] }

-- a global is imported, and exported again
abbrev pub with_passed_on : ModuleTree
with_passed_on = record (of_imports [] (import.Global (constant_of value.I32) ∷ [])) { exports = exports 97 kind.Global 0 ∷ [] }

-- 1 to begin with; 2 for a function or a tag, with 1 for each parameter and result; 1 for anything else
pub record SizesWorked : Type 0 where
  pub imported_table : IsOfSize 2 (of_imports [] (import.Table (table_with funcref 1) ∷ []))
  pub imported_memory : IsOfSize 2 (of_imports [] (import.Memory (memory_with 1 None) ∷ []))
  pub imported_global : IsOfSize 2 (of_imports [] (import.Global (constant_of value.I32) ∷ []))
  pub imported_tag : IsOfSize 4 (of_imports (takes_i32 ∷ []) (import.Tag (tag_with 0) ∷ []))
  pub imported_exactly : IsOfSize 4 (of_imports (takes_i32 ∷ []) (import.FuncExact 0 ∷ []))
  pub imported_both : IsOfSize 5 (of_imports (takes_i32 ∷ []) (import.Func 0 ∷ import.Memory (memory_with 1 None) ∷ []))
  pub exported_table : IsOfSize 2 with_exported_table
  pub exported_memory : IsOfSize 2 with_exported_memory
  pub exported_tag : IsOfSize 4 with_exported_tag
  pub exported_function : IsOfSize 3 (exporting (exports 97 kind.Func 0 ∷ []))
  pub exported_exactly : IsOfSize 3 (exporting (exports 97 kind.FuncExact 0 ∷ []))
  pub passed_on : IsOfSize 3 with_passed_on
