-- Modules that are valid and modules that are not: for each rule one at least of each kind.
use Rattle.std.specs.Prelude.{◌≡◌, map, false, ℕ, ℤ, List, [], ◌∷◌, Some, None, true}
use Rattle.wasm_types.specs.settings.Features.{ReferenceTypes, Floats, SharedEverythingThreads, Memory64, CustomPageSizes, StackSwitching}
use Rattle.wasm_types.specs.settings.Features.{MutableGlobal, BulkMemory, MultiMemory, Exceptions, ExtendedConst, Gc, CustomDescriptors, FunctionReferences, Threads}
use Rattle.wasm_types.specs.settings.declared.Limits.{Limits}
use Rattle.wasm_types.specs.settings.Limits.{default_limits}
use Rattle.wasm_types.specs.settings.Settings.{Settings}
use Rattle.wasm_types.specs.trees.worked.Groups.{together}
use Rattle.wasm_types.specs.values.declared.value.ValType.TheVariants as value
use Rattle.wasm_operators_encoding.specs.expressions.Code.{Code, plain}
use Rattle.wasm_sections_items.specs.declared.imports.kind.ExternalKind.TheVariants as kind
use Rattle.wasm_sections_items.specs.declared.imports.type_ref.TypeRef.TheVariants as import
use Rattle.wasm_sections_items.specs.imports.Spells.{ExportTree}
use Rattle.wasm_sections_items.specs.segments.Spells.{GlobalTree}
use Rattle.wasm_types.specs.trees.Types.{i32, i64, number, ref, abstract, func, extern}
use Rattle.wasm_types.specs.trees.Trees.{TypeTree, opened}
use Rattle.wasm_types.specs.trees.ValidGroup.{type_at}
use Rattle.wasm_sections_items.specs.elements.Spells.{passive, expressions}
use Rattle.wasm_operator_validator_rules.specs.Context.{Table, Global}
use Rattle.wasm_module_validator_rules.specs.Spaces.{module_of}
use Rattle.wasm_module_validator_rules.specs.Syntax.{ModuleTree}
use Rattle.wasm_module_validator_rules.specs.Valid.{IsValid}
use Rattle.wasm_module_validator_rules.specs.worked.Trees.{Yes, No, Needs, empty, one_function, procedure, takes_i32, gives_i32, end, only}
use Rattle.wasm_module_validator_rules.specs.worked.Trees.{constant, long, sum, drop, global_get, function_at, refers_to, funcref, some_function, externref}
use Rattle.wasm_module_validator_rules.specs.worked.Trees.{wide_memory, wide_table, with_page, of_types, of_tables, of_memories, of_tags, of_imports}
use Rattle.wasm_module_validator_rules.specs.worked.Trees.{table_with, memory_with, constant_of, variable_of, tag_with, imports, exports, null_table}
use Rattle.wasm_module_validator_rules.specs.worked.Trees.{filled_table, global_with, active_functions, declared_functions, active_data, passive_data, does}

-- ---- functions, imports and exports

abbrev pub starting : ModuleTree → ModuleTree
starting m = record m { start = Some 0 }

abbrev pub exporting : List ExportTree → ModuleTree
exporting es = record (one_function procedure end) { exports = es }

-- a function that refers to itself
abbrev pub self_referring : ModuleTree
self_referring = one_function procedure (refers_to 0)

pub record FunctionsWorked (x : ℤ) : Type 0 where
  pub nothing : Yes empty
  pub function : Yes (one_function procedure end)
  pub body : Yes (one_function gives_i32 (only (constant x)))
  pub body_empty : No (one_function gives_i32 end)
  pub body_of_another_type : No (one_function gives_i32 (only (long x)))
  pub body_missing : No (record (one_function procedure end) { code = [] })
  pub body_too_many : No (record (one_function procedure end) { code = does [] end ∷ does [] end ∷ [] })
  pub type_unknown : No (record (one_function procedure end) { functions = 1 ∷ [] })
  pub start : Yes (starting (one_function procedure end))
  pub start_takes : No (starting (one_function takes_i32 end))
  pub start_gives : No (starting (one_function gives_i32 (only (constant x))))
  pub start_unknown : No (starting empty)
  pub exported : Yes (exporting (exports 97 kind.Func 0 ∷ exports 98 kind.Func 0 ∷ []))
  pub export_unknown : No (exporting (exports 97 kind.Func 1 ∷ []))
  pub export_of_another_space : No (exporting (exports 97 kind.Table 0 ∷ []))
  pub export_twice : No (exporting (exports 97 kind.Func 0 ∷ exports 97 kind.Func 0 ∷ []))
  pub imported_exactly : Needs CustomDescriptors (of_imports (procedure ∷ []) (import.FuncExact 0 ∷ []))
  pub named_nowhere : No self_referring
  pub named_in_export : Yes (record self_referring { exports = exports 97 kind.Func 0 ∷ [] })
  pub named_in_segment : Yes (record self_referring { element_segments = declared_functions (0 ∷ []) ∷ [] })

-- ---- tables, memories, tags

pub record SpacesWorked : Type 0 where
  pub memory : Yes (of_memories (memory_with 1 (Some 2) ∷ []))
  pub memory_backwards : No (of_memories (memory_with 2 (Some 1) ∷ []))
  pub memory_whole : Yes (of_memories (memory_with 65536 None ∷ []))
  pub memory_too_large : No (of_memories (memory_with 65537 None ∷ []))
  pub memory_shared_needs : Needs Threads (of_memories (record (memory_with 1 (Some 1)) { shared = true } ∷ []))
  pub memory_shared_without_end : No (of_memories (record (memory_with 1 None) { shared = true } ∷ []))
  pub page_of_one_byte : Yes (of_memories (with_page 0 (memory_with 0x100000000 None) ∷ []))
  pub page_of_two_bytes : No (of_memories (with_page 1 (memory_with 1 None) ∷ []))
  pub memories_need : Needs MultiMemory (of_memories (memory_with 1 None ∷ memory_with 1 None ∷ []))
  pub memories_imported_need : Needs MultiMemory (record empty { imports = imports (import.Memory (memory_with 1 None)) ∷ []; memories = memory_with 1 None ∷ [] })
  pub table : Yes (of_tables (table_with funcref 0 ∷ []))
  pub table_backwards : No (of_tables (record (table_with funcref 2) { maximum = Some 1 } ∷ []))
  pub table_without_null : No (of_tables (table_with some_function 0 ∷ []))
  pub table_filled : Yes (record (one_function procedure end) { tables = filled_table (table_with some_function 0) (only (function_at 0)) ∷ [] })
  pub table_filled_needs : Needs FunctionReferences (record (one_function procedure end) { tables = filled_table (table_with funcref 0) (only (function_at 0)) ∷ [] })
  pub tag_needs : Needs Exceptions (of_tags (takes_i32 ∷ []) (tag_with 0 ∷ []))
  pub memory_wide_needs : Needs Memory64 (of_memories (wide_memory ∷ []))
  pub page_needs : Needs CustomPageSizes (of_memories (with_page 0 (memory_with 1 None) ∷ []))
  pub table_wide_needs : Needs Memory64 (of_tables (wide_table funcref 0 ∷ []))
  pub table_shared_of_unshared : No (of_tables (record (table_with funcref 0) { shared = true } ∷ []))
  pub table_of_external_needs : Needs ReferenceTypes (of_tables (table_with externref 0 ∷ []))
  pub tables_need : Needs ReferenceTypes (of_tables (table_with funcref 0 ∷ table_with funcref 0 ∷ []))
  pub tag_gives_needs : Needs StackSwitching (of_tags (gives_i32 ∷ []) (tag_with 0 ∷ []))
  pub tag_unknown : No (of_tags (takes_i32 ∷ []) (tag_with 1 ∷ []))

-- ---- globals and constants

-- an imported global of 32 bits, never written or written
abbrev pub with_import : List (GlobalTree Code) → ModuleTree
with_import xs = record empty { imports = imports (import.Global (constant_of value.I32)) ∷ []; globals = xs }

abbrev pub with_variable : List (GlobalTree Code) → ModuleTree
with_variable xs = record empty { imports = imports (import.Global (variable_of value.I32)) ∷ []; globals = xs }

-- own globals of 32 bits
abbrev pub one : Code → GlobalTree Code
one c = global_with (constant_of value.I32) c

abbrev pub with_globals : List (GlobalTree Code) → ModuleTree
with_globals xs = record empty { globals = xs }

pub record GlobalsWorked (x : ℤ) : Type 0 where
  pub global : Yes (with_globals (one (only (constant x)) ∷ []))
  pub global_of_another_type : No (with_globals (one (only (long x)) ∷ []))
  pub constant_missing : No (with_globals (one end ∷ []))
  pub not_constant : No (with_globals (one (plain (constant x) (plain drop (only (constant x)))) ∷ []))
  pub sum_needs : Needs ExtendedConst (with_globals (one (plain (constant x) (plain (constant x) (only sum))) ∷ []))
  pub imported_read : Yes (with_import (one (only (global_get 0)) ∷ []))
  pub variable_read : No (with_variable (one (only (global_get 0)) ∷ []))
  pub variable_imported_needs : Needs MutableGlobal (with_variable [])
  pub variable_exported_needs : Needs MutableGlobal (record empty { globals = global_with (variable_of value.I32) (only (constant x)) ∷ []; exports = exports 97 kind.Global 0 ∷ [] })
  pub earlier_read_needs : Needs Gc (with_globals (one (only (constant x)) ∷ one (only (global_get 0)) ∷ []))
  pub later_read : No (with_globals (one (only (global_get 1)) ∷ one (only (constant x)) ∷ []))
  pub itself_read : No (with_globals (one (only (global_get 0)) ∷ []))
  pub imports_come_first : Yes (with_import (global_with (constant_of value.I64) (only (long x)) ∷ one (only (global_get 0)) ∷ []))
  pub own_come_behind : No (with_import (global_with (constant_of value.I64) (only (long x)) ∷ one (only (global_get 1)) ∷ []))
  pub shared_needs : Needs SharedEverythingThreads (with_globals (global_with (record (constant_of value.I32) { shared = true }) (only (constant x)) ∷ []))
  pub shared_of_unshared : No (record (one_function procedure end) {
    globals = global_with (record (constant_of (value.Ref funcref)) { shared = true }) (only (function_at 0)) ∷ [];
  })
  pub float_needs : Needs Floats (of_imports [] (import.Global (constant_of value.F32) ∷ []))
  pub table_reads_own : No (record (one_function procedure end) {
    tables = filled_table (table_with funcref 0) (only (global_get 0)) ∷ [];
    globals = global_with (constant_of (value.Ref funcref)) (only (function_at 0)) ∷ [];
  })

-- ---- segments

-- a function and a table of this type
abbrev pub with_table : ModuleTree
with_table = record (one_function procedure end) { tables = null_table (table_with funcref 1) ∷ [] }

abbrev pub with_externals : ModuleTree
with_externals = record (one_function procedure end) { tables = null_table (table_with externref 1) ∷ [] }

abbrev pub with_memory : ModuleTree
with_memory = record empty { memories = memory_with 1 None ∷ [] }

pub record SegmentsWorked (x : ℤ) : Type 0 where
  pub active : Yes (record with_table { element_segments = active_functions (only (constant x)) (0 ∷ []) ∷ [] })
  pub does_not_fit : No (record with_externals { element_segments = active_functions (only (constant x)) (0 ∷ []) ∷ [] })
  pub function_unknown : No (record with_table { element_segments = active_functions (only (constant x)) (1 ∷ []) ∷ [] })
  pub table_unknown : No (record (one_function procedure end) { element_segments = active_functions (only (constant x)) (0 ∷ []) ∷ [] })
  pub offset_of_another_type : No (record with_table { element_segments = active_functions (only (long x)) (0 ∷ []) ∷ [] })
  pub declared_needs : Needs BulkMemory (record (one_function procedure end) { element_segments = declared_functions (0 ∷ []) ∷ [] })
  pub placed : Yes (record with_memory { data_segments = active_data (only (constant x)) ∷ [] })
  pub data_offset_of_another_type : No (record with_memory { data_segments = active_data (only (long x)) ∷ [] })
  pub memory_unknown : No (record empty { data_segments = active_data (only (constant x)) ∷ [] })
  pub placed_wide : Yes (record empty { memories = wide_memory ∷ []; data_segments = active_data (only (long x)) ∷ [] })
  pub placed_wide_by_short : No (record empty { memories = wide_memory ∷ []; data_segments = active_data (only (constant x)) ∷ [] })
  pub passive_needs : Needs BulkMemory (record empty { data_segments = passive_data ∷ [] })
  pub count_needs : Needs BulkMemory (record empty { data_count = Some 0 })
  pub counted : Yes (record empty { data_count = Some 1; data_segments = passive_data ∷ [] })

-- ---- spaces

-- an import of each kind, of functions one exactly, and one of each kind of the module's own
abbrev pub of_each_kind : ModuleTree
of_each_kind = record empty {
  types = procedure ∷ takes_i32 ∷ [];
  imports = imports (import.Memory (memory_with 1 None)) ∷ imports (import.Func 1) ∷ imports (import.Tag (tag_with 1)) ∷ imports (import.FuncExact 0)
      ∷ imports (import.Table (table_with externref 1)) ∷ imports (import.Global (constant_of value.I64)) ∷ [];
  functions = 0 ∷ [];
  tables = filled_table (table_with funcref 2) (only (function_at 0)) ∷ [];
  memories = memory_with 2 None ∷ [];
  tags = tag_with 0 ∷ [];
  globals = global_with (variable_of value.I32) (only (function_at 1)) ∷ [];
  exports = exports 97 kind.Table 9 ∷ exports 98 kind.Func 2 ∷ [];
  element_segments = declared_functions (3 ∷ 4 ∷ []) ∷ record { mode = passive; items = expressions externref (only (function_at 5) ∷ []) } ∷ [];
}

abbrev pub type_of_index : ℕ → TypeTree
type_of_index i = type_at (module_of of_each_kind).types i

-- what is imported comes first; which functions are named, and which have exactly their type
pub record ContextWorked : Type 0 where
  pub functions : (module_of of_each_kind).functions ≡ type_of_index 1 ∷ type_of_index 0 ∷ type_of_index 0 ∷ []
  pub functions_differ : (opened (type_of_index 1)).inner ≡ (opened (type_of_index 0)).inner → ⊥
  pub tables : map (λ (t : Table). t.element) (module_of of_each_kind).tables ≡ ref true (abstract false extern) ∷ ref true (abstract false func) ∷ []
  pub memories : (module_of of_each_kind).memories ≡ memory_with 1 None ∷ memory_with 2 None ∷ []
  pub tags : (module_of of_each_kind).tags ≡ type_of_index 1 ∷ type_of_index 0 ∷ []
  pub globals : map (λ (v : Global). v.content) (module_of of_each_kind).globals ≡ number i64 ∷ number i32 ∷ []
  pub elements : (module_of of_each_kind).elements ≡ ref false (abstract false func) ∷ ref true (abstract false extern) ∷ []
  pub referenced : (module_of of_each_kind).referenced ≡ 0 ∷ 1 ∷ 2 ∷ 3 ∷ 4 ∷ 5 ∷ []
  pub exact : (module_of of_each_kind).exact_functions ≡ 1 ∷ 2 ∷ []

-- ---- limits

-- every feature, within these limits
abbrev pub within : Limits → Settings
within limits = record { features = 0xfff_ffff; limits = limits }

-- one import of size 2, and a function with a parameter and more locals
abbrev pub importing : ModuleTree
importing = record empty { types = procedure ∷ []; imports = imports (import.Func 0) ∷ [] }

abbrev pub with_locals : ℕ → ModuleTree
with_locals n = record (one_function takes_i32 end) { code = does (record { count = n; type = value.I32 } ∷ []) end ∷ [] }

-- valid within the first limits, and not within the second
abbrev pub NeedsRoom : Limits → Limits → ModuleTree → Type 0
NeedsRoom enough less m = IsValid (within enough) m × (IsValid (within less) m → ⊥)

abbrev pub two_items : ModuleTree
two_items = record (one_function procedure end) { element_segments = declared_functions (0 ∷ 0 ∷ []) ∷ [] }

pub record LimitsWorked : Type 0 where
  pub type_size : NeedsRoom (record default_limits { type_size = 4 }) (record default_limits { type_size = 3 }) importing
  pub type_size_of_nothing : IsValid (within (record default_limits { type_size = 1 })) empty
  pub locals_and_parameters : NeedsRoom (record default_limits { locals = 11 }) (record default_limits { locals = 10 }) (with_locals 10)
  pub types : NeedsRoom (record default_limits { types = 2 }) (record default_limits { types = 1 }) (of_types (procedure ∷ procedure ∷ []))
  pub empty_groups_count : NeedsRoom (record default_limits { types = 2 }) (record default_limits { types = 1 }) (of_types (together [] ∷ procedure ∷ []))
  pub many_exports : NeedsRoom (record default_limits { exports = 2 }) (record default_limits { exports = 1 }) (exporting (exports 97 kind.Func 0 ∷ exports 98 kind.Func 0 ∷ []))
  pub many_items : NeedsRoom (record default_limits { segment_items = 2 }) (record default_limits { segment_items = 1 }) two_items
  pub many_segments : NeedsRoom (record default_limits { data_segments = 1 }) (record default_limits { data_segments = 0 }) (record empty { data_segments = passive_data ∷ [] })
  pub imports_count : NeedsRoom (record default_limits { functions = 2 }) (record default_limits { functions = 1 }) (record importing { functions = 0 ∷ []; code = does [] end ∷ [] })
