-- Imports, types, shared items, segments of expressions, and spaces of more than one item.
use Rattle.std.specs.Prelude.{ℕ, ℤ, true, false, List, [], ◌∷◌, Some, None}
use Rattle.wasm_types.specs.settings.Features.{ReferenceTypes, BulkMemory, FunctionReferences, SharedEverythingThreads, StackSwitching}
use Rattle.wasm_types.specs.settings.Sets.{mvp}
use Rattle.wasm_types.specs.trees.Types.{i64, number, struct_of, function}
use Rattle.wasm_types.specs.trees.ValidGroup.{Written}
use Rattle.wasm_types.specs.trees.worked.Groups.{single, together, final_type, open_type, to}
use Rattle.wasm_types.specs.values.Reference.{Reference}
use Rattle.wasm_types.specs.values.declared.heap.AbstractHeapType.TheVariants as heap
use Rattle.wasm_types.specs.values.declared.heap.HeapType.TheVariants.{Abstract}
use Rattle.wasm_types.specs.values.declared.value.ValType.TheVariants as value
use Rattle.wasm_types.specs.externs.declared.table.TableType.{TableType}
use Rattle.wasm_types.specs.externs.declared.global.GlobalType.{GlobalType}
use Rattle.wasm_operators_encoding.specs.expressions.Code.{Code, plain}
use Rattle.wasm_sections_items.specs.declared.imports.type_ref.TypeRef.TheVariants as import
use Rattle.wasm_sections_items.specs.elements.Spells.{ElementItems, functions, expressions}
use Rattle.wasm_module_validator_rules.specs.Syntax.{ModuleTree}
use Rattle.wasm_module_validator_rules.specs.worked.Trees.{Yes, No, Needs, ValidBy, one_function, procedure, takes_i32, gives_i32, taking_and_giving, empty_struct, end, only}
use Rattle.wasm_module_validator_rules.specs.worked.Trees.{constant, long, drop, null_of, memory_size, table_size, funcref, some_function, externref}
use Rattle.wasm_module_validator_rules.specs.worked.Trees.{shared_funcref, typed_by, table_with, wide_table, memory_with, wide_memory, constant_of, tag_with, null_table, global_with}
use Rattle.wasm_module_validator_rules.specs.worked.Trees.{active_elements, passive_elements, active_data_in, of_types, of_tables, of_memories, of_imports}
use Rattle.wasm_module_validator_rules.specs.worked.Modules.{with_globals, with_table, with_externals}

-- ---- imports

abbrev pub ends_at : ℕ → TableType → TableType
ends_at n t = record t { maximum = Some n }

pub record ImportsWorked : Type 0 where
  pub memory : Yes (of_imports [] (import.Memory (memory_with 65536 None) ∷ []))
  pub memory_too_large : No (of_imports [] (import.Memory (memory_with 65537 None) ∷ []))
  pub second_too_large : No (of_imports [] (import.Memory (memory_with 65536 None) ∷ import.Memory (memory_with 65537 None) ∷ []))
  pub table : Yes (of_imports [] (import.Table (ends_at 2 (table_with funcref 2)) ∷ []))
  pub table_backwards : No (of_imports [] (import.Table (ends_at 1 (table_with funcref 2)) ∷ []))
  pub table_without_null : Yes (of_imports [] (import.Table (table_with some_function 2) ∷ []))
  pub function : Yes (of_imports (procedure ∷ []) (import.Func 0 ∷ []))
  pub function_unknown : No (of_imports (procedure ∷ []) (import.Func 1 ∷ []))
  pub function_of_struct : No (of_imports (empty_struct ∷ []) (import.Func 0 ∷ []))
  pub exactly_unknown : No (of_imports (procedure ∷ []) (import.FuncExact 1 ∷ []))
  pub tag : Yes (of_imports (takes_i32 ∷ []) (import.Tag (tag_with 0) ∷ []))
  pub tag_unknown : No (of_imports (takes_i32 ∷ []) (import.Tag (tag_with 1) ∷ []))
  pub tag_of_struct : No (of_imports (empty_struct ∷ []) (import.Tag (tag_with 0) ∷ []))
  pub tag_gives_needs : Needs StackSwitching (of_imports (gives_i32 ∷ []) (import.Tag (tag_with 0) ∷ []))
  pub global : Yes (of_imports (procedure ∷ []) (import.Global (constant_of (value.Ref (typed_by 0))) ∷ []))
  pub global_of_unknown_type : No (of_imports (procedure ∷ []) (import.Global (constant_of (value.Ref (typed_by 1))) ∷ []))

-- ---- types

-- a function that takes a reference to the type with this index
abbrev pub taking_typed : ℕ → Written
taking_typed i = taking_and_giving (to i ∷ []) []

abbrev pub open_procedure : Written
open_procedure = single (open_type [] (function [] []))

abbrev pub below_first : Written
below_first = single (final_type (0 ∷ []) (function [] []))

pub record TypesWorked : Type 0 where
  pub earlier_type : Yes (of_types (procedure ∷ taking_typed 0 ∷ []))
  pub later_type : No (of_types (taking_typed 1 ∷ procedure ∷ []))
  pub own_type : Yes (of_types (procedure ∷ taking_typed 1 ∷ []))
  pub unknown_type : No (of_types (procedure ∷ taking_typed 2 ∷ []))
  pub open_supertype : Yes (of_types (open_procedure ∷ below_first ∷ []))
  pub final_supertype : No (of_types (procedure ∷ below_first ∷ []))
  pub supertype_of_another_kind : No (of_types (single (open_type [] (struct_of [])) ∷ below_first ∷ []))
  pub types_of_groups : Yes (of_types (together (final_type [] (function [] []) ∷ final_type [] (function [] []) ∷ []) ∷ taking_typed 1 ∷ []))
  pub unused_type_wrong : No (record (one_function procedure end) { types = procedure ∷ taking_typed 2 ∷ [] })

-- ---- shared items

abbrev pub shared_table : Reference → TableType
shared_table r = record (table_with r 1) { shared = true }

abbrev pub shared_constant : Reference → GlobalType
shared_constant r = record (constant_of (value.Ref r)) { shared = true }

pub record SharedWorked : Type 0 where
  pub table_needs : Needs SharedEverythingThreads (of_tables (shared_table shared_funcref ∷ []))
  pub table_of_unshared : No (of_tables (shared_table funcref ∷ []))
  pub imported_table : Yes (of_imports [] (import.Table (shared_table shared_funcref) ∷ []))
  pub imported_table_of_unshared : No (of_imports [] (import.Table (shared_table funcref) ∷ []))
  pub global : Yes (with_globals (global_with (shared_constant shared_funcref) (only (null_of (Abstract true heap.Func))) ∷ []))
  pub global_of_unshared : No (with_globals (global_with (shared_constant funcref) (only (null_of (Abstract false heap.Func))) ∷ []))
  pub imported_global : Yes (of_imports [] (import.Global (shared_constant shared_funcref) ∷ []))
  pub imported_global_of_unshared : No (of_imports [] (import.Global (shared_constant funcref) ∷ []))

-- ---- segments of expressions

-- a table of functions or of external references, whose first elements are these expressions
abbrev pub filling : ModuleTree → ℤ → Reference → List Code → ModuleTree
filling m x r cs = record m { element_segments = active_elements None (only (constant x)) (expressions r cs) ∷ [] }

-- elements by themselves
abbrev pub apart : ElementItems Code → ModuleTree
apart items = record (one_function procedure end) { element_segments = passive_elements items ∷ [] }

abbrev pub no_function : Code
no_function = only (null_of (Abstract false heap.Func))

pub record ElementsWorked (x : ℤ) : Type 0 where
  pub null : Yes (filling with_table x funcref (no_function ∷ []))
  pub number : No (filling with_table x funcref (only (constant x) ∷ []))
  pub second_is_number : No (filling with_table x funcref (no_function ∷ only (constant x) ∷ []))
  pub fit : Yes (filling with_externals x externref [])
  pub do_not_fit : No (filling with_table x externref [])
  pub fit_by_type : Yes (filling with_table x (typed_by 0) [])
  pub known_type : Yes (apart (expressions (typed_by 0) []))
  pub unknown_type : No (apart (expressions (typed_by 1) []))
  pub not_constant : No (filling with_table x funcref (plain (null_of (Abstract false heap.Func)) (plain drop no_function) ∷ []))
  pub type_needs : Needs ReferenceTypes (filling with_table x funcref [])
  pub non_null_type_needs : Needs FunctionReferences (filling with_table x some_function [])
  pub active_alone : ValidBy (ReferenceTypes ∷ mvp) (filling with_table x funcref [])
  pub passive_needs : Needs BulkMemory (apart (expressions funcref []))
  pub passive_functions_need : Needs BulkMemory (apart (functions (0 ∷ [])))
  pub passive_function_unknown : No (apart (functions (1 ∷ [])))

-- ---- tables and memories by their indices

-- a function, with a table of external references and one of functions, whose indices have 64 bits
abbrev pub two_tables : ModuleTree
two_tables = record (one_function procedure end) { tables = null_table (table_with externref 1) ∷ null_table (wide_table funcref 1) ∷ [] }

-- its function in a segment of one of them, or of none that is named
abbrev pub placing_in : ℕ → Code → ModuleTree
placing_in table offset = record two_tables { element_segments = active_elements (Some table) offset (functions (0 ∷ [])) ∷ [] }

-- a memory with addresses of 32 bits, one with 64, and a data segment of one of them
abbrev pub two_memories : ModuleTree
two_memories = of_memories (memory_with 1 None ∷ wide_memory ∷ [])

abbrev pub writing_to : ℕ → Code → ModuleTree
writing_to memory offset = record two_memories { data_segments = active_data_in memory offset ∷ [] }

-- a function of this type, with two tables or two memories
abbrev pub beside_tables : Written → Code → ModuleTree
beside_tables t c = record (one_function t c) { tables = null_table (table_with externref 1) ∷ null_table (wide_table funcref 1) ∷ [] }

abbrev pub beside_memories : Written → Code → ModuleTree
beside_memories t c = record (one_function t c) { memories = memory_with 1 None ∷ wide_memory ∷ [] }

abbrev pub gives_i64 : Written
gives_i64 = taking_and_giving [] (number i64 ∷ [])

pub record IndicesWorked (x : ℤ) : Type 0 where
  pub second_table : Yes (placing_in 1 (only (long x)))
  pub second_table_by_short : No (placing_in 1 (only (constant x)))
  pub first_table : No (placing_in 0 (only (constant x)))
  pub third_table : No (placing_in 2 (only (long x)))
  pub table_unnamed : No (record two_tables { element_segments = active_elements None (only (constant x)) (functions (0 ∷ [])) ∷ [] })
  pub first_memory : Yes (writing_to 0 (only (constant x)))
  pub first_memory_by_long : No (writing_to 0 (only (long x)))
  pub second_memory : Yes (writing_to 1 (only (long x)))
  pub second_memory_by_short : No (writing_to 1 (only (constant x)))
  pub third_memory : No (writing_to 2 (only (long x)))
  -- in code
  pub size_of_first_table : Yes (beside_tables gives_i32 (only (table_size 0)))
  pub size_of_second_table : Yes (beside_tables gives_i64 (only (table_size 1)))
  pub size_of_first_table_wide : No (beside_tables gives_i64 (only (table_size 0)))
  pub size_of_third_table : No (beside_tables gives_i64 (only (table_size 2)))
  pub size_of_first_memory : Yes (beside_memories gives_i32 (only (memory_size 0)))
  pub size_of_second_memory : Yes (beside_memories gives_i64 (only (memory_size 1)))
  pub size_of_first_memory_wide : No (beside_memories gives_i64 (only (memory_size 0)))
  pub size_of_third_memory : No (beside_memories gives_i64 (only (memory_size 2)))
