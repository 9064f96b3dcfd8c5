-- What the features of the first release allow by themselves, and what they do not.
use Rattle.std.specs.Prelude.{ℤ, [], ◌∷◌, Some, None, true}
use Rattle.wasm_types.specs.settings.Features.{Floats, GcTypes}
use Rattle.wasm_types.specs.settings.Sets.{mvp, wasm1}
use Rattle.wasm_types.specs.trees.Types.{f32, number}
use Rattle.wasm_types.specs.trees.ValidGroup.{Written}
use Rattle.wasm_types.specs.values.declared.value.ValType.TheVariants as value
use Rattle.wasm_operators_enums.specs.declared.numeric.NumericOperator.TheVariants as numeric
use Rattle.wasm_operators_enums.specs.Op as op
use Rattle.wasm_operators_enums.specs.Op.{Op}
use Rattle.wasm_operators_encoding.specs.expressions.Code.{Code, plain}
use Rattle.wasm_sections_items.specs.declared.imports.kind.ExternalKind.TheVariants as kind
use Rattle.wasm_sections_items.specs.declared.imports.type_ref.TypeRef.TheVariants as import
use Rattle.wasm_sections_items.specs.elements.Spells.{expressions}
use Rattle.wasm_module_validator_rules.specs.Syntax.{ModuleTree}
use Rattle.wasm_module_validator_rules.specs.worked.Trees.{Needs, ValidBy, InvalidBy, one_function, procedure, takes_i32, taking_and_giving, end, only}
use Rattle.wasm_module_validator_rules.specs.worked.Trees.{constant, sum, drop, unreachable, local_get, global_get, function_at, funcref, externref, table_with, wide_table}
use Rattle.wasm_module_validator_rules.specs.worked.Trees.{memory_with, wide_memory, with_page, constant_of, variable_of, tag_with, exports, global_with}
use Rattle.wasm_module_validator_rules.specs.worked.Trees.{filled_table, active_functions, active_elements, declared_functions, active_data, passive_data, locals_of, does}
use Rattle.wasm_module_validator_rules.specs.worked.Trees.{of_tables, of_memories, of_tags, of_imports}
use Rattle.wasm_module_validator_rules.specs.worked.Modules.{with_globals, with_import, one, with_table, with_memory}

-- a float from a float, and one from operands that are not reached
abbrev pub negates : Written
negates = taking_and_giving (number f32 ∷ []) (number f32 ∷ [])

abbrev pub negation : Op
negation = op.Numeric numeric.F32Neg

abbrev pub negated_nowhere : Code
negated_nowhere = plain unreachable (plain negation (only drop))

-- a global of the module itself that may be written
abbrev pub with_variable_of_own : ℤ → ModuleTree
with_variable_of_own x = with_globals (global_with (variable_of value.I32) (only (constant x)) ∷ [])

pub record ReleasesWorked (x : ℤ) : Type 0 where
  -- tables, and their segments
  pub table : ValidBy mvp (of_tables (table_with funcref 1 ∷ []))
  pub table_of_external : InvalidBy mvp (of_tables (table_with externref 1 ∷ []))
  pub table_wide : InvalidBy mvp (of_tables (wide_table funcref 1 ∷ []))
  pub two_tables : InvalidBy mvp (of_tables (table_with funcref 1 ∷ table_with funcref 1 ∷ []))
  pub table_empty : ValidBy mvp with_table
  pub table_filled : InvalidBy mvp (record with_table { tables = filled_table (table_with funcref 1) (only (function_at 0)) ∷ [] })
  pub elements : ValidBy mvp (record with_table { element_segments = active_functions (only (constant x)) (0 ∷ []) ∷ [] })
  pub elements_declared : InvalidBy mvp (record with_table { element_segments = declared_functions (0 ∷ []) ∷ [] })
  pub elements_as_expressions : InvalidBy mvp (record with_table { element_segments = active_elements None (only (constant x)) (expressions funcref []) ∷ [] })
  -- memories, and theirs
  pub memory : ValidBy mvp (of_memories (memory_with 1 (Some 1) ∷ []))
  pub memory_shared : InvalidBy mvp (of_memories (record (memory_with 1 (Some 1)) { shared = true } ∷ []))
  pub memory_with_page_size : InvalidBy mvp (of_memories (with_page 16 (memory_with 1 (Some 1)) ∷ []))
  pub memory_wide : InvalidBy mvp (of_memories (wide_memory ∷ []))
  pub two_memories : InvalidBy mvp (of_memories (memory_with 1 (Some 1) ∷ memory_with 1 (Some 1) ∷ []))
  pub bytes : ValidBy mvp (record with_memory { data_segments = active_data (only (constant x)) ∷ [] })
  pub bytes_passive : InvalidBy mvp (record with_memory { data_segments = passive_data ∷ [] })
  pub bytes_counted : InvalidBy mvp (record with_memory { data_count = Some 1; data_segments = active_data (only (constant x)) ∷ [] })
  -- tags
  pub tag : InvalidBy mvp (of_tags (takes_i32 ∷ []) (tag_with 0 ∷ []))
  -- globals: those that are written cross the module's border in the next release
  pub global : ValidBy mvp (with_globals (one (only (constant x)) ∷ []))
  pub global_summed : InvalidBy mvp (with_globals (one (plain (constant x) (plain (constant x) (only sum))) ∷ []))
  pub imported_read : ValidBy mvp (with_import (one (only (global_get 0)) ∷ []))
  pub own_read : InvalidBy mvp (with_globals (one (only (constant x)) ∷ one (only (global_get 0)) ∷ []))
  pub variable : ValidBy mvp (with_variable_of_own x)
  pub variable_exported : InvalidBy mvp (record (with_variable_of_own x) { exports = exports 97 kind.Global 0 ∷ [] })
  pub variable_exported_later : ValidBy wasm1 (record (with_variable_of_own x) { exports = exports 97 kind.Global 0 ∷ [] })
  pub variable_imported : InvalidBy mvp (of_imports [] (import.Global (variable_of value.I32) ∷ []))
  pub variable_imported_later : ValidBy wasm1 (of_imports [] (import.Global (variable_of value.I32) ∷ []))
  pub global_of_functions : InvalidBy mvp (of_imports [] (import.Global (constant_of (value.Ref funcref)) ∷ []))
  -- floats, and operators that name them
  pub floats : ValidBy mvp (one_function negates (plain (local_get 0) (only negation)))
  pub floats_missing : InvalidBy (GcTypes ∷ []) (one_function negates (plain (local_get 0) (only negation)))
  pub float_operator : ValidBy mvp (one_function procedure negated_nowhere)
  pub float_operator_needs : Needs Floats (one_function procedure negated_nowhere)
  -- locals
  pub locals : ValidBy mvp (record (one_function procedure end) { code = does (locals_of 1 value.F64) end ∷ [] })
  pub locals_of_functions : InvalidBy mvp (record (one_function procedure end) { code = does (locals_of 1 (value.Ref funcref)) end ∷ [] })
