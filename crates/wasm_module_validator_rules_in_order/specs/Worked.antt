-- Worked items, sections and frames: for each kind of section one that is added and one that is not, and each frame.
use Rattle.std.specs.Prelude.{ℤ, [], ◌∷◌, Some, None, true}
use Rattle.wasm_types.specs.settings.Features.{ReferenceTypes, BulkMemory, MultiMemory}
use Rattle.wasm_types.specs.settings.declared.Limits.{Limits}
use Rattle.wasm_types.specs.settings.Limits.{default_limits}
use Rattle.wasm_types.specs.settings.Settings.{Settings}
use Rattle.wasm_types.specs.trees.Types.{function, ref, concrete}
use Rattle.wasm_types.specs.trees.worked.Groups.{together, final_type}
use Rattle.wasm_types.specs.values.declared.value.ValType.TheVariants as value
use Rattle.wasm_sections_items.specs.declared.imports.kind.ExternalKind.TheVariants as kind
use Rattle.wasm_sections_items.specs.declared.imports.type_ref.TypeRef.{TypeRef}
use Rattle.wasm_sections_items.specs.declared.imports.type_ref.TypeRef.TheVariants as import
use Rattle.wasm_sections_items.specs.segments.Spells as data_mode
use Rattle.wasm_sections_items.specs.elements.Spells.{passive, declared, functions}
use Rattle.wasm_module_validator_rules.specs.Syntax.{ModuleTree}
use Rattle.wasm_module_validator_rules.specs.worked.Trees.{everything, without, empty, procedure, taking_and_giving, only, constant, global_get, funcref, some_function, table_with}
use Rattle.wasm_module_validator_rules.specs.worked.Trees.{memory_with, constant_of, tag_with, imports, exports, null_table, filled_table, global_with}
use Rattle.wasm_module_validator_rules.specs.worked.Trees.{declared_functions, active_data, passive_data}
use Rattle.wasm_sections_parser.specs.Steps.{Shape, version, custom, code, entry, the_end}
use Rattle.wasm_sections_parser.specs.Steps as frame
use Rattle.wasm_module_validator_rules_in_order.specs.Sections.{Section, Item, code_place}
use Rattle.wasm_module_validator_rules_in_order.specs.Sections as section
use Rattle.wasm_module_validator_rules_in_order.specs.Adding.{Fits, Adds}
use Rattle.wasm_module_validator_rules_in_order.specs.Texts.{ItemRead, StandsFor}
use Rattle.wasm_module_validator_rules_in_order.specs.Steps.{SoFar, nothing, JudgesShape}

-- every feature, under these limits
abbrev pub under : Limits → Settings
under limits = record { features = 0xfff_ffff; limits = limits }

-- an item may be added, or not
abbrev pub May : Settings → (s : Section) → ModuleTree → Item s → Type 0
May z s m x = (n : ModuleTree) × Adds z s m x n

abbrev pub MayNot : Settings → (s : Section) → ModuleTree → Item s → Type 0
MayNot z s m x = May z s m x → ⊥

-- ---- modules that items are added to

abbrev pub with_type : ModuleTree
with_type = record empty { types = procedure ∷ [] }

abbrev pub with_function : ModuleTree
with_function = record with_type { functions = 0 ∷ [] }

abbrev pub importing : TypeRef → ModuleTree
importing t = record with_type { imports = imports t ∷ [] }

abbrev pub with_global : ℤ → ModuleTree
with_global x = record empty { globals = global_with (constant_of value.I32) (only (constant x)) ∷ [] }

-- ---- items

pub record TypesWorked : Type 0 where
  pub group : May everything section.types empty procedure
  pub group_behind : May everything section.types with_type procedure
  pub group_unknown : MayNot everything section.types empty (taking_and_giving (ref true (concrete 1) ∷ []) [])
  pub groups_full : MayNot (under (record default_limits { types = 1 })) section.types with_type (together [])
  pub types_full : MayNot (under (record default_limits { types = 1 })) section.types empty (together (final_type [] (function [] []) ∷ final_type [] (function [] []) ∷ []))
  pub begins : Fits (under (record default_limits { types = 2 })) section.types empty 2
  pub begins_not : Fits (under (record default_limits { types = 2 })) section.types empty 3 → ⊥
  pub imported : May everything section.imports with_type (imports (import.Func 0))
  pub import_unknown : MayNot everything section.imports empty (imports (import.Func 0))
  pub functions_full : MayNot (under (record default_limits { functions = 0 })) section.imports with_type (imports (import.Func 0))
  pub exact_functions_full : MayNot (under (record default_limits { functions = 0 })) section.imports with_type (imports (import.FuncExact 0))
  pub tables_full : MayNot (under (record default_limits { tables = 0 })) section.imports empty (imports (import.Table (table_with funcref 0)))
  pub memories_full : MayNot (under (record default_limits { memories = 0 })) section.imports empty (imports (import.Memory (memory_with 1 None)))
  pub globals_full : MayNot (under (record default_limits { globals = 0 })) section.imports empty (imports (import.Global (constant_of value.I32)))
  pub tags_full : MayNot (under (record default_limits { tags = 0 })) section.imports with_type (imports (import.Tag (tag_with 0)))
  pub import_small : May (under (record default_limits { type_size = 4 })) section.imports with_type (imports (import.Func 0))
  pub import_large : MayNot (under (record default_limits { type_size = 3 })) section.imports with_type (imports (import.Func 0))
  pub imports_begin : Fits (under (record default_limits { imports = 2 })) section.imports with_type 2
  pub imports_begin_not : Fits (under (record default_limits { imports = 2 })) section.imports with_type 3 → ⊥

pub record SpacesWorked (x : ℤ) : Type 0 where
  pub function : May everything section.functions with_type 0
  pub function_unknown : MayNot everything section.functions with_type 1
  pub functions_full : MayNot (under (record default_limits { functions = 1 })) section.functions (importing (import.Func 0)) 0
  pub functions_begin : Fits (under (record default_limits { functions = 2 })) section.functions (importing (import.Func 0)) 1
  pub functions_begin_not : Fits (under (record default_limits { functions = 2 })) section.functions (importing (import.Func 0)) 2 → ⊥
  pub table : May everything section.tables empty (null_table (table_with funcref 0))
  pub table_without_null : MayNot everything section.tables empty (null_table (table_with some_function 0))
  pub table_reads_own : MayNot everything section.tables (with_global x) (filled_table (table_with funcref 0) (only (global_get 0)))
  pub tables_full : MayNot (without ReferenceTypes) section.tables (importing (import.Table (table_with funcref 0))) (null_table (table_with funcref 0))
  pub tables_begin : Fits (under (record default_limits { tables = 2 })) section.tables (importing (import.Table (table_with funcref 0))) 1
  pub tables_begin_not : Fits (under (record default_limits { tables = 2 })) section.tables (importing (import.Table (table_with funcref 0))) 2 → ⊥
  pub memory : May everything section.memories empty (memory_with 1 (Some 2))
  pub memory_backwards : MayNot everything section.memories empty (memory_with 2 (Some 1))
  pub memories_full : MayNot (without MultiMemory) section.memories (importing (import.Memory (memory_with 1 None))) (memory_with 1 None)
  pub memories_begin : Fits (under (record default_limits { memories = 2 })) section.memories (importing (import.Memory (memory_with 1 None))) 1
  pub memories_begin_not : Fits (under (record default_limits { memories = 2 })) section.memories (importing (import.Memory (memory_with 1 None))) 2 → ⊥
  pub tag : May everything section.tags with_type (tag_with 0)
  pub tag_unknown : MayNot everything section.tags with_type (tag_with 1)
  pub tags_full : MayNot (under (record default_limits { tags = 1 })) section.tags (importing (import.Tag (tag_with 0))) (tag_with 0)
  pub tags_begin : Fits (under (record default_limits { tags = 2 })) section.tags (importing (import.Tag (tag_with 0))) 1
  pub tags_begin_not : Fits (under (record default_limits { tags = 2 })) section.tags (importing (import.Tag (tag_with 0))) 2 → ⊥
  pub global : May everything section.globals empty (global_with (constant_of value.I32) (only (constant x)))
  pub global_reads_earlier : May everything section.globals (with_global x) (global_with (constant_of value.I32) (only (global_get 0)))
  pub global_reads_itself : MayNot everything section.globals empty (global_with (constant_of value.I32) (only (global_get 0)))
  pub globals_full : MayNot (under (record default_limits { globals = 1 })) section.globals (importing (import.Global (constant_of value.I32)))
      (global_with (constant_of value.I32) (only (constant x)))
  pub globals_begin : Fits (under (record default_limits { globals = 2 })) section.globals (importing (import.Global (constant_of value.I32))) 1
  pub globals_begin_not : Fits (under (record default_limits { globals = 2 })) section.globals (importing (import.Global (constant_of value.I32))) 2 → ⊥

pub record SegmentsWorked (x : ℤ) : Type 0 where
  pub export : May everything section.exports with_function (exports 97 kind.Func 0)
  pub export_behind : May everything section.exports (record with_function { exports = exports 98 kind.Func 0 ∷ [] }) (exports 97 kind.Func 0)
  pub export_unknown : MayNot everything section.exports with_function (exports 97 kind.Func 1)
  pub export_twice : MayNot everything section.exports (record with_function { exports = exports 97 kind.Func 0 ∷ [] }) (exports 97 kind.Func 0)
  pub export_small : May (under (record default_limits { type_size = 6 })) section.exports (record (importing (import.Func 0)) { functions = 0 ∷ [] }) (exports 97 kind.Func 0)
  pub export_large : MayNot (under (record default_limits { type_size = 5 })) section.exports (record (importing (import.Func 0)) { functions = 0 ∷ [] }) (exports 97 kind.Func 0)
  pub exports_begin : Fits (under (record default_limits { exports = 2 })) section.exports with_function 2
  pub exports_begin_not : Fits (under (record default_limits { exports = 2 })) section.exports with_function 3 → ⊥
  pub start : May everything section.start with_function 0
  pub start_unknown : MayNot everything section.start with_function 1
  pub start_twice : MayNot everything section.start (record with_function { start = Some 0 }) 0
  pub element : May everything section.element_segments with_function (declared_functions (0 ∷ []))
  pub element_unknown : MayNot everything section.element_segments with_function (declared_functions (1 ∷ []))
  pub elements_full : MayNot (under (record default_limits { element_segments = 1 })) section.element_segments
      (record with_function { element_segments = declared_functions (0 ∷ []) ∷ [] }) (declared_functions (0 ∷ []))
  pub elements_begin : Fits (under (record default_limits { element_segments = 2 })) section.element_segments with_function 2
  pub elements_begin_not : Fits (under (record default_limits { element_segments = 2 })) section.element_segments with_function 3 → ⊥
  pub count : May (under (record default_limits { data_segments = 1 })) section.data_count empty 1
  pub count_needs : MayNot (without BulkMemory) section.data_count empty 1
  pub count_large : MayNot (under (record default_limits { data_segments = 1 })) section.data_count empty 2
  pub count_twice : MayNot everything section.data_count (record empty { data_count = Some 1 }) 1
  pub segment : May everything section.data_segments empty passive_data
  pub segment_unknown : MayNot everything section.data_segments empty (active_data (only (constant x)))
  pub segments_begin : Fits (under (record default_limits { data_segments = 2 })) section.data_segments empty 2
  pub segments_begin_not : Fits (under (record default_limits { data_segments = 2 })) section.data_segments empty 3 → ⊥

-- ---- items as they are read

abbrev pub Stands : (s : Section) → ItemRead s → Item s → Type 0
Stands s t x = StandsFor everything s t x

pub record ReadWorked (x : ℤ) : Type 0 where
  pub function : Stands section.functions 1 1
  pub function_differs : Stands section.functions 1 2 → ⊥
  pub table : Stands section.tables (record { ty = table_with funcref 0; init = None }) (null_table (table_with funcref 0))
  pub table_differs : Stands section.tables (record { ty = table_with funcref 1; init = None }) (null_table (table_with funcref 0)) → ⊥
  pub table_filled : Stands section.tables (record { ty = table_with funcref 0; init = None }) (filled_table (table_with funcref 0) (only (constant x))) → ⊥
  pub table_empty : Stands section.tables (record { ty = table_with funcref 0; init = Some [] }) (null_table (table_with funcref 0)) → ⊥
  pub global_of_no_bytes : Stands section.globals (record { ty = constant_of value.I32; init = [] }) (global_with (constant_of value.I32) (only (constant x))) → ⊥
  pub element : Stands section.element_segments (Some (record { mode = declared; items = functions (0 ∷ []) })) (declared_functions (0 ∷ []))
  pub element_differs : Stands section.element_segments (Some (record { mode = declared; items = functions (1 ∷ []) })) (declared_functions (0 ∷ [])) → ⊥
  pub element_of_another_mode : Stands section.element_segments (Some (record { mode = passive; items = functions (0 ∷ []) })) (declared_functions (0 ∷ [])) → ⊥
  pub element_none : Stands section.element_segments None (declared_functions (0 ∷ [])) → ⊥
  pub segment : Stands section.data_segments (record { mode = data_mode.passive; content = [] }) passive_data
  pub segment_differs : Stands section.data_segments (record { mode = data_mode.passive; content = 0 ∷ [] }) passive_data → ⊥
  pub segment_active : Stands section.data_segments (record { mode = data_mode.active 0 []; content = [] }) passive_data → ⊥

-- ---- frames

-- a frame comes behind what was judged, or not
abbrev pub Comes : SoFar → Shape → Type 0
Comes p x = (q : SoFar) × JudgesShape everything p x q

-- types and functions were read; and the code section has begun
abbrev pub read : SoFar
read = record { last = 3; tree = with_function; bodies = [] }

abbrev pub in_code : SoFar
in_code = record read { last = code_place }

pub record FramesWorked : Type 0 where
  pub header : JudgesShape everything nothing (version (record { version = 1; layer = 0 })) nothing
  pub header_of_another_version : Comes nothing (version (record { version = 2; layer = 0 })) → ⊥
  pub header_of_another_layer : Comes nothing (version (record { version = 1; layer = 1 })) → ⊥
  pub custom_section : JudgesShape everything read (custom [] []) read
  pub functions : JudgesShape everything (record { last = 1; tree = with_type; bodies = [] }) (frame.section 3 (0x01 ∷ 0x00 ∷ [])) read
  pub functions_of_no_type : JudgesShape everything (record { last = 1; tree = with_type; bodies = [] }) (frame.section 3 (0x01 ∷ 0x01 ∷ []))
      (record read { tree = record with_type { functions = 1 ∷ [] } }) → ⊥
  pub functions_spelled_otherwise : JudgesShape everything (record { last = 1; tree = with_type; bodies = [] }) (frame.section 3 (0x02 ∷ 0x00 ∷ [])) read → ⊥
  pub functions_late : Comes read (frame.section 3 (0x01 ∷ 0x00 ∷ [])) → ⊥
  pub section_unknown : Comes read (frame.section 14 []) → ⊥
  pub code_begins : JudgesShape everything read (code 1 4) in_code
  pub code_twice : Comes in_code (code 1 4) → ⊥
  pub body : JudgesShape everything in_code (entry (0x00 ∷ 0x0b ∷ [])) (record in_code { bodies = (0x00 ∷ 0x0b ∷ []) ∷ [] })
  pub body_without_function : Comes (record in_code { bodies = [] ∷ [] }) (entry (0x00 ∷ 0x0b ∷ [])) → ⊥
  pub body_before_code : Comes read (entry (0x00 ∷ 0x0b ∷ [])) → ⊥
  pub body_long : ((q : SoFar) × JudgesShape (under (record default_limits { body_bytes = 1 })) in_code (entry (0x00 ∷ 0x0b ∷ [])) q) → ⊥
  pub end : JudgesShape everything in_code the_end in_code
