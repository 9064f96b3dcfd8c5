-- Modules that are valid as they are read (WebAssembly 3.0, validation, modules; binary format, modules).
--
-- The rules judge each item in the context of the whole module. Here it is judged where it stands: in the context of the items
-- before it, in the order in which the binary format has the sections. A constant may refer there to each function that was
-- declared, since in the whole module each function that it names is among those that code may refer to. The laws of this crate
-- promise that both judgements are the same.
use Rattle.std.specs.Prelude.{◌≡◌, ℕ, suc, List, [], ◌∷◌, ◌++◌, length, None}
use Rattle.std.specs.List.{AllZip}
use Rattle.wasm_types.specs.settings.Settings.{Settings}
use Rattle.wasm_types.specs.settings.Features.{BulkMemory}
use Rattle.wasm_types.specs.externs.declared.memory.MemoryType.{MemoryType}
use Rattle.wasm_types.specs.externs.declared.tag.TagType.{TagType}
use Rattle.wasm_types.specs.trees.Gates.{Has}
use Rattle.wasm_types.specs.trees.ValidGroup.{AreValidGroups}
use Rattle.wasm_sections_items.specs.imports.Spells.{ImportTree, ExportTree}
use Rattle.wasm_sections_items.specs.segments.Spells.{GlobalTree, DataTree}
use Rattle.wasm_sections_items.specs.segments.Tables.{TableTree}
use Rattle.wasm_sections_items.specs.elements.Spells.{ElementTree}
use Rattle.wasm_operators_encoding.specs.expressions.Code.{Code}
use Rattle.wasm_operator_validator_rules.specs.Context.{Module}
use Rattle.wasm_module_validator_rules.specs.Syntax.{ModuleTree}
use Rattle.wasm_module_validator_rules.specs.Spaces.{types_behind, function_space, imported_globals, module_of}
use Rattle.wasm_module_validator_rules.specs.Valid.{Each, IfThere, IsFunctionIndex, IsValidMemoryType, IsValidTagType, IsValidImport, IsValidExport, IsValidTable}
use Rattle.wasm_module_validator_rules.specs.Valid.{IsValidGlobal, IsValidStart, IsValidElement, IsValidData, HasValidBody, IsWithinLimits}

-- ---- modules as far as they were read, in the order of their sections

-- nothing was read
abbrev pub no_items : ModuleTree
no_items = record {
  types = [];
  imports = [];
  functions = [];
  tables = [];
  memories = [];
  tags = [];
  globals = [];
  exports = [];
  start = None;
  element_segments = [];
  data_count = None;
  code = [];
  data_segments = [];
}

-- the sections before one, and of this one the items that are given
abbrev pub types_read : ModuleTree → ModuleTree
types_read m = record no_items { types = m.types }

abbrev pub imports_read : ModuleTree → List ImportTree → ModuleTree
imports_read m xs = record (types_read m) { imports = xs }

abbrev pub functions_read : ModuleTree → List ℕ → ModuleTree
functions_read m xs = record (imports_read m m.imports) { functions = xs }

abbrev pub tables_read : ModuleTree → List (TableTree Code) → ModuleTree
tables_read m xs = record (functions_read m m.functions) { tables = xs }

abbrev pub memories_read : ModuleTree → List MemoryType → ModuleTree
memories_read m xs = record (tables_read m m.tables) { memories = xs }

abbrev pub tags_read : ModuleTree → List TagType → ModuleTree
tags_read m xs = record (memories_read m m.memories) { tags = xs }

abbrev pub globals_read : ModuleTree → List (GlobalTree Code) → ModuleTree
globals_read m xs = record (tags_read m m.tags) { globals = xs }

abbrev pub exports_read : ModuleTree → List ExportTree → ModuleTree
exports_read m xs = record (globals_read m m.globals) { exports = xs }

abbrev pub elements_read : ModuleTree → List (ElementTree Code) → ModuleTree
elements_read m xs = record (exports_read m m.exports) { start = m.start; element_segments = xs }

abbrev pub data_count_read : ModuleTree → ModuleTree
data_count_read m = record (elements_read m m.element_segments) { data_count = m.data_count }

abbrev pub data_read : ModuleTree → List (DataTree Code) → ModuleTree
data_read m xs = record (data_count_read m) { code = m.code; data_segments = xs }

-- ---- the context so far

-- the places of a list, counted from this one on
abbrev pub places_from : {A : Type 0} → ℕ → List A → List ℕ
places_from i [] = []
places_from i (x ∷ xs) = i ∷ places_from (suc i) xs

-- the context of what was read, in which a constant may refer to each function
abbrev pub context_so_far : ModuleTree → Module
context_so_far m = record (module_of m) { referenced = places_from 0 (function_space m) }

-- each of these, behind those before it
abbrev pub InTurn : {A : Type 0} → (List A → A → Type 0) → List A → List A → Type 0
InTurn P before [] = Unit {0}
InTurn P before (x ∷ xs) = P before x × InTurn P (before ++ x ∷ []) xs

-- ---- items, each in the context so far

abbrev pub IsImportInTurn : Settings → ModuleTree → List ImportTree → ImportTree → Type 0
IsImportInTurn z m before x = IsValidImport z (context_so_far (imports_read m before)) x.ty

abbrev pub IsFunctionInTurn : Settings → ModuleTree → List ℕ → ℕ → Type 0
IsFunctionInTurn z m before x = IsFunctionIndex (context_so_far (functions_read m before)) x

abbrev pub IsTableInTurn : Settings → ModuleTree → List (TableTree Code) → TableTree Code → Type 0
IsTableInTurn z m before x = IsValidTable z (context_so_far (tables_read m before)) (imported_globals m) x

abbrev pub IsTagInTurn : Settings → ModuleTree → List TagType → TagType → Type 0
IsTagInTurn z m before x = IsValidTagType z (context_so_far (tags_read m before)) x

-- the value of a global sees all globals before it
abbrev pub IsGlobalInTurn : Settings → ModuleTree → List (GlobalTree Code) → GlobalTree Code → Type 0
IsGlobalInTurn z m before x = IsValidGlobal z (context_so_far (globals_read m before)) (imported_globals m)
    (length (context_so_far (globals_read m before)).globals) x

-- no export before it has its name
abbrev pub IsExportInTurn : Settings → ModuleTree → List ExportTree → ExportTree → Type 0
IsExportInTurn z m before x = IsValidExport z (context_so_far (exports_read m before)) x.kind x.index × Each (λ (e : ExportTree). e.name ≡ x.name → ⊥) before

abbrev pub IsElementInTurn : Settings → ModuleTree → List (ElementTree Code) → ElementTree Code → Type 0
IsElementInTurn z m before x = IsValidElement z (context_so_far (elements_read m before)) (imported_globals m) x

abbrev pub IsDataInTurn : Settings → ModuleTree → List (DataTree Code) → DataTree Code → Type 0
IsDataInTurn z m before x = IsValidData z (context_so_far (data_read m before)) (imported_globals m) x.mode

-- ---- modules

-- The module is valid as it is read: each item in its turn; and of its bodies this holds.
pub record IsValidInOrderWith (Bodies : Type 0) (z : Settings) (m : ModuleTree) : Type 0 where
  pub types : AreValidGroups z [] m.types (types_behind [] m.types)
  pub imports : InTurn (IsImportInTurn z m) [] m.imports
  pub functions : InTurn (IsFunctionInTurn z m) [] m.functions
  pub tables : InTurn (IsTableInTurn z m) [] m.tables
  pub memories : Each (IsValidMemoryType z) m.memories
  pub tags : InTurn (IsTagInTurn z m) [] m.tags
  pub globals : InTurn (IsGlobalInTurn z m) [] m.globals
  pub exports : InTurn (IsExportInTurn z m) [] m.exports
  pub start : IfThere (IsValidStart (context_so_far (exports_read m m.exports))) m.start
  pub element_segments : InTurn (IsElementInTurn z m) [] m.element_segments
  pub data_count : IfThere (λ n. Has z.features BulkMemory) m.data_count
  pub code : Bodies
  pub data_segments : InTurn (IsDataInTurn z m) [] m.data_segments
  pub limits : IsWithinLimits z (module_of m) m

-- so with bodies that are valid after all functions are known that code may refer to
abbrev pub IsValidInOrder : Settings → ModuleTree → Type 0
IsValidInOrder z m = IsValidInOrderWith (AllZip (HasValidBody z (module_of (data_count_read m))) m.functions m.code) z m
