-- The sections that a module has beside its code, each with its id, its place and its items (WebAssembly 3.0, structure, modules; binary
-- format, modules).
use Rattle.std.specs.Prelude.{◌≡◌, ℕ, suc, nat_lt, if◌then◌else◌, List, [], ◌∷◌, ◌++◌, Option, Some, None}
use Rattle.wasm_types.specs.trees.ValidGroup.{Written}
use Rattle.wasm_types.specs.externs.declared.memory.MemoryType.{MemoryType}
use Rattle.wasm_types.specs.externs.declared.tag.TagType.{TagType}
use Rattle.wasm_sections_items.specs.imports.Spells.{ImportTree, ExportTree}
use Rattle.wasm_sections_items.specs.segments.Spells.{GlobalTree, DataTree}
use Rattle.wasm_sections_items.specs.segments.Tables.{TableTree}
use Rattle.wasm_sections_items.specs.elements.Spells.{ElementTree}
use Rattle.wasm_operators_encoding.specs.expressions.Code.{Code}
use Rattle.wasm_module_validator_rules.specs.Syntax.{ModuleTree}

-- ---- sections

-- a section of items, or of one number, in their order; the code section is none of them, since its functions come one by one
pub data Section : Type 0 where
  types : Section
  imports : Section
  functions : Section
  tables : Section
  memories : Section
  tags : Section
  globals : Section
  exports : Section
  start : Section
  element_segments : Section
  data_count : Section
  data_segments : Section

-- its id (binary format, modules, sections)
abbrev pub number : Section → ℕ
number types = 1
number imports = 2
number functions = 3
number tables = 4
number memories = 5
number tags = 13
number globals = 6
number exports = 7
number start = 8
number element_segments = 9
number data_count = 12
number data_segments = 11

-- its place in the order of sections; that of the code section is between the last two (binary format, modules)
abbrev pub place : Section → ℕ
place types = 1
place imports = 2
place functions = 3
place tables = 4
place memories = 5
place tags = 6
place globals = 7
place exports = 8
place start = 9
place element_segments = 10
place data_count = 11
place data_segments = 13

abbrev pub code_place : ℕ
code_place = 12

-- ---- items

-- what a section holds
abbrev pub Item : Section → Type 0
Item types = Written
Item imports = ImportTree
Item functions = ℕ
Item tables = TableTree Code
Item memories = MemoryType
Item tags = TagType
Item globals = GlobalTree Code
Item exports = ExportTree
Item start = ℕ
Item element_segments = ElementTree Code
Item data_count = ℕ
Item data_segments = DataTree Code

-- what there is of one thing
abbrev pub as_list : {A : Type 0} → Option A → List A
as_list None = []
as_list (Some x) = x ∷ []

-- what a module has of it
abbrev pub items : (s : Section) → ModuleTree → List (Item s)
items types m = m.types
items imports m = m.imports
items functions m = m.functions
items tables m = m.tables
items memories m = m.memories
items tags m = m.tags
items globals m = m.globals
items exports m = m.exports
items start m = as_list m.start
items element_segments m = m.element_segments
items data_count m = as_list m.data_count
items data_segments m = m.data_segments

-- the module with one item more
abbrev pub adding : (s : Section) → ModuleTree → Item s → ModuleTree
adding types m x = record m { types = m.types ++ x ∷ [] }
adding imports m x = record m { imports = m.imports ++ x ∷ [] }
adding functions m x = record m { functions = m.functions ++ x ∷ [] }
adding tables m x = record m { tables = m.tables ++ x ∷ [] }
adding memories m x = record m { memories = m.memories ++ x ∷ [] }
adding tags m x = record m { tags = m.tags ++ x ∷ [] }
adding globals m x = record m { globals = m.globals ++ x ∷ [] }
adding exports m x = record m { exports = m.exports ++ x ∷ [] }
adding start m x = record m { start = Some x }
adding element_segments m x = record m { element_segments = m.element_segments ++ x ∷ [] }
adding data_count m x = record m { data_count = Some x }
adding data_segments m x = record m { data_segments = m.data_segments ++ x ∷ [] }

-- ---- modules as far as a section

-- something of this place, where that is below k, and else nothing
abbrev pub below : {A : Type 0} → A → ℕ → ℕ → A → A
below none p k x = if nat_lt p k then x else none

-- the sections of a module with a place below k
abbrev pub front : ℕ → ModuleTree → ModuleTree
front k m = record {
  types = below [] (place types) k m.types;
  imports = below [] (place imports) k m.imports;
  functions = below [] (place functions) k m.functions;
  tables = below [] (place tables) k m.tables;
  memories = below [] (place memories) k m.memories;
  tags = below [] (place tags) k m.tags;
  globals = below [] (place globals) k m.globals;
  exports = below [] (place exports) k m.exports;
  start = below None (place start) k m.start;
  element_segments = below [] (place element_segments) k m.element_segments;
  data_count = below None (place data_count) k m.data_count;
  code = [];
  data_segments = below [] (place data_segments) k m.data_segments;
}

-- what stands before a section; and with the section
abbrev pub before : Section → ModuleTree → ModuleTree
before s m = front (place s) m

abbrev pub up_to : Section → ModuleTree → ModuleTree
up_to s m = front (suc (place s)) m

-- nothing was read of a section, nor of what stands behind it
abbrev pub IsUnread : Section → ModuleTree → Type 0
IsUnread s m = m ≡ before s m

-- n is m with this section more, which stands behind all that m has
pub record IsWithSection (s : Section) (m n : ModuleTree) : Type 0 where
  pub kept : m ≡ before s n
  pub last : n ≡ up_to s n
