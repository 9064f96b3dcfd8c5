-- What the first store of a module is made of (WebAssembly 3.0, execution, modules, instantiation): how much of it is imported, its own
-- globals, tables and memories, and its element segments and data segments.
use Rattle.std.specs.Prelude.{List, length, map}
use Rattle.wasm_sections_items.specs.segments.Spells.{GlobalTree, DataTree, DataMode}
use Rattle.wasm_sections_items.specs.segments.Spells as data_mode
use Rattle.wasm_sections_items.specs.segments.Tables.{TableTree}
use Rattle.wasm_sections_items.specs.elements.Spells.{ElementTree, ElementMode, ElementItems, passive, active, declared, functions, expressions}
use Rattle.wasm_operators_encoding.specs.expressions.Code.{Code}
use Rattle.wasm_module_validator_rules.specs.Syntax.{ModuleTree}
use Rattle.wasm_module_validator_rules.specs.Spaces.{imported, imported_globals, table_of, memory_of, tag_of}
use Rattle.wasm_module_validator_rules.specs.Valid.{table_index}
use Rattle.wasm_operator_validator_store.specs.Instantiation.{Filling, Item, function_item, constant_item, Use, kept, dropped, written, Segment, DataSegment, Initials}

-- a table is as large as its type says
abbrev pub filling_of : TableTree Code → Filling
filling_of x = record { size = x.ty.initial; constant = x.init }

abbrev pub items_of : ElementItems Code → List Item
items_of (functions xs) = map function_item xs
items_of (expressions r cs) = map constant_item cs

abbrev pub use_of : ElementMode Code → Use
use_of passive = kept
use_of declared = dropped
use_of (active x c) = written (table_index x) c

abbrev pub segment_of : ElementTree Code → Segment
segment_of x = record { items = items_of x.items; first_use = use_of x.mode }

abbrev pub data_use_of : DataMode Code → Use
data_use_of data_mode.passive = kept
data_use_of (data_mode.active x c) = written x c

abbrev pub data_segment_of : DataTree Code → DataSegment
data_segment_of x = record { bytes = x.content; first_use = data_use_of x.mode }

abbrev pub initials_of : ModuleTree → Initials
initials_of m = record {
  imported_globals = imported_globals m;
  imported_tables = length (imported table_of m);
  imported_memories = length (imported memory_of m);
  imported_tags = length (imported tag_of m);
  globals = map (λ (x : GlobalTree Code). x.init) m.globals;
  tables = map filling_of m.tables;
  segments = map segment_of m.element_segments;
  data_segments = map data_segment_of m.data_segments;
}
