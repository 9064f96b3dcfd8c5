-- Which bytes give what is read of an item, with the bytes of constant expressions in the place of their code; and which spell the item
-- (WebAssembly 3.0, binary format, modules).
use Rattle.std.specs.Prelude.{ℕ, List}
use Rattle.wasm_types.specs.decoding.Leb.{IsUnsigned}
use Rattle.wasm_types.specs.settings.Settings.{Settings}
use Rattle.wasm_types.specs.externs.Spells.{SpelledMemory, SpelledTag}
use Rattle.wasm_operators_encoding.specs.ConstantDecoder.{ConstantText}
use Rattle.wasm_sections_items.specs.imports.Spells.{SpelledImport, SpelledExport}
use Rattle.wasm_sections_items.specs.segments.Spells.{SpelledGlobalItem, SpelledData}
use Rattle.wasm_sections_items.specs.segments.Tables.{SpelledTableItem}
use Rattle.wasm_sections_items.specs.elements.Spells.{SpelledElement, SpelledSegment}
use Rattle.wasm_module_validator_rules_in_order.specs.rules.Binary.{SpelledGroup, SpelledConstant}
use Rattle.wasm_module_validator_rules_in_order.specs.Sections.{Section, Item}
use Rattle.wasm_module_validator_rules_in_order.specs.Sections as section
use Rattle.wasm_module_validator_rules_in_order.specs.Texts.{ItemRead}

-- what is read of an item of a section
abbrev pub SpelledRead : Settings → (s : Section) → ItemRead s → List ℕ → Type 0
SpelledRead z section.types t text = SpelledGroup z t text
SpelledRead z section.imports t text = SpelledImport z t text
SpelledRead z section.functions t text = IsUnsigned 32 t text
SpelledRead z section.tables t text = SpelledTableItem (ConstantText z) t text
SpelledRead z section.memories t text = SpelledMemory t text
SpelledRead z section.tags t text = SpelledTag t text
SpelledRead z section.globals t text = SpelledGlobalItem (ConstantText z) t text
SpelledRead z section.exports t text = SpelledExport z t text
SpelledRead z section.start t text = IsUnsigned 32 t text
SpelledRead z section.element_segments t text = SpelledSegment (ConstantText z) t text
SpelledRead z section.data_count t text = IsUnsigned 32 t text
SpelledRead z section.data_segments t text = SpelledData (ConstantText z) t text

-- the item itself
abbrev pub SpelledItem : Settings → (s : Section) → Item s → List ℕ → Type 0
SpelledItem z section.types x text = SpelledGroup z x text
SpelledItem z section.imports x text = SpelledImport z x text
SpelledItem z section.functions x text = IsUnsigned 32 x text
SpelledItem z section.tables x text = SpelledTableItem (SpelledConstant z) x text
SpelledItem z section.memories x text = SpelledMemory x text
SpelledItem z section.tags x text = SpelledTag x text
SpelledItem z section.globals x text = SpelledGlobalItem (SpelledConstant z) x text
SpelledItem z section.exports x text = SpelledExport z x text
SpelledItem z section.start x text = IsUnsigned 32 x text
SpelledItem z section.element_segments x text = SpelledElement (SpelledConstant z) x text
SpelledItem z section.data_count x text = IsUnsigned 32 x text
SpelledItem z section.data_segments x text = SpelledData (SpelledConstant z) x text
