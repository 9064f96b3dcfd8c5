-- Which bytes stand for items (WebAssembly 3.0, binary format, modules): the contents of whole sections, and items as they are read,
-- with the bytes of constant expressions in the place of their code.
use Rattle.std.specs.Prelude.{◌≡◌, ℕ, List, Option, Some, None}
use Rattle.std.specs.List.{AllZip}
use Rattle.wasm_types.specs.decoding.Leb.{IsUnsigned}
use Rattle.wasm_types.specs.settings.Settings.{Settings}
use Rattle.wasm_types.specs.externs.Spells.{SpelledMemory, SpelledTag}
use Rattle.wasm_sections_items.specs.imports.Spells.{SpelledImport, SpelledExport}
use Rattle.wasm_sections_items.specs.segments.Spells.{GlobalTree, DataTree, DataMode, SpelledGlobalItem, SpelledData}
use Rattle.wasm_sections_items.specs.segments.Spells as data_mode
use Rattle.wasm_sections_items.specs.segments.Tables.{TableTree, SpelledTableItem}
use Rattle.wasm_sections_items.specs.elements.Spells.{ElementTree, ElementMode, ElementItems, passive, active, declared, functions, expressions, SpelledElement}
use Rattle.wasm_operators_encoding.specs.expressions.Code.{Code}
use Rattle.wasm_operators_encoding.specs.expressions.Spelling.{SpelledExpression}
use Rattle.wasm_module_validator_rules.specs.Syntax.{ModuleTree}
use Rattle.wasm_module_validator_rules.specs.Binary.{SpelledGroup, SpelledConstant, SpelledItems, SpelledNumber, MayHaveTags}
use Rattle.wasm_module_validator_rules_in_order.specs.Sections.{Section, Item}
use Rattle.wasm_module_validator_rules_in_order.specs.Sections as section
use Rattle.wasm_module_validator_rules_in_order.specs.Adding.{Adds}

-- ---- whole sections

-- the contents of a section, if it is there, spell what the module has of it (binary format, modules)
abbrev pub SpelledSection : Settings → Section → ModuleTree → Option (List ℕ) → Type 0
SpelledSection z section.types m text = SpelledItems (SpelledGroup z) m.types text
SpelledSection z section.imports m text = SpelledItems (SpelledImport z) m.imports text
SpelledSection z section.functions m text = SpelledItems (IsUnsigned 32) m.functions text
SpelledSection z section.tables m text = SpelledItems (SpelledTableItem (SpelledConstant z)) m.tables text
SpelledSection z section.memories m text = SpelledItems SpelledMemory m.memories text
SpelledSection z section.tags m text = SpelledItems SpelledTag m.tags text × MayHaveTags z text
SpelledSection z section.globals m text = SpelledItems (SpelledGlobalItem (SpelledConstant z)) m.globals text
SpelledSection z section.exports m text = SpelledItems (SpelledExport z) m.exports text
SpelledSection z section.start m text = SpelledNumber m.start text
SpelledSection z section.element_segments m text = SpelledItems (SpelledElement (SpelledConstant z)) m.element_segments text
SpelledSection z section.data_count m text = SpelledNumber m.data_count text
SpelledSection z section.data_segments m text = SpelledItems (SpelledData (SpelledConstant z)) m.data_segments text

-- ---- items as they are read

-- What is read of an item: the item, where it has no constant expression, and else the item over their bytes. An element segment is none
-- where its readers have other elements than they count.
abbrev pub ItemRead : Section → Type 0
ItemRead section.tables = TableTree (List ℕ)
ItemRead section.globals = GlobalTree (List ℕ)
ItemRead section.element_segments = Option (ElementTree (List ℕ))
ItemRead section.data_segments = DataTree (List ℕ)
ItemRead section.types = Item section.types
ItemRead section.imports = Item section.imports
ItemRead section.functions = Item section.functions
ItemRead section.memories = Item section.memories
ItemRead section.tags = Item section.tags
ItemRead section.exports = Item section.exports
ItemRead section.start = Item section.start
ItemRead section.data_count = Item section.data_count

-- these bytes, if they are there, spell this expression (binary format, expressions)
abbrev pub SpelledInit : Settings → Option (List ℕ) → Option Code → Type 0
SpelledInit z None None = Unit {0}
SpelledInit z None (Some c) = ⊥
SpelledInit z (Some text) None = ⊥
SpelledInit z (Some text) (Some c) = SpelledExpression z c text

-- the same of the offset of a data segment, in the same memory
abbrev pub SpelledDataMode : Settings → DataMode (List ℕ) → DataMode Code → Type 0
SpelledDataMode z data_mode.passive data_mode.passive = Unit {0}
SpelledDataMode z data_mode.passive (data_mode.active y c) = ⊥
SpelledDataMode z (data_mode.active x text) data_mode.passive = ⊥
SpelledDataMode z (data_mode.active x text) (data_mode.active y c) = (x ≡ y) × SpelledExpression z c text

-- the same of the offset of an element segment, in the same table
abbrev pub SpelledMode : Settings → ElementMode (List ℕ) → ElementMode Code → Type 0
SpelledMode z passive passive = Unit {0}
SpelledMode z passive (active y c) = ⊥
SpelledMode z passive declared = ⊥
SpelledMode z (active x text) passive = ⊥
SpelledMode z (active x text) (active y c) = (x ≡ y) × SpelledExpression z c text
SpelledMode z (active x text) declared = ⊥
SpelledMode z declared passive = ⊥
SpelledMode z declared (active y c) = ⊥
SpelledMode z declared declared = Unit {0}

-- the same of its elements: the same functions, or expressions of the same type
abbrev pub SpelledElements : Settings → ElementItems (List ℕ) → ElementItems Code → Type 0
SpelledElements z (functions xs) (functions ys) = xs ≡ ys
SpelledElements z (functions xs) (expressions r cs) = ⊥
SpelledElements z (expressions q texts) (functions ys) = ⊥
SpelledElements z (expressions q texts) (expressions r cs) = (q ≡ r) × AllZip (λ text c. SpelledExpression z c text) texts cs

-- an element segment, if there is one
abbrev pub SpelledElementRead : Settings → Option (ElementTree (List ℕ)) → ElementTree Code → Type 0
SpelledElementRead z None x = ⊥
SpelledElementRead z (Some t) x = SpelledMode z t.mode x.mode × SpelledElements z t.items x.items

-- what was read stands for this item: it is the item, or its bytes spell the expressions of the item
abbrev pub StandsFor : Settings → (s : Section) → ItemRead s → Item s → Type 0
StandsFor z section.tables t x = (x.ty ≡ t.ty) × SpelledInit z t.init x.init
StandsFor z section.globals t x = (x.ty ≡ t.ty) × SpelledExpression z x.init t.init
StandsFor z section.element_segments t x = SpelledElementRead z t x
StandsFor z section.data_segments t x = SpelledDataMode z t.mode x.mode × (x.content ≡ t.content)
StandsFor z section.types t x = x ≡ t
StandsFor z section.imports t x = x ≡ t
StandsFor z section.functions t x = x ≡ t
StandsFor z section.memories t x = x ≡ t
StandsFor z section.tags t x = x ≡ t
StandsFor z section.exports t x = x ≡ t
StandsFor z section.start t x = x ≡ t
StandsFor z section.data_count t x = x ≡ t

-- n is m with an item more that stands for what was read
abbrev pub AddsRead : Settings → (s : Section) → ModuleTree → ItemRead s → ModuleTree → Type 0
AddsRead z s m t n = (x : Item s) × StandsFor z s t x × Adds z s m x n
