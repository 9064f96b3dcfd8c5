-- Which bytes spell a module (WebAssembly 3.0, binary format, modules), by the features and limits of some settings.
--
-- The outer spelling says where sections stand, and leaves their contents and the entries of the code section bytes. Here each
-- section's contents are spelled by its items, a section that is absent stands for no items, and each entry of the code section
-- is spelled by locals and one expression, to its last byte.
use Rattle.std.specs.Prelude.{◌≡◌, ℕ, ◌≤◌, ◌==◌, List, [], ◌∷◌, ◌++◌, length, map, Option, Some, None, if◌then◌else◌}
use Rattle.std.specs.List.{AllZip}
use Rattle.wasm_types.specs.decoding.Decoder.{Grammar}
use Rattle.wasm_types.specs.decoding.Leb.{IsUnsigned, IsListed}
use Rattle.wasm_types.specs.settings.Settings.{Settings}
use Rattle.wasm_types.specs.settings.Features.{Exceptions}
use Rattle.wasm_types.specs.trees.declared.index.UnpackedIndex.TheVariants as index
use Rattle.wasm_types.specs.trees.Types.{SubtypeOf, entry_of_subtype, subtype_map}
use Rattle.wasm_types.specs.trees.Gates.{Has}
use Rattle.wasm_types.specs.trees.ValidGroup.{Written}
use Rattle.wasm_types.specs.Entries.{Declared}
use Rattle.wasm_types.specs.Spells.{SpellsGroup}
use Rattle.wasm_types.specs.externs.Spells.{SpelledMemory, SpelledTag}
use Rattle.wasm_operators_encoding.specs.expressions.Code.{Code, walk}
use Rattle.wasm_operators_encoding.specs.expressions.Spelling.{SpelledExpression}
use Rattle.wasm_operators_encoding.specs.Locals.{SpelledLocals}
use Rattle.wasm_operators_encoding.specs.Ends.{EndsOnce}
use Rattle.wasm_sections_items.specs.frames.Outer.{Part, custom, code, section, Outer, SpelledOuter, IsCoreModule}
use Rattle.wasm_sections_items.specs.imports.Spells.{SpelledImport, SpelledExport}
use Rattle.wasm_sections_items.specs.segments.Spells.{SpelledGlobalItem, SpelledData}
use Rattle.wasm_sections_items.specs.segments.Tables.{SpelledTableItem}
use Rattle.wasm_sections_items.specs.elements.Spells.{SpelledElement}
use Rattle.wasm_module_validator_rules.specs.Syntax.{Function, ModuleTree}

-- ---- items

-- a subtype with all that it declares, where each index is one of the module
abbrev pub declared_by : SubtypeOf ℕ → Declared
declared_by x = record { supertypes = map index.Module x.supertypes; entry = entry_of_subtype (subtype_map index.Module x) }

-- standard: binary-typesec: rectype over indices of the module
-- rectype (binary format, types, recursive types)
abbrev pub SpelledGroup : Settings → Grammar Written
SpelledGroup z g text = SpellsGroup z g.is_explicit (map declared_by g.types) text

-- standard: binary-expr: constant expressions
-- expr (binary format, expressions), in which the only `end` is the last operator: so it is in constant expressions
pub record SpelledConstant (z : Settings) (c : Code) (text : List ℕ) : Type 0 where
  pub spelled : SpelledExpression z c text
  pub once : EndsOnce (walk c)

-- standard: binary-codesec: func (differs: at most as many bytes as the limit)
-- func ::= loc**:list(locals) e:expr, to the last byte of an entry of the code section (binary format, modules, code section),
-- and no more bytes than the limit
pub record SpelledFunction (z : Settings) (f : Function) (text : List ℕ) : Type 0 where
  pub locals_text : List ℕ
  pub body_text : List ℕ
  pub within : length text ≤ z.limits.body_bytes
  pub locals : SpelledLocals z f.locals locals_text
  pub body : SpelledExpression z f.body body_text
  pub whole : text ≡ locals_text ++ body_text

-- ---- sections

-- the contents of the section with this id, if there is one
abbrev pub contents : ℕ → List Part → Option (List ℕ)
contents id [] = None
contents id (custom name content ∷ ps) = contents id ps
contents id (code entries ∷ ps) = contents id ps
contents id (section i content ∷ ps) = if i == id then Some content else contents id ps

-- the entries of the code section, none where it is absent
abbrev pub entries_of : List Part → List (List ℕ)
entries_of [] = []
entries_of (custom name content ∷ ps) = entries_of ps
entries_of (code entries ∷ ps) = entries
entries_of (section id content ∷ ps) = entries_of ps

-- standard: binary-section: section(list(X)), empty if it is absent
-- a section of items: a list of them, none where it is absent
abbrev pub SpelledItems : {A : Type 0} → Grammar A → List A → Option (List ℕ) → Type 0
SpelledItems g xs None = xs ≡ []
SpelledItems g xs (Some text) = IsListed g xs text

-- standard: binary-startsec: startsec, start
-- standard: binary-datacountsec: datacntsec
-- a section that is one number, if it is there
abbrev pub SpelledNumber : Option ℕ → Option (List ℕ) → Type 0
SpelledNumber None None = Unit {0}
SpelledNumber None (Some text) = ⊥
SpelledNumber (Some n) None = ⊥
SpelledNumber (Some n) (Some text) = IsUnsigned 32 n text

-- standard: changes: a tag section needs exceptions
-- a tag section, even one without tags, needs the feature of exceptions
abbrev pub MayHaveTags : Settings → Option (List ℕ) → Type 0
MayHaveTags z None = Unit {0}
MayHaveTags z (Some text) = Has z.features Exceptions

-- ---- modules

-- standard: binary-module: the contents of each section
-- standard: binary-funcsec: funcsec
-- standard: binary-memsec: memsec
-- standard: binary-tagsec: tagsec
-- what stands in the sections (binary format, modules); and the entries of the code section spell this
pub record SpelledSectionsWith (Bodies : List (List ℕ) → Type 0) (z : Settings) (m : ModuleTree) (ps : List Part) : Type 0 where
  pub types : SpelledItems (SpelledGroup z) m.types (contents 1 ps)
  pub imports : SpelledItems (SpelledImport z) m.imports (contents 2 ps)
  pub functions : SpelledItems (IsUnsigned 32) m.functions (contents 3 ps)
  pub tables : SpelledItems (SpelledTableItem (SpelledConstant z)) m.tables (contents 4 ps)
  pub memories : SpelledItems SpelledMemory m.memories (contents 5 ps)
  pub tags : SpelledItems SpelledTag m.tags (contents 13 ps)
  pub tags_allowed : MayHaveTags z (contents 13 ps)
  pub globals : SpelledItems (SpelledGlobalItem (SpelledConstant z)) m.globals (contents 6 ps)
  pub exports : SpelledItems (SpelledExport z) m.exports (contents 7 ps)
  pub start : SpelledNumber m.start (contents 8 ps)
  pub element_segments : SpelledItems (SpelledElement (SpelledConstant z)) m.element_segments (contents 9 ps)
  pub data_count : SpelledNumber m.data_count (contents 12 ps)
  pub code : Bodies (entries_of ps)
  pub data_segments : SpelledItems (SpelledData (SpelledConstant z)) m.data_segments (contents 11 ps)

-- standard: binary-module: module
-- module ::= magic version, and sections in order (binary format, modules): version 1, no other layer, no section of another id,
-- as many functions defined as declared, and as many data segments as the data count says, if it is there
pub record SpelledModuleWith (Bodies : List (List ℕ) → Type 0) (z : Settings) (m : ModuleTree) (text : List ℕ) : Type 0 where
  pub outer : Outer
  pub framed : SpelledOuter z outer text
  pub core : IsCoreModule outer
  pub sections : SpelledSectionsWith Bodies z m outer.parts

-- standard: binary-codesec: codesec
-- the entries of the code section spell the module's code
abbrev pub SpelledCode : Settings → ModuleTree → List (List ℕ) → Type 0
SpelledCode z m ts = AllZip (SpelledFunction z) m.code ts

abbrev pub SpelledSections : Settings → ModuleTree → List Part → Type 0
SpelledSections z m ps = SpelledSectionsWith (SpelledCode z m) z m ps

-- standard: binary-module: module
abbrev pub SpelledModule : Settings → ModuleTree → List ℕ → Type 0
SpelledModule z m text = SpelledModuleWith (SpelledCode z m) z m text
