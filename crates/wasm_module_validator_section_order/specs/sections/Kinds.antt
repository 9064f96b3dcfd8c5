-- What the readers of sections give of each kind of item (WebAssembly 3.0, binary format, modules).
use Rattle.std.specs.Prelude.{◌≡◌, ◌<◌, ℕ, List, Option, map}
use Rattle.wasm_types.specs.decoding.Decoder.{State, Done, Decoder, Grammar}
use Rattle.wasm_types.specs.decoding.Leb.{u32}
use Rattle.wasm_types.specs.decoding.Denials.{Denies}
use Rattle.wasm_types.specs.decoding.ErrorValue.{ErrorValue}
use Rattle.wasm_types.specs.settings.Settings.{Settings}
use Rattle.wasm_types.specs.externs.declared.memory.MemoryType.{MemoryType}
use Rattle.wasm_types.specs.externs.declared.tag.TagType.{TagType}
use Rattle.wasm_types.specs.declared.rec_group.RecGroup.{RecGroup}
use Rattle.wasm_types.specs.Entries.{declared_types}
use Rattle.wasm_types.specs.SpellsTypes.{GroupValue, declared_by}
use Rattle.wasm_types.specs.trees.ValidGroup.{Written}
use Rattle.wasm_operators_encoding.specs.ConstantDecoder.{constant}
use Rattle.wasm_module_validator_canonical_types.specs.laws.Statements.{written}
use Rattle.wasm_sections_items.specs.declared.imports.import.Import.{Import}
use Rattle.wasm_sections_items.specs.declared.imports.export.Export.{Export}
use Rattle.wasm_sections_items.specs.imports.Spells.{ImportTree, ExportTree}
use Rattle.wasm_sections_items.specs.declared.segments.global.GlobalOf.{GlobalOf}
use Rattle.wasm_sections_items.specs.declared.segments.table.TableOf.{TableOf}
use Rattle.wasm_sections_items.specs.declared.segments.segment.DataOf.{DataOf}
use Rattle.wasm_sections_items.specs.segments.Segments.{mode_of}
use Rattle.wasm_sections_items.specs.segments.Spells.{GlobalTree, DataTree}
use Rattle.wasm_sections_items.specs.segments.Tables.{TableTree, init_of}
use Rattle.wasm_sections_items.specs.declared.elements.element.ElementOf.{ElementOf}
use Rattle.wasm_sections_items.specs.elements.Elements.{tree_of}
use Rattle.wasm_sections_items.specs.elements.Spells.{ElementTree}
use Rattle.wasm_module_validator_rules_in_order.specs.Sections.{Section, place}
use Rattle.wasm_module_validator_rules_in_order.specs.Adding.{Fits}
use Rattle.wasm_module_validator_rules_in_order.specs.Texts.{ItemRead}
use Rattle.wasm_module_validator_rules_in_order.specs.Steps.{SoFar, JudgesSection, IsJudged}
use Rattle.wasm_module_validator_section_order.specs.items.Adding.{Spelled, AreAdded, StopsAdding}
use Rattle.wasm_module_validator_section_order.specs.sections.Sections.{Reading, reading, AddsIn, RefusesIn, MayBegin, behind}

-- ---- items of the code, with the bytes of their constant expressions

-- the bytes of an expression
abbrev pub bytes_of : State → List ℕ
bytes_of e = e.rest

-- a group, as it is written over the indices of its module
abbrev pub group_read : RecGroup → Written
group_read g = written g.is_explicit (declared_types g)

-- the index of a type, a memory and a tag are themselves
abbrev pub index_read : ℕ → ℕ
index_read n = n

abbrev pub memory_read : MemoryType → MemoryType
memory_read t = t

abbrev pub tag_read : TagType → TagType
tag_read t = t

abbrev pub import_read : Import → ImportTree
import_read i = record { module_name = i.«module».now; field_name = i.name.now; ty = i.ty }

abbrev pub table_read : TableOf State → TableTree (List ℕ)
table_read x = record { ty = x.ty; init = init_of bytes_of x.init }

abbrev pub global_read : GlobalOf State → GlobalTree (List ℕ)
global_read x = record { ty = x.ty; init = bytes_of x.init_expr }

abbrev pub export_read : Export → ExportTree
export_read e = record { name = e.name.now; kind = e.kind; index = e.index }

-- none where the readers of an element segment have other elements than they count
abbrev pub element_read : ElementOf State → Option (ElementTree (List ℕ))
element_read x = tree_of bytes_of constant x

abbrev pub data_read : DataOf State → DataTree (List ℕ)
data_read x = record { mode = mode_of bytes_of x.kind; content = x.bytes.now }

-- what is read of a group as it is written
abbrev pub group_of : GroupValue → Written
group_of v = written v.is_explicit (map declared_by v.types)

-- ---- sections of them

-- What a walk over the items of a section tells of the section, where `view` is what is read of an item of the code and `of` the item
-- that it is; d and g are how its bytes are read and which they are. The count n was read at b, and r stands behind it; p was judged.
-- Items that are added to the last byte make the section judged, with what they lead to; there is no other way to judge it; a walk that
-- was refused denies that it is, unless memory ran out; and a section that is judged is one that may begin and has no more items than fit.
pub record AreTold (s : Section) {T V : Type 0} (view : T → V) (of : T → ItemRead s) (d : Settings → Decoder V) (g : Settings → Grammar V)
    (z : Settings) (p : SoFar) (b r : State) (n : ℕ) : Type 0 where
  pub added : p.last < place s → MayBegin z s → Fits z s p.tree n → (u : Reading)
      → AreAdded (Spelled view of (g r.settings)) (AddsIn s) n r.rest (reading z p.tree) u
      → JudgesSection z p s b.rest (behind s p u.tree) × (u.settings ≡ z)
  pub one : (u : Reading) (q : SoFar) → AreAdded (Spelled view of (g r.settings)) (AddsIn s) n r.rest (reading z p.tree) u
      → JudgesSection z p s b.rest q → q ≡ behind s p u.tree
  pub refused : (e : ErrorValue) → StopsAdding view of (d r.settings) (AddsIn s) (RefusesIn s) n r (reading z p.tree) e
      → Denies e.kind ((q : SoFar) × JudgesSection z p s b.rest q)
  pub ordered : (q : SoFar) → JudgesSection z p s b.rest q → p.last < place s
  pub allowed : (q : SoFar) → JudgesSection z p s b.rest q → MayBegin z s
  pub fits : (q : SoFar) → JudgesSection z p s b.rest q → Fits z s p.tree n

-- so it is wherever the count was read at the front of the contents, by these settings
abbrev pub WalksTell : (s : Section) → {T V : Type 0} → (T → V) → (T → ItemRead s) → (Settings → Decoder V) → (Settings → Grammar V)
    → Type 0
WalksTell s view of d g = (z : Settings) (p : SoFar) (b r : State) (n : ℕ) → IsJudged z p → b.settings ≡ z → u32 b ≡ Done n r
    → AreTold s view of d g z p b r n
