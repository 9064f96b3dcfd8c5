-- Walks over the items of each kind of section.
use Rattle.std.proofs.Common.{◌≡◌, ◌∙◌, ℕ, zero, suc, List, [], ◌∷◌, refl, ap, subst}
use Rattle.std.specs.Prelude.{◌↔◌, ◌<◌}
use Rattle.wasm_types.specs.decoding.Decoder.{State, Done, Decoder, Grammar, Decides, Many}
use Rattle.wasm_types.specs.decoding.Leb.{u32, IsUnsigned}
use Rattle.wasm_types.specs.decoding.LebLaws.{decides-u32}
use Rattle.wasm_types.specs.decoding.ErrorValue.{ErrorValue}
use Rattle.wasm_types.specs.decoding.Denials.{Denies}
use Rattle.wasm_types.specs.decoding.DenialLaws.{denies_from}
use Rattle.wasm_types.specs.settings.Settings.{Settings}
use Rattle.wasm_types.specs.externs.Decode.{memory_type, tag_type}
use Rattle.wasm_types.specs.externs.DecodeLaws.{decides-memory_type, decides-tag_type}
use Rattle.wasm_types.specs.externs.Spells.{SpelledMemory, SpelledTag}
use Rattle.wasm_types.specs.DecodeTypes.{rec_group}
use Rattle.wasm_types.specs.SpellsTypes.{group_value, SpelledGroup}
use Rattle.wasm_types.specs.TypeLaws.{decides-rec_group}
use Rattle.wasm_operators_encoding.specs.ConstantDecoder.{constant, ConstantText}
use Rattle.wasm_operators_encoding.specs.ConstantDecoderLaws.{decides-constant}
use Rattle.wasm_sections_items.specs.imports.Decode.{import, export}
use Rattle.wasm_sections_items.specs.imports.DecodeLaws.{decides-import, decides-export}
use Rattle.wasm_sections_items.specs.imports.Spells.{SpelledImport, SpelledExport}
use Rattle.wasm_sections_items.specs.segments.Decode.{global, data_segment}
use Rattle.wasm_sections_items.specs.segments.DecodeLaws.{decides-global, decides-data_segment}
use Rattle.wasm_sections_items.specs.segments.Spells.{SpelledGlobalItem, SpelledData}
use Rattle.wasm_sections_items.specs.segments.Tables.{table, SpelledTableItem}
use Rattle.wasm_sections_items.specs.segments.TableLaws.{decides-table}
use Rattle.wasm_sections_items.specs.elements.Decode.{segment}
use Rattle.wasm_sections_items.specs.elements.DecodeLaws.{decides-segment}
use Rattle.wasm_sections_items.specs.elements.Spells.{SpelledSegment}
use Rattle.wasm_module_validator_rules_in_order.specs.Sections.{Section, place}
use Rattle.wasm_module_validator_rules_in_order.specs.Sections as section
use Rattle.wasm_module_validator_rules_in_order.specs.Adding.{Fits}
use Rattle.wasm_module_validator_rules_in_order.specs.Texts.{ItemRead}
use Rattle.wasm_module_validator_rules_in_order.specs.Steps.{SoFar, JudgesSection, IsJudged}
use Rattle.wasm_module_validator_section_order.specs.items.Adding.{Spelled, AddsEach, AreAdded, StopsAdding}
use Rattle.wasm_module_validator_section_order.specs.sections.Grammars.{SpelledRead}
use Rattle.wasm_module_validator_section_order.specs.sections.Sections.{Reading, reading, AddsIn, RefusesIn, IsOfItems, MayBegin, behind}
use Rattle.wasm_module_validator_section_order.specs.sections.Kinds.{group_of, group_read, index_read, memory_read, tag_read, import_read, table_read}
use Rattle.wasm_module_validator_section_order.specs.sections.Kinds.{global_read, export_read, element_read, data_read, AreTold, WalksTell}
use Rattle.wasm_module_validator_section_order.specs.sections.laws.Groups.{groups_given, group_is_of_value}
use Rattle.wasm_module_validator_section_order.specs.sections.laws.Once.{adds_once}
use Rattle.wasm_module_validator_section_order.specs.sections.laws.Judged.{section_judged, each_stays}
use Rattle.wasm_module_validator_section_order.specs.sections.laws.Walks.{many_given, items_once, each_once, stops_denies}

-- ---- any kind

module _ {A : Type 0} (g h : Grammar A) (to : (x : A) (text : List ℕ) → g x text → h x text) where
  many_same : (n : ℕ) (xs : List A) (text : List ℕ) → Many g n xs text → Many h n xs text
  many_same zero [] text m = m
  many_same zero (x ∷ xs) text m = absurd m
  many_same (suc n) [] text m = absurd m
  many_same (suc n) (x ∷ xs) text m = (m.0, m.1, to x m.0 m.2, many_same n xs m.1 m.3, m.4)

-- what was judged with a section more is what it is behind
is_behind : (s : Section) (p q : SoFar) → q.last ≡ place s → q.bodies ≡ p.bodies → q ≡ behind s p q.tree
is_behind s p q l b = λ i. record { last = l i; tree = q.tree; bodies = b i }

module _ (s : Section) (of_items : IsOfItems s) {T V : Type 0} (view : T → V) (of : T → ItemRead s) (item : V → ItemRead s)
    (same : (x : T) → of x ≡ item (view x))
    (d : Settings → Decoder V) (g : Settings → Grammar V) (exact : (z : Settings) → Decides (d z) (g z))
    (given : (z : Settings) (a : ItemRead s) (text : List ℕ) → Spelled (λ (v : V). v) item (g z) a text ↔ SpelledRead z s a text) where
  module _ (p : SoFar) (b r : State) (n : ℕ) (j : IsJudged r.settings p) (c : u32 b ≡ Done n r) where
    abbrev z : Settings
    z = r.settings

    abbrev Added : Reading → Type 0
    Added u = AreAdded (Spelled view of (g z)) (AddsIn s) n r.rest (reading z p.tree) u

    abbrev Gives : Reading → Type 0
    Gives u = AreAdded (Spelled (λ (v : V). v) item (g z)) (AddsIn s) n r.rest (reading z p.tree) u

    abbrev Reads : Reading → Type 0
    Reads u = AreAdded (SpelledRead z s) (AddsIn s) n r.rest (reading z p.tree) u

    gives : (u : Reading) → Added u → Gives u
    gives u a =
        let spelled = many_given view of item same (d z) (g z) (exact z) n a.items r.rest a.spelled in
        record { items = a.items; spelled = spelled; each = a.each }

    reads : (u : Reading) → Gives u → Reads u
    reads u a = record {
      items = a.items;
      spelled = many_same (Spelled (λ (v : V). v) item (g z)) (SpelledRead z s) (λ x text. (given z x text).0) n a.items r.rest a.spelled;
      each = a.each;
    }

    given_back : (u : Reading) → Reads u → Gives u
    given_back u a = record {
      items = a.items;
      spelled = many_same (SpelledRead z s) (Spelled (λ (v : V). v) item (g z)) (λ x text. (given z x text).1) n a.items r.rest a.spelled;
      each = a.each;
    }

    -- settings stay along items
    stays : (u : Reading) → Added u → u ≡ reading z u.tree
    stays u a = let e : u.settings ≡ z = each_stays s (reading z p.tree) u a.items a.each in λ i. record { settings = e i; tree = u.tree }

    is_judged : p.last < place s → MayBegin z s → Fits z s p.tree n → (u : Reading) → Added u
        → JudgesSection z p s b.rest (behind s p u.tree)
    is_judged l m f u a = (section_judged z s of_items p b r n j c (behind s p u.tree)).1 (record {
      ordered = l;
      allowed = m;
      fits = f;
      items = subst Reads (stays u a) (reads u (gives u a));
      last = refl;
      bodies = refl;
    })

    one_way : (u : Reading) (q : SoFar) → Added u → JudgesSection z p s b.rest q → q ≡ behind s p u.tree
    one_way u q a h =
        let t = (section_judged z s of_items p b r n j c q).0 h in
        let first = gives u a in
        let other = given_back (reading z q.tree) t.items in
        let items = items_once view of item same (d z) (g z) (exact z) n other.items first.items r.rest other.spelled first.spelled in
        let each = subst (λ (xs : List (ItemRead s)). AddsEach (AddsIn s) (reading z p.tree) xs (reading z q.tree)) items other.each in
        let v = reading z q.tree in
        let e : v ≡ u = each_once (AddsIn s) (adds_once s) (reading z p.tree) first.items v u each first.each in
        is_behind s p q t.last t.bodies ∙ ap (λ (v : Reading). behind s p v.tree) e

    is_denied : (e : ErrorValue) → StopsAdding view of (d z) (AddsIn s) (RefusesIn s) n r (reading z p.tree) e
        → Denies e.kind ((q : SoFar) × JudgesSection z p s b.rest q)
    is_denied e h =
        let start = reading z p.tree in
        let why : (k : Reading) (a : ItemRead s) (place : ℕ) → RefusesIn s k a place e → RefusesIn s k a place e = λ k a place w. w in
        let none = stops_denies view of item same (d z) (g z) (exact z) (AddsIn s) (adds_once s) (RefusesIn s) n r start e why h in
        denies_from e.kind ((u : Reading) × Gives u) ((q : SoFar) × JudgesSection z p s b.rest q)
        (λ q. (reading z q.0.tree, given_back (reading z q.0.tree) ((section_judged z s of_items p b r n j c q.0).0 q.1).items)) none

    told_here : AreTold s view of d g z p b r n
    told_here = record {
      added = λ l m f u a. (is_judged l m f u a, ap (λ (v : Reading). v.settings) (stays u a));
      one = one_way;
      refused = is_denied;
      ordered = λ q h. h.ordered;
      allowed = λ q h. ((section_judged z s of_items p b r n j c q).0 h).allowed;
      fits = λ q h. ((section_judged z s of_items p b r n j c q).0 h).fits;
    }

  pub walks_tell : WalksTell s view of d g
  walks_tell z p b r n j e c =
      let same_settings : r.settings ≡ z = (decides-u32.sound b r n c).1.settings ∙ e in
      subst (λ (y : Settings). IsJudged y p → AreTold s view of d g y p b r n) same_settings (λ k. told_here p b r n k c) j

-- ---- each kind

pub types_tell : WalksTell section.types group_value group_read rec_group SpelledGroup
types_tell =
    walks_tell section.types tt group_value group_read group_of group_is_of_value rec_group SpelledGroup decides-rec_group groups_given

-- values that are the items, whatever the code holds of them
module _ (s : Section) (of_items : IsOfItems s) {T : Type 0} (view : T → ItemRead s) (d : Settings → Decoder (ItemRead s))
    (g : Settings → Grammar (ItemRead s)) (exact : (z : Settings) → Decides (d z) (g z))
    (given : (z : Settings) (a : ItemRead s) (text : List ℕ) → g z a text ↔ SpelledRead z s a text) where
  plain_given : (z : Settings) (a : ItemRead s) (text : List ℕ)
      → Spelled (λ (v : ItemRead s). v) (λ v. v) (g z) a text ↔ SpelledRead z s a text
  plain_given z a text = (
    λ h. (given z a text).0 (subst (λ (x : ItemRead s). g z x text) h.1 h.2),
    λ h. (a, refl, (given z a text).1 h),
  )

  plainly : WalksTell s view view d g
  plainly = walks_tell s of_items view view (λ v. v) (λ x. refl) d g exact plain_given

itself : {P : Type 0} → P ↔ P
itself = (λ h. h, λ h. h)

pub imports_tell : WalksTell section.imports import_read import_read import SpelledImport
imports_tell = plainly section.imports tt import_read import SpelledImport decides-import (λ z a text. itself)

pub functions_tell : WalksTell section.functions index_read index_read (λ z. u32) (λ z. IsUnsigned 32)
functions_tell = plainly section.functions tt index_read (λ z. u32) (λ z. IsUnsigned 32) (λ z. decides-u32) (λ z a text. itself)

pub tables_tell : WalksTell section.tables table_read table_read (λ z. table (constant z)) (λ z. SpelledTableItem (ConstantText z))
tables_tell = plainly section.tables tt table_read (λ z. table (constant z)) (λ z. SpelledTableItem (ConstantText z))
    (λ z. decides-table (constant z) (ConstantText z) (decides-constant z)) (λ z a text. itself)

pub memories_tell : WalksTell section.memories memory_read memory_read (λ z. memory_type) (λ z. SpelledMemory)
memories_tell =
    plainly section.memories tt memory_read (λ z. memory_type) (λ z. SpelledMemory) (λ z. decides-memory_type) (λ z a text. itself)

pub tags_tell : WalksTell section.tags tag_read tag_read (λ z. tag_type) (λ z. SpelledTag)
tags_tell = plainly section.tags tt tag_read (λ z. tag_type) (λ z. SpelledTag) (λ z. decides-tag_type) (λ z a text. itself)

pub globals_tell : WalksTell section.globals global_read global_read (λ z. global (constant z)) (λ z. SpelledGlobalItem (ConstantText z))
globals_tell = plainly section.globals tt global_read (λ z. global (constant z)) (λ z. SpelledGlobalItem (ConstantText z))
    (λ z. decides-global (constant z) (ConstantText z) (decides-constant z)) (λ z a text. itself)

pub exports_tell : WalksTell section.exports export_read export_read export SpelledExport
exports_tell = plainly section.exports tt export_read export SpelledExport decides-export (λ z a text. itself)

pub elements_tell : WalksTell section.element_segments element_read element_read (λ z. segment (constant z))
    (λ z. SpelledSegment (ConstantText z))
elements_tell = plainly section.element_segments tt element_read (λ z. segment (constant z)) (λ z. SpelledSegment (ConstantText z))
    (λ z. decides-segment (constant z) (ConstantText z) (decides-constant z)) (λ z a text. itself)

pub segments_tell : WalksTell section.data_segments data_read data_read (λ z. data_segment (constant z)) (λ z. SpelledData (ConstantText z))
segments_tell = plainly section.data_segments tt data_read (λ z. data_segment (constant z)) (λ z. SpelledData (ConstantText z))
    (λ z. decides-data_segment (constant z) (ConstantText z) (decides-constant z)) (λ z a text. itself)
