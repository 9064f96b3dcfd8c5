-- What is read stands for one item at most, so what is added is one module.
use Rattle.std.proofs.Common.{◌≡◌, List, [], ◌∷◌, Option, Some, None, refl, sym, ap, ◌∙◌}
use Rattle.std.specs.List.{AllZip}
use Rattle.wasm_types.specs.settings.Settings.{Settings}
use Rattle.wasm_operators_encoding.specs.expressions.Code.{Code}
use Rattle.wasm_operators_encoding.specs.expressions.SpellingLaws.{one_expression}
use Rattle.wasm_sections_items.specs.segments.Spells.{DataTree, DataMode}
use Rattle.wasm_sections_items.specs.segments.Spells as mode
use Rattle.wasm_sections_items.specs.elements.Spells.{ElementTree, ElementMode, ElementItems, passive, active, declared}
use Rattle.wasm_sections_items.specs.elements.Spells.{functions, expressions}
use Rattle.wasm_module_validator_rules_in_order.specs.rules.UniqueLaws.{Bytes}
use Rattle.wasm_module_validator_rules_in_order.specs.Sections.{Section, Item, adding}
use Rattle.wasm_module_validator_rules_in_order.specs.Sections as section
use Rattle.wasm_module_validator_rules_in_order.specs.Texts.{ItemRead, SpelledInit, SpelledDataMode, SpelledMode, SpelledElements}
use Rattle.wasm_module_validator_rules_in_order.specs.Texts.{SpelledElementRead, StandsFor}
use Rattle.wasm_module_validator_section_order.specs.sections.laws.Constants.{Over}
use Rattle.wasm_module_validator_section_order.specs.sections.Sections.{Reading, AddsIn}

module _ (z : Settings) where
  init_once : (o : Option Bytes) (c d : Option Code) → SpelledInit z o c → SpelledInit z o d → c ≡ d
  init_once None None None h k = refl
  init_once None None (Some d) h k = absurd k
  init_once None (Some c) d h k = absurd h
  init_once (Some b) None d h k = absurd h
  init_once (Some b) (Some c) None h k = absurd k
  init_once (Some b) (Some c) (Some d) h k = ap Some (one_expression z c d b h k)

  data_once : (m : DataMode Bytes) (x y : DataMode Code) → SpelledDataMode z m x → SpelledDataMode z m y → x ≡ y
  data_once mode.passive mode.passive mode.passive h k = refl
  data_once mode.passive mode.passive (mode.active n d) h k = absurd k
  data_once mode.passive (mode.active n c) y h k = absurd h
  data_once (mode.active m b) mode.passive y h k = absurd h
  data_once (mode.active m b) (mode.active n c) mode.passive h k = absurd k
  data_once (mode.active m b) (mode.active n c) (mode.active l d) h k =
      let e = sym h.0 ∙ k.0 in
      let f = one_expression z c d b h.1 k.1 in
      λ i. mode.active (e i) (f i)

  mode_once : (m : ElementMode Bytes) (x y : ElementMode Code) → SpelledMode z m x → SpelledMode z m y → x ≡ y
  mode_once passive passive passive h k = refl
  mode_once passive passive (active u d) h k = absurd k
  mode_once passive passive declared h k = absurd k
  mode_once passive (active t c) y h k = absurd h
  mode_once passive declared y h k = absurd h
  mode_once declared declared declared h k = refl
  mode_once declared declared passive h k = absurd k
  mode_once declared declared (active u d) h k = absurd k
  mode_once declared passive y h k = absurd h
  mode_once declared (active t c) y h k = absurd h
  mode_once (active s b) passive y h k = absurd h
  mode_once (active s b) declared y h k = absurd h
  mode_once (active s b) (active t c) passive h k = absurd k
  mode_once (active s b) (active t c) declared h k = absurd k
  mode_once (active s b) (active t c) (active u d) h k =
      let e = sym h.0 ∙ k.0 in
      let f = one_expression z c d b h.1 k.1 in
      λ i. active (e i) (f i)

  each_once : (bs : List Bytes) (cs ds : List Code) → AllZip (Over z) bs cs → AllZip (Over z) bs ds → cs ≡ ds
  each_once [] [] [] h k = refl
  each_once [] [] (d ∷ ds) h k = absurd k
  each_once [] (c ∷ cs) ds h k = absurd h
  each_once (b ∷ bs) [] ds h k = absurd h
  each_once (b ∷ bs) (c ∷ cs) [] h k = absurd k
  each_once (b ∷ bs) (c ∷ cs) (d ∷ ds) h k =
      let e = one_expression z c d b h.0 k.0 in
      let f = each_once bs cs ds h.1 k.1 in
      λ i. e i ∷ f i

  elements_once : (t : ElementItems Bytes) (x y : ElementItems Code) → SpelledElements z t x → SpelledElements z t y → x ≡ y
  elements_once (functions l) (functions xs) (functions ys) h k = ap functions (sym h ∙ k)
  elements_once (functions l) (functions xs) (expressions s ds) h k = absurd k
  elements_once (functions l) (expressions r cs) y h k = absurd h
  elements_once (expressions q bs) (functions xs) y h k = absurd h
  elements_once (expressions q bs) (expressions r cs) (functions ys) h k = absurd k
  elements_once (expressions q bs) (expressions r cs) (expressions s ds) h k =
      let e = sym h.0 ∙ k.0 in
      let f = each_once bs cs ds h.1 k.1 in
      λ i. expressions (e i) (f i)

  segment_once : (o : Option (ElementTree Bytes)) (x y : ElementTree Code) → SpelledElementRead z o x → SpelledElementRead z o y → x ≡ y
  segment_once None x y h k = absurd h
  segment_once (Some t) x y h k =
      let e = mode_once t.mode x.mode y.mode h.0 k.0 in
      let f = elements_once t.items x.items y.items h.1 k.1 in
      λ i. record { mode = e i; items = f i }

  pub stands_once : (s : Section) (t : ItemRead s) (x y : Item s) → StandsFor z s t x → StandsFor z s t y → x ≡ y
  stands_once section.types t x y h k = h ∙ sym k
  stands_once section.imports t x y h k = h ∙ sym k
  stands_once section.functions t x y h k = h ∙ sym k
  stands_once section.tables t x y h k =
      let e = h.0 ∙ sym k.0 in
      let f = init_once t.init x.init y.init h.1 k.1 in
      λ i. record { ty = e i; init = f i }
  stands_once section.memories t x y h k = h ∙ sym k
  stands_once section.tags t x y h k = h ∙ sym k
  stands_once section.globals t x y h k =
      let e = h.0 ∙ sym k.0 in
      let f = one_expression z x.init y.init t.init h.1 k.1 in
      λ i. record { ty = e i; init = f i }
  stands_once section.exports t x y h k = h ∙ sym k
  stands_once section.start t x y h k = h ∙ sym k
  stands_once section.element_segments t x y h k = segment_once t x y h k
  stands_once section.data_count t x y h k = h ∙ sym k
  stands_once section.data_segments t x y h k =
      let e = data_once t.mode x.mode y.mode h.0 k.0 in
      let f = h.1 ∙ sym k.1 in
      λ i. record { mode = e i; content = f i }

-- one item more leads to one module
pub adds_once : (s : Section) (u : Reading) (t : ItemRead s) (v w : Reading) → AddsIn s u t v → AddsIn s u t w → v ≡ w
adds_once s u t v w h k =
    let x = h.0 in
    let y = k.0 in
    let e = stands_once u.settings s t x.0 y.0 x.1 y.1 in
    let f : v.tree ≡ w.tree = x.2.added ∙ (ap (adding s u.tree) e ∙ sym y.2.added) in
    let g : v.settings ≡ w.settings = h.1 ∙ sym k.1 in
    λ i. record { settings = g i; tree = f i }
