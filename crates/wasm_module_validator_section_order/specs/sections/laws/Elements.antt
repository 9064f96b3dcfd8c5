-- Element segments over the bytes of constant expressions, and over the code that these spell.
use Rattle.std.proofs.Common.{◌≡◌, ℕ, ◌+◌, List, Option, Some, None, refl, subst}
use Rattle.wasm_types.specs.decoding.Leb.{IsUnsigned}
use Rattle.wasm_types.specs.settings.Settings.{Settings}
use Rattle.wasm_types.specs.values.Reference.{Reference}
use Rattle.wasm_operators_encoding.specs.ConstantDecoder.{ConstantText}
use Rattle.wasm_operators_encoding.specs.expressions.Code.{Code}
use Rattle.wasm_sections_items.specs.elements.Spells.{ElementTree, ElementMode, ElementItems, passive, active, declared}
use Rattle.wasm_sections_items.specs.elements.Spells.{functions, expressions}
use Rattle.wasm_sections_items.specs.elements.Spells.{use_bits, kind_bits, SpelledType, SpelledElement, SpelledSegment}
use Rattle.wasm_sections_items.specs.elements.Spells as rule
use Rattle.wasm_module_validator_rules_in_order.specs.rules.Binary.{SpelledConstant}
use Rattle.wasm_module_validator_rules_in_order.specs.rules.UniqueLaws.{Bytes, up}
use Rattle.wasm_module_validator_rules_in_order.specs.Texts.{SpelledMode, SpelledElements, SpelledElementRead}
use Rattle.wasm_module_validator_section_order.specs.sections.laws.Linked.{Linked, listed_over, listed_down}
use Rattle.wasm_module_validator_section_order.specs.sections.laws.Constants.{Over, constants}

-- two numbers replaced
subst2 : (P : ℕ → ℕ → Type 0) {m n k l : ℕ} → m ≡ n → k ≡ l → P m k → P n l
subst2 P {m} {n} {k} {l} e f h = subst (λ (i : ℕ). P i l) e (subst (P m) f h)

module _ (z : Settings) where
  abbrev Text : Bytes → List ℕ → Type 0
  Text = ConstantText z

  abbrev Spelled : Code → List ℕ → Type 0
  Spelled = SpelledConstant z

  -- ---- how a segment is used

  -- the mode is spelled, and has the same bits in the flag
  abbrev ModeIs : ElementMode Bytes → ElementMode Code → Bytes → Type 0
  ModeIs m n text = rule.SpelledMode Spelled n text × (use_bits m ≡ use_bits n)

  mode_over : (m : ElementMode Bytes) (n : ElementMode Code) (text : Bytes) → rule.SpelledMode Text m text → SpelledMode z m n
      → ModeIs m n text
  mode_over passive passive text h k = (h, refl)
  mode_over passive (active u c) text h k = absurd k
  mode_over passive declared text h k = absurd k
  mode_over (active t b) passive text h k = absurd k
  mode_over (active None b) (active u c) text h k =
      subst (λ (o : Option ℕ). ModeIs (active None b) (active o c) text) k.0 ((constants z).over b c text h k.1, refl)
  mode_over (active (Some t) b) (active u c) text h k =
      subst (λ (o : Option ℕ). ModeIs (active (Some t) b) (active o c) text) k.0 (
        record {
          table_text = h.table_text;
          offset_text = h.offset_text;
          named = h.named;
          placed = (constants z).over b c h.offset_text h.placed k.1;
          whole = h.whole;
        },
        refl,
      )
  mode_over (active t b) declared text h k = absurd k
  mode_over declared passive text h k = absurd k
  mode_over declared (active u c) text h k = absurd k
  mode_over declared declared text h k = (h, refl)

  mode_down : (n : ElementMode Code) (text : Bytes) → rule.SpelledMode Spelled n text
      → (m : ElementMode Bytes) × SpelledMode z m n × rule.SpelledMode Text m text × (use_bits n ≡ use_bits m)
  mode_down passive text h = (passive, tt, h, refl)
  mode_down declared text h = (declared, tt, h, refl)
  mode_down (active None c) text h = (active None text, (refl, h.spelled), up z c text h, refl)
  mode_down (active (Some t) c) text h = (
    active (Some t) h.offset_text,
    (refl, h.placed.spelled),
    record {
      table_text = h.table_text;
      offset_text = h.offset_text;
      named = h.named;
      placed = up z c h.offset_text h.placed;
      whole = h.whole;
    },
    refl,
  )

  -- ---- its elements

  abbrev ItemsAre : ℕ → ElementItems Bytes → ElementItems Code → Bytes → Type 0
  ItemsAre n t x text = rule.SpelledItems Spelled n x text × (kind_bits t ≡ kind_bits x)

  items_over : (n : ℕ) (t : ElementItems Bytes) (x : ElementItems Code) (text : Bytes) → rule.SpelledItems Text n t text
      → SpelledElements z t x → ItemsAre n t x text
  items_over n (functions xs) (functions ys) text h k = subst (λ (l : List ℕ). ItemsAre n (functions xs) (functions l) text) k (h, refl)
  items_over n (functions xs) (expressions r cs) text h k = absurd k
  items_over n (expressions q bs) (functions ys) text h k = absurd k
  items_over n (expressions q bs) (expressions r cs) text h k =
      let typed = subst (λ (s : Reference). SpelledType n s h.0) k.0 h.2 in
      let listed = listed_over (Over z) Text Spelled (constants z) bs cs h.1 h.3 k.1 in
      ((h.0, h.1, typed, listed, h.4), refl)

  items_down : (n : ℕ) (x : ElementItems Code) (text : Bytes) → rule.SpelledItems Spelled n x text
      → (t : ElementItems Bytes) × SpelledElements z t x × rule.SpelledItems Text n t text × (kind_bits x ≡ kind_bits t)
  items_down n (functions ys) text h = (functions ys, refl, h, refl)
  items_down n (expressions r cs) text h =
      let d = listed_down (Over z) Text Spelled (constants z) cs h.1 h.3 in
      (expressions r d.0, (refl, d.1), (h.0, h.1, h.2, d.2, h.4), refl)

  -- ---- segments

  abbrev ElementOver : ElementTree Bytes → ElementTree Code → Type 0
  ElementOver t x = SpelledMode z t.mode x.mode × SpelledElements z t.items x.items

  element_over : (t : ElementTree Bytes) (x : ElementTree Code) (text : Bytes) → SpelledElement Text t text → ElementOver t x
      → SpelledElement Spelled x text
  element_over t x text h k =
      let m = mode_over t.mode x.mode h.mode_text h.used k.0 in
      let i = items_over (use_bits t.mode) t.items x.items h.items_text h.filled k.1 in
      record {
        flag_text = h.flag_text;
        mode_text = h.mode_text;
        items_text = h.items_text;
        flagged = subst2 (λ (n k : ℕ). IsUnsigned 32 (n + k) h.flag_text) m.1 i.1 h.flagged;
        used = m.0;
        filled = subst (λ (n : ℕ). rule.SpelledItems Spelled n x.items h.items_text) m.1 i.0;
        whole = h.whole;
      }

  element_down : (x : ElementTree Code) (text : Bytes) → SpelledElement Spelled x text
      → (t : ElementTree Bytes) × ElementOver t x × SpelledElement Text t text
  element_down x text h =
      let m = mode_down x.mode h.mode_text h.used in
      let i = items_down (use_bits x.mode) x.items h.items_text h.filled in (
        record { mode = m.0; items = i.0 },
        (m.1, i.1),
        record {
          flag_text = h.flag_text;
          mode_text = h.mode_text;
          items_text = h.items_text;
          flagged = subst2 (λ (n k : ℕ). IsUnsigned 32 (n + k) h.flag_text) m.3 i.3 h.flagged;
          used = m.2;
          filled = subst (λ (n : ℕ). rule.SpelledItems Text n i.0 h.items_text) m.3 i.2;
          whole = h.whole;
        },
      )

  segment_over : (o : Option (ElementTree Bytes)) (x : ElementTree Code) (text : Bytes) → SpelledSegment Text o text
      → SpelledElementRead z o x → SpelledElement Spelled x text
  segment_over None x text h k = absurd h
  segment_over (Some t) x text h k = element_over t x text h k

  segment_down : (x : ElementTree Code) (text : Bytes) → SpelledElement Spelled x text
      → (o : Option (ElementTree Bytes)) × SpelledElementRead z o x × SpelledSegment Text o text
  segment_down x text h = let d = element_down x text h in (Some d.0, d.1, d.2)

  pub elements : Linked (SpelledElementRead z) (SpelledSegment Text) (SpelledElement Spelled)
  elements = record { over = segment_over; down = segment_down }
