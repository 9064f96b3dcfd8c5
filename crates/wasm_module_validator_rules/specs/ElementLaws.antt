-- Bytes spell at most one element segment, over its constant expressions.
use Rattle.std.proofs.Common.{◌≡◌, ℕ, zero, suc, ◌+◌, List, [], ◌∷◌, length, Some, None, refl, sym, ap, ◌∙◌, subst}
use Rattle.wasm_types.specs.decoding.Decoder.{Many}
use Rattle.wasm_types.specs.decoding.Leb.{IsUnsigned, IsListed}
use Rattle.wasm_types.specs.settings.Settings.{Settings}
use Rattle.wasm_operators_encoding.specs.expressions.Code.{Code}
use Rattle.wasm_operators_encoding.specs.expressions.SpellingLaws.{one_expression}
use Rattle.wasm_operators_encoding.specs.ConstantDecoder.{constant}
use Rattle.wasm_operators_encoding.specs.ConstantDecoderLaws.{decides-constant}
use Rattle.wasm_sections_items.specs.elements.Spells.{ElementTree, ElementMode, ElementItems, passive, active, declared, functions, expressions, use_bits, kind_bits}
use Rattle.wasm_sections_items.specs.elements.Spells.{SpelledMode, SpelledItems, SpelledElement}
use Rattle.wasm_sections_items.specs.elements.Decode.{element}
use Rattle.wasm_sections_items.specs.elements.DecodeLaws.{decides-element}
use Rattle.wasm_module_validator_rules.specs.Binary.{SpelledConstant}
use Rattle.wasm_module_validator_rules.specs.UniqueLaws.{Bytes, Unique, decided, lifted, Over, Text, up}

module _ (z : Settings) where
  -- ---- how a segment is used

  abbrev ModeOver : ElementMode Code → ElementMode Bytes → Type 0
  ModeOver passive passive = Unit {0}
  ModeOver declared declared = Unit {0}
  ModeOver (active t c) (active u b) = (t ≡ u) × Over z c b
  ModeOver passive (active u b) = ⊥
  ModeOver passive declared = ⊥
  ModeOver declared passive = ⊥
  ModeOver declared (active u b) = ⊥
  ModeOver (active t c) passive = ⊥
  ModeOver (active t c) declared = ⊥

  mode_up : (m : ElementMode Code) (text : Bytes) → SpelledMode (SpelledConstant z) m text → (n : ElementMode Bytes) × SpelledMode (Text z) n text × (ModeOver m n × (use_bits m ≡ use_bits n))
  mode_up passive text h = (passive, h, (tt, refl))
  mode_up declared text h = (declared, h, (tt, refl))
  mode_up (active None c) text h = (active None text, up z c text h, ((refl, h.spelled), refl))
  mode_up (active (Some t) c) text h = (
    active (Some t) h.offset_text,
    record { table_text = h.table_text; offset_text = h.offset_text; named = h.named; placed = up z c h.offset_text h.placed; whole = h.whole },
    ((refl, h.placed.spelled), refl),
  )

  mode_down : (m n : ElementMode Code) (b : ElementMode Bytes) → ModeOver m b → ModeOver n b → m ≡ n
  mode_down passive passive passive h k = refl
  mode_down passive declared passive h k = absurd k
  mode_down passive (active t c) passive h k = absurd k
  mode_down passive n (active u b) h k = absurd h
  mode_down passive n declared h k = absurd h
  mode_down declared declared declared h k = refl
  mode_down declared passive declared h k = absurd k
  mode_down declared (active t c) declared h k = absurd k
  mode_down declared n (active u b) h k = absurd h
  mode_down declared n passive h k = absurd h
  mode_down (active t c) n passive h k = absurd h
  mode_down (active t c) n declared h k = absurd h
  mode_down (active t c) passive (active u b) h k = absurd k
  mode_down (active t c) declared (active u b) h k = absurd k
  mode_down (active t c) (active s d) (active u b) h k =
      let e = h.0 ∙ sym k.0 in
      let f = one_expression z c d b h.1 k.1 in
      λ i. active (e i) (f i)

  -- ---- its elements

  abbrev AllOver : List Code → List Bytes → Type 0
  AllOver [] [] = Unit {0}
  AllOver [] (b ∷ bs) = ⊥
  AllOver (c ∷ cs) [] = ⊥
  AllOver (c ∷ cs) (b ∷ bs) = Over z c b × AllOver cs bs

  many_up : (n : ℕ) (cs : List Code) (text : Bytes) → Many (SpelledConstant z) n cs text → (bs : List Bytes) × Many (Text z) n bs text × (AllOver cs bs × (length cs ≡ length bs))
  many_up zero [] text h = ([], h, (tt, refl))
  many_up zero (c ∷ cs) text h = absurd h
  many_up (suc n) [] text h = absurd h
  many_up (suc n) (c ∷ cs) text h =
      let rest = many_up n cs h.1 h.3 in
      (h.0 ∷ rest.0, (h.0, h.1, up z c h.0 h.2, rest.1, h.4), ((h.2.spelled, rest.2.0), ap suc rest.2.1))

  all_down : (cs ds : List Code) (bs : List Bytes) → AllOver cs bs → AllOver ds bs → cs ≡ ds
  all_down [] [] [] h k = refl
  all_down [] (d ∷ ds) [] h k = absurd k
  all_down [] ds (b ∷ bs) h k = absurd h
  all_down (c ∷ cs) ds [] h k = absurd h
  all_down (c ∷ cs) [] (b ∷ bs) h k = absurd k
  all_down (c ∷ cs) (d ∷ ds) (b ∷ bs) h k =
      let e = one_expression z c d b h.0 k.0 in
      let f = all_down cs ds bs h.1 k.1 in
      λ i. e i ∷ f i

  abbrev ItemsOver : ElementItems Code → ElementItems Bytes → Type 0
  ItemsOver (functions xs) (functions ys) = xs ≡ ys
  ItemsOver (functions xs) (expressions s bs) = ⊥
  ItemsOver (expressions r cs) (functions ys) = ⊥
  ItemsOver (expressions r cs) (expressions s bs) = (r ≡ s) × AllOver cs bs

  items_up : (n : ℕ) (x : ElementItems Code) (text : Bytes) → SpelledItems (SpelledConstant z) n x text
      → (y : ElementItems Bytes) × SpelledItems (Text z) n y text × (ItemsOver x y × (kind_bits x ≡ kind_bits y))
  items_up n (functions xs) text h = (functions xs, h, (refl, refl))
  items_up n (expressions r cs) text h =
      let each = many_up (length cs) cs h.3.values h.3.each in
      let items : IsListed (Text z) each.0 h.1 = record {
        count = h.3.count;
        values = h.3.values;
        counted = subst (λ (k : ℕ). IsUnsigned 32 k h.3.count) each.2.1 h.3.counted;
        each = subst (λ (k : ℕ). Many (Text z) k each.0 h.3.values) each.2.1 each.1;
        whole = h.3.whole;
      } in
      (expressions r each.0, (h.0, h.1, h.2, items, h.4), ((refl, each.2.0), refl))

  items_down : (x y : ElementItems Code) (b : ElementItems Bytes) → ItemsOver x b → ItemsOver y b → x ≡ y
  items_down (functions xs) (functions ys) (functions bs) h k = ap functions (h ∙ sym k)
  items_down (functions xs) (expressions r cs) (functions bs) h k = absurd k
  items_down (functions xs) y (expressions s bs) h k = absurd h
  items_down (expressions r cs) y (functions bs) h k = absurd h
  items_down (expressions r cs) (functions ys) (expressions s bs) h k = absurd k
  items_down (expressions r cs) (expressions q ds) (expressions s bs) h k =
      let e = h.0 ∙ sym k.0 in
      let f = all_down cs ds bs h.1 k.1 in
      λ i. expressions (e i) (f i)

  -- ---- segments

  abbrev ElementOver : ElementTree Code → ElementTree Bytes → Type 0
  ElementOver x y = ModeOver x.mode y.mode × ItemsOver x.items y.items

  element_up : (x : ElementTree Code) (text : Bytes) → SpelledElement (SpelledConstant z) x text → (y : ElementTree Bytes) × SpelledElement (Text z) y text × ElementOver x y
  element_up x text h =
      let m = mode_up x.mode h.mode_text h.used in
      let i = items_up (use_bits x.mode) x.items h.items_text h.filled in (
        record { mode = m.0; items = i.0 },
        record {
          flag_text = h.flag_text;
          mode_text = h.mode_text;
          items_text = h.items_text;
          flagged = subst (λ (k : ℕ). IsUnsigned 32 (k + kind_bits i.0) h.flag_text) m.2.1 (subst (λ (k : ℕ). IsUnsigned 32 (use_bits x.mode + k) h.flag_text) i.2.1 h.flagged);
          used = m.1;
          filled = subst (λ (k : ℕ). SpelledItems (Text z) k i.0 h.items_text) m.2.1 i.1;
          whole = h.whole;
        },
        (m.2.0, i.2.0),
      )

  element_down : (x y : ElementTree Code) (b : ElementTree Bytes) → ElementOver x b → ElementOver y b → x ≡ y
  element_down x y b h k =
      let m = mode_down x.mode y.mode b.mode h.0 k.0 in
      let n = items_down x.items y.items b.items h.1 k.1 in
      λ i. record { mode = m i; items = n i }

  pub element_unique : Unique (SpelledElement (SpelledConstant z))
  element_unique = lifted (SpelledElement (SpelledConstant z)) (SpelledElement (Text z)) ElementOver
      (decided (element (constant z)) (SpelledElement (Text z)) (decides-element (constant z) (Text z) (decides-constant z))) element_up element_down
