-- A segment over the code that its bytes spell, and by its parts as they are judged.
use Rattle.std.proofs.Common.{◌≡◌, ℕ, zero, suc, ◌≤◌, List, [], ◌∷◌, length, refl, sym, ap, ◌∙◌, subst, arith, true, false, Bool, Option, Some, None}
use Rattle.std.specs.Prelude.{◌==◌, slice_get, if◌then◌else◌}
use Rattle.std.specs.List.{AllZip}
use Rattle.std.proofs.lemmas.Bool.{eqb-true}
use Rattle.wasm_types.specs.settings.Settings.{Settings}
use Rattle.wasm_types.specs.decoding.Decoder.{State, Outcome, Done, Short, Fault, Decoder, continue_with, pure, ◌>>=◌, repeated}
use Rattle.wasm_types.specs.decoding.ExactLaws.{value_is}
use Rattle.wasm_types.specs.values.Reference.{Reference}
use Rattle.wasm_operators_encoding.specs.ConstantDecoder.{constant}
use Rattle.wasm_operators_encoding.specs.expressions.Code.{Code}
use Rattle.wasm_operators_encoding.specs.expressions.Spelling.{SpelledExpression}
use Rattle.wasm_sections_items.specs.limited.Walking.{fresh}
use Rattle.wasm_sections_items.specs.declared.elements.element.ElementOf.{ElementOf}
use Rattle.wasm_sections_items.specs.declared.elements.element.ElementKindOf.{ElementKindOf}
use Rattle.wasm_sections_items.specs.declared.elements.element.ElementKindOf.TheVariants as kinds
use Rattle.wasm_sections_items.specs.declared.elements.element.ElementItemsOf.{ElementItemsOf}
use Rattle.wasm_sections_items.specs.declared.elements.element.ElementItemsOf.TheVariants as items
use Rattle.wasm_sections_items.specs.elements.Spells.{ElementTree, ElementMode, ElementItems, passive, active, declared, functions, expressions}
use Rattle.wasm_sections_items.specs.elements.Passing.{values_of, items_at}
use Rattle.wasm_sections_items.specs.elements.Elements.{mode_of, items_of, is_whole, has_whole}
use Rattle.wasm_operator_validator_rules.specs.constants.Constants.{IsConstant}
use Rattle.wasm_operator_validator_rules.specs.Operands.{ValueType}
use Rattle.wasm_operator_validator_rules.specs.Context.{Module}
use Rattle.wasm_module_validator_checks.specs.rules.Spaces.{element_type}
use Rattle.wasm_module_validator_checks.specs.rules.Valid.{Each, IsValidMode, AreValidItems, item_count, table_index}
use Rattle.wasm_module_validator_initialisers.specs.segments.Trees.{bytes_of}
use Rattle.wasm_module_validator_initialisers.specs.segments.Judged.{IsConstantText}
use Rattle.wasm_module_validator_resources.specs.rules_in_order.Texts.{SpelledMode, SpelledElements}
use Rattle.wasm_module_validator_initialisers.specs.elements.Trees.{element_read}
use Rattle.wasm_module_validator_initialisers.specs.elements.Judged.{IsElement, IsElementThere}
use Rattle.wasm_module_validator_initialisers.specs.elements.Items.{AllLeft, IsFunction, function_index, item_type, IsItemType, IsMode, AreItems}

-- ---- lists that are read

no_bytes : (text : List ℕ) → text ≡ [] → (length text == 0) ≡ true
no_bytes text e = rw e refl

none_left : (text : List ℕ) → length text ≡ 0 → text ≡ []
none_left [] e = refl
none_left (b ∷ text) e = absurd (omega (arith, e))

module _ {A : Type 0} where
  abbrev read : List A → State → Outcome (List A)
  read xs t = Done xs t

  -- behind the first value there are as many as are left
  module _ (d : Decoder A) (n : ℕ) (t : State) (xs : List A) (rest : (ys : List A) (u v : State) → repeated n d u ≡ Done ys v → length ys ≡ n) where
    counted_after : (x : A) (o : Outcome (List A)) (u : State) → repeated n d u ≡ o → continue_with o (λ ys. pure (x ∷ ys)) ≡ Done xs t → length xs ≡ suc n
    counted_after x (Done ys v) u q f = sym (ap length (value_is (x ∷ ys) xs v t f)) ∙ ap suc (rest ys u v q)
    counted_after x (Short p k) u q f = absurd cc
    counted_after x (Fault k p) u q f = absurd cc

    counted_first : (o : Outcome A) → continue_with o (λ y. repeated n d >>= λ ys. pure (y ∷ ys)) ≡ Done xs t → length xs ≡ suc n
    counted_first (Done x u) f = counted_after x (repeated n d u) u refl f
    counted_first (Short p k) f = absurd cc
    counted_first (Fault k p) f = absurd cc

  counted : (d : Decoder A) (n : ℕ) (s t : State) (xs : List A) → repeated n d s ≡ Done xs t → length xs ≡ n
  unfolding repeated
  counted d zero s t xs e = sym (ap length (value_is [] xs s t e))
  counted d (suc n) s t xs e = counted_first d n t xs (λ ys u v q. counted d n u v ys q) (d s) e

  module _ (P : A → Type 0) (d : Settings → Decoder A) (n : ℕ) (s : State) where
    -- all are read and so
    pub all_whole : AllLeft P d (fresh n s) → (is_whole (repeated n (d s.settings) s) ≡ true) × Each P (items_at (d s.settings) n s)
    all_whole (xs, t, e, none, each) = (ap is_whole e ∙ no_bytes t.rest none, subst (Each P) (sym (ap values_of e)) each)

    whole_at : (o : Outcome (List A)) → repeated n (d s.settings) s ≡ o → is_whole o ≡ true → Each P (values_of o) → AllLeft P d (fresh n s)
    whole_at (Done xs t) e w each = (xs, t, e, none_left t.rest (eqb-true _ _ w), each)
    whole_at (Short p h) e w each = absurd cc
    whole_at (Fault k p) e w each = absurd cc

    pub whole_all : is_whole (repeated n (d s.settings) s) ≡ true → Each P (items_at (d s.settings) n s) → AllLeft P d (fresh n s)
    whole_all w each = whole_at (repeated n (d s.settings) s) refl w each

    length_at : (o : Outcome (List A)) → repeated n (d s.settings) s ≡ o → is_whole o ≡ true → length (values_of o) ≡ n
    length_at (Done xs t) e w = counted (d s.settings) n s t xs e
    length_at (Short p h) e w = absurd cc
    length_at (Fault k p) e w = absurd cc

    pub whole_length : is_whole (repeated n (d s.settings) s) ≡ true → length (items_at (d s.settings) n s) ≡ n
    whole_length w = length_at (repeated n (d s.settings) s) refl w

module _ (z : Settings) (g : Module) (count : ℕ) where
  -- ---- expressions

  abbrev Spelled : List ℕ → Code → Type 0
  Spelled text c = SpelledExpression z c text

  each_code : (t : ValueType) (texts : List (List ℕ)) → Each (IsConstantText z g count t) texts
      → (cs : List Code) × AllZip Spelled texts cs × Each (IsConstant z.features g count t) cs × (length cs ≡ length texts)
  each_code t [] h = ([], tt, tt, refl)
  each_code t (text ∷ texts) (h, k) = let r = each_code t texts k in (h.0 ∷ r.0, (h.1, r.1), (h.2, r.2), ap suc r.3)

  each_text : (t : ValueType) (texts : List (List ℕ)) (cs : List Code) → AllZip Spelled texts cs → Each (IsConstant z.features g count t) cs
      → Each (IsConstantText z g count t) texts × (length cs ≡ length texts)
  each_text t [] [] h k = (tt, refl)
  each_text t [] (c ∷ cs) h k = absurd h
  each_text t (text ∷ texts) [] h k = absurd h
  each_text t (text ∷ texts) (c ∷ cs) h k = let r = each_text t texts cs h.1 k.1 in (((c, h.0, k.0), r.0), ap suc r.1)

  -- ---- how a segment is used

  pub mode_is : (t : ValueType) (k : ElementKindOf State) → IsMode z g count t k → (y : ElementMode Code) × SpelledMode z (mode_of bytes_of k) y × IsValidMode z g count t y
  mode_is t kinds.Passive h = (passive, tt, h)
  mode_is t kinds.Declared h = (declared, tt, h)
  mode_is t (kinds.Active x e) (v, found, below, (c, spelled, typed)) = (active x c, (refl, spelled), (v, found, below, typed))

  pub is_mode : (t : ValueType) (k : ElementKindOf State) (y : ElementMode Code) → SpelledMode z (mode_of bytes_of k) y → IsValidMode z g count t y → IsMode z g count t k
  is_mode t kinds.Passive passive s h = h
  is_mode t kinds.Passive (active y c) s h = absurd s
  is_mode t kinds.Passive declared s h = absurd s
  is_mode t kinds.Declared passive s h = absurd s
  is_mode t kinds.Declared (active y c) s h = absurd s
  is_mode t kinds.Declared declared s h = h
  is_mode t (kinds.Active x e) passive s h = absurd s
  is_mode t (kinds.Active x e) (active y c) s (v, found, below, typed) =
      (v, subst (λ (i : Option ℕ). slice_get g.tables (table_index i) ≡ Some v) (sym s.0) found, below, (c, s.1, typed))
  is_mode t (kinds.Active x e) declared s h = absurd s

  -- ---- its elements

  pub items_are : (i : ElementItemsOf State) → IsItemType z g i → AreItems z g count (item_type g.types i) i
      → (has_whole constant i ≡ true) × ((y : ElementItems Code) × SpelledElements z (items_of constant i) y × AreValidItems z g count y
      × (item_count y ≤ z.limits.segment_items) × (element_type g.types y ≡ item_type g.types i))
  items_are (items.Functions s) typed (few, h) =
      let r = all_whole (IsFunction g) function_index s.count s.reader h in
      let n = whole_length (IsFunction g) function_index s.count s.reader r.0 in
      (r.0, (functions (items_at (function_index s.reader.settings) s.count s.reader), refl, r.1, omega (arith, n, few), refl))
  items_are (items.Expressions q s) typed (few, h) =
      let t = item_type g.types (items.Expressions q s) in
      let r = all_whole (IsConstantText z g count t) constant s.count s.reader h in
      let n = whole_length (IsConstantText z g count t) constant s.count s.reader r.0 in
      let c = each_code t (items_at (constant s.reader.settings) s.count s.reader) r.1 in
      (r.0, (expressions q c.0, (refl, c.1), (typed, c.2), omega (arith, c.3, n, few), refl))

  pub are_items : (i : ElementItemsOf State) (y : ElementItems Code) → has_whole constant i ≡ true → SpelledElements z (items_of constant i) y → AreValidItems z g count y
      → item_count y ≤ z.limits.segment_items → IsItemType z g i × AreItems z g count (item_type g.types i) i × (element_type g.types y ≡ item_type g.types i)
  are_items (items.Functions s) (functions ys) w e h few =
      let n = whole_length (IsFunction g) function_index s.count s.reader w in
      (tt, (omega (arith, n, ap length e, few), whole_all (IsFunction g) function_index s.count s.reader w (subst (Each (IsFunction g)) (sym e) h)), refl)
  are_items (items.Functions s) (expressions r cs) w e h few = absurd e
  are_items (items.Expressions q s) (functions ys) w e h few = absurd e
  are_items (items.Expressions q s) (expressions r cs) w e h few =
      let t = item_type g.types (items.Expressions q s) in
      let valid : AreValidItems z g count (expressions q cs) = subst (λ (p : Reference). AreValidItems z g count (expressions p cs)) (sym e.0) h in
      let texts = each_text t (items_at (constant s.reader.settings) s.count s.reader) cs e.1 valid.1 in
      let n = whole_length (IsConstantText z g count t) constant s.count s.reader w in (
        valid.0,
        (omega (arith, n, texts.1, few), whole_all (IsConstantText z g count t) constant s.count s.reader w texts.0),
        ap (λ (p : Reference). element_type g.types (expressions p cs)) (sym e.0),
      )

  -- ---- whole segments

  abbrev Parts : ElementOf State → Type 0
  Parts x = IsItemType z g x.items × IsMode z g count (item_type g.types x.items) x.kind × AreItems z g count (item_type g.types x.items) x.items

  abbrev tree : ElementOf State → ElementTree (List ℕ)
  tree x = record { mode = mode_of bytes_of x.kind; items = items_of constant x.items }

  abbrev chosen : Bool → ElementOf State → Option (ElementTree (List ℕ))
  chosen b x = if b then Some (tree x) else None

  pub element_is : (x : ElementOf State) → Parts x → IsElementThere z g count (element_read x)
  element_is x (typed, used, filled) =
      let i = items_are x.items typed filled in
      let m = mode_is (item_type g.types x.items) x.kind used in
      let y : ElementTree Code = record { mode = m.0; items = i.1.0 } in
      let mode : IsValidMode z g count (element_type g.types i.1.0) m.0 = subst (λ (t : ValueType). IsValidMode z g count t m.0) (sym i.1.4) m.2 in
      let all : IsElement z g count (tree x) = (y, m.1, i.1.1, record { mode = mode; items = i.1.2; within = i.1.3 }) in
      subst (λ (b : Bool). IsElementThere z g count (chosen b x)) (sym i.0) all

  pub is_element : (x : ElementOf State) → IsElementThere z g count (element_read x) → Parts x
  is_element x h = go (has_whole constant x.items) refl h
    where
      go : (b : Bool) → has_whole constant x.items ≡ b → IsElementThere z g count (chosen b x) → Parts x
      go false e k = absurd k
      go true e (y, m, i, valid) =
          let r = are_items x.items y.items e i valid.items valid.within in
          (r.0, is_mode (item_type g.types x.items) x.kind y.mode m (subst (λ (t : ValueType). IsValidMode z g count t y.mode) r.2 valid.mode), r.1)
