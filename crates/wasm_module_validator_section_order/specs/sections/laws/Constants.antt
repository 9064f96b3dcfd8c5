-- Tables, globals and data segments over the bytes of constant expressions, and over the code that these spell.
use Rattle.std.proofs.Common.{◌≡◌, ℕ, List, Option, Some, None, refl, sym, subst, inl, inr}
use Rattle.wasm_types.specs.decoding.Decoder.{Grammar}
use Rattle.wasm_types.specs.decoding.Text.{IsSized}
use Rattle.wasm_types.specs.settings.Settings.{Settings}
use Rattle.wasm_types.specs.externs.declared.table.TableType.{TableType}
use Rattle.wasm_types.specs.externs.Spells.{SpelledGlobal}
use Rattle.wasm_operators_encoding.specs.Ends.{EndsOnce}
use Rattle.wasm_operators_encoding.specs.ConstantDecoder.{ConstantText}
use Rattle.wasm_operators_encoding.specs.expressions.Code.{Code, walk}
use Rattle.wasm_operators_encoding.specs.expressions.Spelling.{SpelledExpression}
use Rattle.wasm_operators_encoding.specs.expressions.SpellingLaws.{one_expression}
use Rattle.wasm_sections_items.specs.segments.Spells.{GlobalTree, SpelledGlobalItem, DataTree, DataMode, SpelledData}
use Rattle.wasm_sections_items.specs.segments.Spells.{AfterFlag}
use Rattle.wasm_sections_items.specs.segments.Spells as mode
use Rattle.wasm_sections_items.specs.segments.Tables.{TableTree, SpelledWith, SpelledTableItem}
use Rattle.wasm_module_validator_rules_in_order.specs.rules.Binary.{SpelledConstant}
use Rattle.wasm_module_validator_rules_in_order.specs.rules.UniqueLaws.{Bytes, up}
use Rattle.wasm_module_validator_rules_in_order.specs.Texts.{SpelledInit, SpelledDataMode}
use Rattle.wasm_module_validator_section_order.specs.sections.laws.Linked.{Linked}

-- counted bytes of the same value
filled : {A : Type 0} {g : Grammar A} {x y : A} {text : Bytes} → y ≡ x → IsSized g x text → IsSized g y text
filled {A} {g} {x} {y} {text} e h = subst (λ (c : A). IsSized g c text) (sym e) h

module _ (z : Settings) where
  abbrev Text : Bytes → List ℕ → Type 0
  Text = ConstantText z

  abbrev Spelled : Code → List ℕ → Type 0
  Spelled = SpelledConstant z

  -- ---- an expression

  -- its bytes spell the code
  abbrev pub Over : Bytes → Code → Type 0
  Over b c = SpelledExpression z c b

  constant_over : (b : Bytes) (c : Code) (text : Bytes) → Text b text → Over b c → Spelled c text
  constant_over b c text k e =
      let here : SpelledExpression z c text = subst (SpelledExpression z c) (sym k.0) e in
      record { spelled = here; once = subst (λ (d : Code). EndsOnce (walk d)) (one_expression z k.1.code c text k.1.spelled here) k.1.once }

  pub constants : Linked Over Text Spelled
  constants = record { over = constant_over; down = λ c text h. (text, h.spelled, up z c text h) }

  -- ---- tables

  abbrev TableOver : TableTree Bytes → TableTree Code → Type 0
  TableOver t x = (x.ty ≡ t.ty) × SpelledInit z t.init x.init

  with_over : (t : TableType) (o : Option Bytes) (p : Option Code) (text : Bytes) → SpelledWith Text t o text → SpelledInit z o p
      → SpelledWith Spelled t p text
  with_over t None None text h k = h
  with_over t None (Some c) text h k = absurd k
  with_over t (Some b) None text h k = absurd k
  with_over t (Some b) (Some c) text h k = record {
    type_text = h.type_text;
    init_text = h.init_text;
    typed = h.typed;
    initialised = constant_over b c h.init_text h.initialised k;
    whole = h.whole;
  }

  with_down : (t : TableType) (p : Option Code) (text : Bytes) → SpelledWith Spelled t p text
      → (o : Option Bytes) × SpelledInit z o p × SpelledWith Text t o text
  with_down t None text h = (None, tt, h)
  with_down t (Some c) text h = (
    Some h.init_text,
    h.initialised.spelled,
    record {
      type_text = h.type_text;
      init_text = h.init_text;
      typed = h.typed;
      initialised = up z c h.init_text h.initialised;
      whole = h.whole;
    },
  )

  table_down : (x : TableTree Code) (text : Bytes) → SpelledTableItem Spelled x text
      → (t : TableTree Bytes) × TableOver t x × SpelledTableItem Text t text
  table_down x text h = let w = with_down x.ty x.init text h in (record { ty = x.ty; init = w.0 }, (refl, w.1), w.2)

  pub tables : Linked TableOver (SpelledTableItem Text) (SpelledTableItem Spelled)
  tables = record {
    over = λ t x text h k. subst (λ (y : TableType). SpelledWith Spelled y x.init text) (sym k.0) (with_over t.ty t.init x.init text h k.1);
    down = table_down;
  }

  -- ---- globals

  abbrev GlobalOver : GlobalTree Bytes → GlobalTree Code → Type 0
  GlobalOver t x = (x.ty ≡ t.ty) × Over t.init x.init

  global_over : (t : GlobalTree Bytes) (x : GlobalTree Code) (text : Bytes) → SpelledGlobalItem Text t text → GlobalOver t x
      → SpelledGlobalItem Spelled x text
  global_over t x text h k = record {
    type_text = h.type_text;
    init_text = h.init_text;
    typed = subst (λ y. SpelledGlobal y h.type_text) (sym k.0) h.typed;
    initialised = constant_over t.init x.init h.init_text h.initialised k.1;
    whole = h.whole;
  }

  global_down : (x : GlobalTree Code) (text : Bytes) → SpelledGlobalItem Spelled x text
      → (t : GlobalTree Bytes) × GlobalOver t x × SpelledGlobalItem Text t text
  global_down x text h = (
    record { ty = x.ty; init = h.init_text },
    (refl, h.initialised.spelled),
    record {
      type_text = h.type_text;
      init_text = h.init_text;
      typed = h.typed;
      initialised = up z x.init h.init_text h.initialised;
      whole = h.whole;
    },
  )

  pub globals : Linked GlobalOver (SpelledGlobalItem Text) (SpelledGlobalItem Spelled)
  globals = record { over = global_over; down = global_down }

  -- ---- data segments

  abbrev DataOver : DataTree Bytes → DataTree Code → Type 0
  DataOver t x = SpelledDataMode z t.mode x.mode × (x.content ≡ t.content)

  is_passive : (m : DataMode Code) → SpelledDataMode z mode.passive m → m ≡ mode.passive
  is_passive mode.passive k = refl
  is_passive (mode.active y c) k = absurd k

  is_active : (n : ℕ) (b : Bytes) (m : DataMode Code) → SpelledDataMode z (mode.active n b) m
      → (c : Code) × (m ≡ mode.active n c) × Over b c
  is_active n b mode.passive k = absurd k
  is_active n b (mode.active y c) k = (c, (λ i. mode.active (sym k.0 i) c), k.1)

  flag_over : (f : ℕ) (t : DataTree Bytes) (x : DataTree Code) (text : Bytes) → AfterFlag Text f t text → DataOver t x
      → AfterFlag Spelled f x text
  flag_over f t x text (inl (e, p)) k =
      let m = is_active 0 p.offset x.mode (subst (λ (o : DataMode Bytes). SpelledDataMode z o x.mode) p.mode k.0) in
      inl (
        e,
        record {
          offset = m.0;
          offset_text = p.offset_text;
          content_text = p.content_text;
          mode = m.1;
          placed = constant_over p.offset m.0 p.offset_text p.placed m.2;
          filled = filled k.1 p.filled;
          whole = p.whole;
        },
      )
  flag_over f t x text (inr (inl (e, p))) k =
      let m = is_passive x.mode (subst (λ (o : DataMode Bytes). SpelledDataMode z o x.mode) p.mode k.0) in
      inr (inl (e, record { mode = m; filled = filled k.1 p.filled }))
  flag_over f t x text (inr (inr (e, p))) k =
      let m = is_active p.memory p.offset x.mode (subst (λ (o : DataMode Bytes). SpelledDataMode z o x.mode) p.mode k.0) in
      inr (inr (
        e,
        record {
          memory = p.memory;
          offset = m.0;
          memory_text = p.memory_text;
          offset_text = p.offset_text;
          content_text = p.content_text;
          mode = m.1;
          named = p.named;
          placed = constant_over p.offset m.0 p.offset_text p.placed m.2;
          filled = filled k.1 p.filled;
          whole = p.whole;
        },
      ))

  data_over : (t : DataTree Bytes) (x : DataTree Code) (text : Bytes) → SpelledData Text t text → DataOver t x → SpelledData Spelled x text
  data_over t x text h k =
      let spelled = flag_over h.flag t x h.behind h.spelled k in
      record { flag = h.flag; flag_text = h.flag_text; behind = h.behind; flagged = h.flagged; spelled = spelled; whole = h.whole }

  -- what follows a flag gives a segment that is used so
  abbrev Down : ℕ → DataTree Code → Bytes → Type 0
  Down f x text = (m : DataMode Bytes) × SpelledDataMode z m x.mode × AfterFlag Text f (record { mode = m; content = x.content }) text

  flag_down : (f : ℕ) (x : DataTree Code) (text : Bytes) → AfterFlag Spelled f x text → Down f x text
  flag_down f x text (inl (e, p)) = (
    mode.active 0 p.offset_text,
    subst (λ (o : DataMode Code). SpelledDataMode z (mode.active 0 p.offset_text) o) (sym p.mode) (refl, p.placed.spelled),
    inl (
      e,
      record {
        offset = p.offset_text;
        offset_text = p.offset_text;
        content_text = p.content_text;
        mode = refl;
        placed = up z p.offset p.offset_text p.placed;
        filled = p.filled;
        whole = p.whole;
      },
    ),
  )
  flag_down f x text (inr (inl (e, p))) = (
    mode.passive,
    subst (λ (o : DataMode Code). SpelledDataMode z mode.passive o) (sym p.mode) tt,
    inr (inl (e, record { mode = refl; filled = p.filled })),
  )
  flag_down f x text (inr (inr (e, p))) = (
    mode.active p.memory p.offset_text,
    subst (λ (o : DataMode Code). SpelledDataMode z (mode.active p.memory p.offset_text) o) (sym p.mode) (refl, p.placed.spelled),
    inr (inr (
      e,
      record {
        memory = p.memory;
        offset = p.offset_text;
        memory_text = p.memory_text;
        offset_text = p.offset_text;
        content_text = p.content_text;
        mode = refl;
        named = p.named;
        placed = up z p.offset p.offset_text p.placed;
        filled = p.filled;
        whole = p.whole;
      },
    )),
  )

  data_down : (x : DataTree Code) (text : Bytes) → SpelledData Spelled x text
      → (t : DataTree Bytes) × DataOver t x × SpelledData Text t text
  data_down x text h =
      let d = flag_down h.flag x h.behind h.spelled in (
        record { mode = d.0; content = x.content },
        (d.1, refl),
        record { flag = h.flag; flag_text = h.flag_text; behind = h.behind; flagged = h.flagged; spelled = d.2; whole = h.whole },
      )

  pub segments : Linked DataOver (SpelledData Text) (SpelledData Spelled)
  segments = record { over = data_over; down = data_down }
