-- What is spelled at the front of bytes is one value with one spelling: kept by lists, and by items over constant expressions.
use Rattle.std.proofs.Common.{◌≡◌, ℕ, zero, suc, List, [], ◌∷◌, ◌++◌, length, Option, Some, None, refl, sym, ap, ◌∙◌, subst, inl, inr}
use Rattle.std.proofs.lemmas.List.{append-nil, append_assoc}
use Rattle.wasm_types.specs.decoding.Decoder.{Decoder, Grammar, Decides, Many}
use Rattle.wasm_types.specs.decoding.Leb.{u32, IsUnsigned, IsListed}
use Rattle.wasm_types.specs.decoding.LebLaws.{decides-u32}
use Rattle.wasm_types.specs.settings.Settings.{Settings}
use Rattle.wasm_types.specs.externs.declared.table.TableType.{TableType}
use Rattle.wasm_operators_encoding.specs.expressions.Code.{Code}
use Rattle.wasm_operators_encoding.specs.expressions.Spelling.{SpelledExpression}
use Rattle.wasm_operators_encoding.specs.expressions.SpellingLaws.{one_expression}
use Rattle.wasm_operators_encoding.specs.ConstantDecoder.{constant, ConstantText}
use Rattle.wasm_operators_encoding.specs.ConstantDecoderLaws.{decides-constant}
use Rattle.wasm_sections_items.specs.frames.OuterLaws.{one}
use Rattle.wasm_sections_items.specs.segments.Spells.{GlobalTree, SpelledGlobalItem, DataTree, DataMode, SpelledData}
use Rattle.wasm_sections_items.specs.segments.Spells as mode
use Rattle.wasm_sections_items.specs.segments.Decode.{global, data_segment}
use Rattle.wasm_sections_items.specs.segments.DecodeLaws.{decides-global, decides-data_segment}
use Rattle.wasm_sections_items.specs.segments.Tables.{TableTree, SpelledWith, SpelledTableItem, table}
use Rattle.wasm_sections_items.specs.segments.TableLaws.{decides-table}
use Rattle.wasm_module_validator_rules.specs.Binary.{SpelledConstant}

abbrev pub Bytes : Type 0
Bytes = List ℕ

-- ---- values at the front of bytes

abbrev pub Unique : {A : Type 0} → Grammar A → Type 0
Unique {A} g = (x y : A) (text front back other rest : Bytes) → text ≡ front ++ back → g x front → text ≡ other ++ rest → g y other → (x ≡ y) × (back ≡ rest)

pub decided : {A : Type 0} (d : Decoder A) (g : Grammar A) → Decides d g → Unique g
decided d g dg = one d g dg

pub on_whole : {A : Type 0} (g : Grammar A) → Unique g → (x y : A) (text : Bytes) → g x text → g y text → x ≡ y
on_whole g u x y text h k = (u x y text text [] text [] (sym (append-nil text)) h (sym (append-nil text)) k).0

-- values that are related to others, of which one is at the front of bytes
module _ {A B : Type 0} (g : Grammar A) (h : Grammar B) (R : A → B → Type 0) (u : Unique h) (up : (x : A) (text : Bytes) → g x text → (y : B) × h y text × R x y)
    (down : (x y : A) (b : B) → R x b → R y b → x ≡ y) where
  pub lifted : Unique g
  lifted x y text front back other rest e hx f hy =
      let a = up x front hx in
      let b = up y other hy in
      let both = u a.0 b.0 text front back other rest e a.1 f b.1 in
      (down x y b.0 (subst (R x) both.0 a.2) b.2, both.1)

-- lists of them
module _ {A : Type 0} (g : Grammar A) (u : Unique g) where
  nothing_before : (text front back : Bytes) → text ≡ front ++ back → front ≡ [] → text ≡ back
  nothing_before text front back e h = e ∙ ap (λ (z : Bytes). z ++ back) h

  pub many : (n : ℕ) → Unique (Many g n)
  many zero [] [] text front back other rest e h f k = (refl, sym (nothing_before text front back e h) ∙ nothing_before text other rest f k)
  many zero (x ∷ xs) ys text front back other rest e h f k = absurd h
  many zero [] (y ∷ ys) text front back other rest e h f k = absurd k
  many (suc n) [] ys text front back other rest e h f k = absurd h
  many (suc n) (x ∷ xs) [] text front back other rest e h f k = absurd k
  many (suc n) (x ∷ xs) (y ∷ ys) text front back other rest e h f k =
      let first = u x y text h.0 (h.1 ++ back) k.0 (k.1 ++ rest) (e ∙ ap (λ (z : Bytes). z ++ back) h.4 ∙ append_assoc h.0 h.1 back) h.2
      (f ∙ ap (λ (z : Bytes). z ++ rest) k.4 ∙ append_assoc k.0 k.1 rest) k.2 in
      let others = many n xs ys (h.1 ++ back) h.1 back k.1 rest refl h.3 first.1 k.3 in
      ((λ i. first.0 i ∷ others.0 i), others.1)

  pub listed : Unique (IsListed g)
  listed xs ys text front back other rest e h f k =
      let numbers = decided u32 (IsUnsigned 32) decides-u32 (length xs) (length ys) text h.count (h.values ++ back) k.count (k.values ++ rest)
      (e ∙ ap (λ (z : Bytes). z ++ back) h.whole ∙ append_assoc h.count h.values back) h.counted
      (f ∙ ap (λ (z : Bytes). z ++ rest) k.whole ∙ append_assoc k.count k.values rest) k.counted in
      many (length xs) xs ys (h.values ++ back) h.values back k.values rest refl h.each numbers.1 (subst (λ (n : ℕ). Many g n ys k.values) (sym numbers.0) k.each)

-- ---- items over constant expressions: each by the same item over the bytes of its expressions

module _ (z : Settings) where
  -- the bytes of an expression
  abbrev pub Over : Code → Bytes → Type 0
  Over c b = SpelledExpression z c b

  abbrev pub Text : Grammar Bytes
  Text = ConstantText z

  pub up : (c : Code) (text : Bytes) → SpelledConstant z c text → Text text text
  up c text h = (refl, record { code = c; spelled = h.spelled; once = h.once })

  pub constant_unique : Unique (SpelledConstant z)
  constant_unique = lifted (SpelledConstant z) Text Over (decided (constant z) Text (decides-constant z)) (λ c text h. (text, up c text h, h.spelled)) (λ c d b p q. one_expression z c d b p q)

  -- ---- tables and globals

  abbrev OptionOver : Option Code → Option Bytes → Type 0
  OptionOver None None = Unit {0}
  OptionOver None (Some b) = ⊥
  OptionOver (Some c) None = ⊥
  OptionOver (Some c) (Some b) = Over c b

  abbrev TableOver : TableTree Code → TableTree Bytes → Type 0
  TableOver x y = (x.ty ≡ y.ty) × OptionOver x.init y.init

  with_up : (t : TableType) (o : Option Code) (text : Bytes) → SpelledWith (SpelledConstant z) t o text → (p : Option Bytes) × SpelledWith Text t p text × OptionOver o p
  with_up t None text h = (None, h, tt)
  with_up t (Some c) text h = (
    Some h.init_text,
    record { type_text = h.type_text; init_text = h.init_text; typed = h.typed; initialised = up c h.init_text h.initialised; whole = h.whole },
    h.initialised.spelled,
  )

  table_up : (x : TableTree Code) (text : Bytes) → SpelledTableItem (SpelledConstant z) x text → (y : TableTree Bytes) × SpelledTableItem Text y text × TableOver x y
  table_up x text h = let w = with_up x.ty x.init text h in (record { ty = x.ty; init = w.0 }, w.1, (refl, w.2))

  option_down : (o p : Option Code) (b : Option Bytes) → OptionOver o b → OptionOver p b → o ≡ p
  option_down None None None h k = refl
  option_down None None (Some b) h k = refl
  option_down None (Some d) None h k = absurd k
  option_down None (Some d) (Some b) h k = absurd h
  option_down (Some c) p None h k = absurd h
  option_down (Some c) None (Some b) h k = absurd k
  option_down (Some c) (Some d) (Some b) h k = ap Some (one_expression z c d b h k)

  table_down : (x y : TableTree Code) (b : TableTree Bytes) → TableOver x b → TableOver y b → x ≡ y
  table_down x y b h k =
      let t = h.0 ∙ sym k.0 in
      let o = option_down x.init y.init b.init h.1 k.1 in
      λ i. record { ty = t i; init = o i }

  pub table_unique : Unique (SpelledTableItem (SpelledConstant z))
  table_unique = lifted (SpelledTableItem (SpelledConstant z)) (SpelledTableItem Text) TableOver
      (decided (table (constant z)) (SpelledTableItem Text) (decides-table (constant z) Text (decides-constant z))) table_up table_down

  abbrev GlobalOver : GlobalTree Code → GlobalTree Bytes → Type 0
  GlobalOver x y = (x.ty ≡ y.ty) × Over x.init y.init

  global_up : (x : GlobalTree Code) (text : Bytes) → SpelledGlobalItem (SpelledConstant z) x text → (y : GlobalTree Bytes) × SpelledGlobalItem Text y text × GlobalOver x y
  global_up x text h = (
    record { ty = x.ty; init = h.init_text },
    record { type_text = h.type_text; init_text = h.init_text; typed = h.typed; initialised = up x.init h.init_text h.initialised; whole = h.whole },
    (refl, h.initialised.spelled),
  )

  global_down : (x y : GlobalTree Code) (b : GlobalTree Bytes) → GlobalOver x b → GlobalOver y b → x ≡ y
  global_down x y b h k =
      let t = h.0 ∙ sym k.0 in
      let c = one_expression z x.init y.init b.init h.1 k.1 in
      λ i. record { ty = t i; init = c i }

  pub global_unique : Unique (SpelledGlobalItem (SpelledConstant z))
  global_unique = lifted (SpelledGlobalItem (SpelledConstant z)) (SpelledGlobalItem Text) GlobalOver
      (decided (global (constant z)) (SpelledGlobalItem Text) (decides-global (constant z) Text (decides-constant z))) global_up global_down

  -- ---- data segments

  abbrev DataOver : DataMode Code → DataMode Bytes → Type 0
  DataOver mode.passive mode.passive = Unit {0}
  DataOver mode.passive (mode.active m b) = ⊥
  DataOver (mode.active n c) mode.passive = ⊥
  DataOver (mode.active n c) (mode.active m b) = (n ≡ m) × Over c b

  abbrev SegmentOver : DataTree Code → DataTree Bytes → Type 0
  SegmentOver x y = DataOver x.mode y.mode × (x.content ≡ y.content)

  data_up : (x : DataTree Code) (text : Bytes) → SpelledData (SpelledConstant z) x text → (y : DataTree Bytes) × SpelledData Text y text × SegmentOver x y
  data_up x text h = go h.spelled
    where
      go : mode.AfterFlag (SpelledConstant z) h.flag x h.behind → (y : DataTree Bytes) × SpelledData Text y text × SegmentOver x y
      go (inl (f, p)) = (
        record { mode = mode.active 0 p.offset_text; content = x.content },
        record {
          flag = h.flag;
          flag_text = h.flag_text;
          behind = h.behind;
          flagged = h.flagged;
          spelled = inl (f, record { offset = p.offset_text; offset_text = p.offset_text; content_text = p.content_text; mode = refl; placed = up p.offset p.offset_text p.placed; filled = p.filled; whole = p.whole });
          whole = h.whole;
        },
        (subst (λ (m : DataMode Code). DataOver m (mode.active 0 p.offset_text)) (sym p.mode) (refl, p.placed.spelled), refl),
      )
      go (inr (inl (f, p))) = (
        record { mode = mode.passive; content = x.content },
        record { flag = h.flag; flag_text = h.flag_text; behind = h.behind; flagged = h.flagged; spelled = inr (inl (f, record { mode = refl; filled = p.filled })); whole = h.whole },
        (subst (λ (m : DataMode Code). DataOver m mode.passive) (sym p.mode) tt, refl),
      )
      go (inr (inr (f, p))) = (
        record { mode = mode.active p.memory p.offset_text; content = x.content },
        record {
          flag = h.flag;
          flag_text = h.flag_text;
          behind = h.behind;
          flagged = h.flagged;
          spelled = inr (inr (
            f,
            record {
              memory = p.memory;
              offset = p.offset_text;
              memory_text = p.memory_text;
              offset_text = p.offset_text;
              content_text = p.content_text;
              mode = refl;
              named = p.named;
              placed = up p.offset p.offset_text p.placed;
              filled = p.filled;
              whole = p.whole;
            },
          ));
          whole = h.whole;
        },
        (subst (λ (m : DataMode Code). DataOver m (mode.active p.memory p.offset_text)) (sym p.mode) (refl, p.placed.spelled), refl),
      )

  data_mode_down : (m n : DataMode Code) (b : DataMode Bytes) → DataOver m b → DataOver n b → m ≡ n
  data_mode_down mode.passive mode.passive b h k = refl
  data_mode_down mode.passive (mode.active n d) mode.passive h k = absurd k
  data_mode_down mode.passive (mode.active n d) (mode.active l b) h k = absurd h
  data_mode_down (mode.active m c) n mode.passive h k = absurd h
  data_mode_down (mode.active m c) mode.passive (mode.active l b) h k = absurd k
  data_mode_down (mode.active m c) (mode.active n d) (mode.active l b) h k =
      let e = h.0 ∙ sym k.0 in
      let f = one_expression z c d b h.1 k.1 in
      λ i. mode.active (e i) (f i)

  data_down : (x y : DataTree Code) (b : DataTree Bytes) → SegmentOver x b → SegmentOver y b → x ≡ y
  data_down x y b h k =
      let m = data_mode_down x.mode y.mode b.mode h.0 k.0 in
      let c = h.1 ∙ sym k.1 in
      λ i. record { mode = m i; content = c i }

  pub data_unique : Unique (SpelledData (SpelledConstant z))
  data_unique = lifted (SpelledData (SpelledConstant z)) (SpelledData Text) SegmentOver
      (decided (data_segment (constant z)) (SpelledData Text) (decides-data_segment (constant z) Text (decides-constant z))) data_up data_down
