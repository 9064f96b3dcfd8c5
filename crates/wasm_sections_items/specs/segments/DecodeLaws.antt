-- Globals and data segments are read lawfully, and exactly where the bytes spell them, if constant expressions are.
use Rattle.std.proofs.Common.{◌≡◌, ℕ, List, ◌++◌, refl, sym, ap, ◌∙◌, subst, arith, eqb, false, inl, inr}
use Rattle.std.specs.Prelude.{◌==◌}
use Rattle.std.proofs.lemmas.Bool.{eqb-true, eqb-false}
use Rattle.wasm_types.specs.decoding.declared.Refusal.TheVariants.{Other}
use Rattle.wasm_types.specs.decoding.Decoder.{Decoder, Grammar, ◌>>=◌, IsLawful, Decides, Then}
use Rattle.wasm_types.specs.decoding.Laws.{lawful->>=, lawful-pure, lawful-if}
use Rattle.wasm_types.specs.decoding.ExactLaws.{Mapped, decides->>=, decides-same, decides-if, decides-map}
use Rattle.wasm_types.specs.decoding.Leb.{u32, IsUnsigned}
use Rattle.wasm_types.specs.decoding.LebLaws.{lawful-unsigned, decides-u32}
use Rattle.wasm_types.specs.decoding.ListLaws.{lawful-from_place, decides-from_place, lawful-refuse_at, decides-refuse_at}
use Rattle.wasm_types.specs.decoding.Text.{IsSized}
use Rattle.wasm_types.specs.externs.declared.global.GlobalType.{GlobalType}
use Rattle.wasm_types.specs.externs.Decode.{global_type}
use Rattle.wasm_types.specs.externs.Spells.{SpelledGlobal}
use Rattle.wasm_types.specs.externs.DecodeLaws.{lawful-global_type, decides-global_type}
use Rattle.wasm_sections_items.specs.frames.Outer.{IsBytes}
use Rattle.wasm_sections_items.specs.frames.Decode.{counted_bytes}
use Rattle.wasm_sections_items.specs.frames.PartLaws.{lawful-counted_bytes, decides-counted_bytes}
use Rattle.wasm_sections_items.specs.segments.Spells.{GlobalTree, SpelledGlobalItem, DataMode, passive, active, DataTree, AfterFlag, SpelledData}
use Rattle.wasm_sections_items.specs.segments.Decode.{global_of, global, data_of, content, placed_in, after_flag, data_segment}

module _ {C : Type 0} (e : Decoder C) where
  -- ---- lawful

  pub lawful-global : IsLawful e → IsLawful (global e)
  unfolding global
  lawful-global l = lawful->>= global_type _ lawful-global_type (λ t. lawful->>= e _ l (λ x. lawful-pure (global_of t x)))

  lawful-content : (m : DataMode C) → IsLawful (content m)
  lawful-content m = lawful->>= counted_bytes _ lawful-counted_bytes (λ b. lawful-pure (data_of m b))

  lawful-placed_in : IsLawful e → (m : ℕ) → IsLawful (placed_in e m)
  lawful-placed_in l m = lawful->>= e _ l (λ x. lawful-content (active m x))

  pub lawful-data_segment : IsLawful e → IsLawful (data_segment e)
  unfolding data_segment
  lawful-data_segment l = lawful-from_place (λ p. u32 >>= after_flag e p) (λ p. lawful->>= u32 (after_flag e p) (lawful-unsigned 4 4) (λ f.
      lawful-if (f == 1) _ _ (lawful-content passive)
      (lawful-if (f == 0) _ _ (lawful-placed_in l 0)
      (lawful-if (f == 2) _ _ (lawful->>= u32 (placed_in e) (lawful-unsigned 4 4) (lawful-placed_in l)) (lawful-refuse_at Other p)))))

  module _ (g : Grammar C) (exact : Decides e g) where
    -- ---- globals

    abbrev init_behind : GlobalType → Grammar (GlobalTree C)
    init_behind t = Mapped (global_of t) g

    global_to : (x : GlobalTree C) (text : List ℕ) → Then SpelledGlobal init_behind x text → SpelledGlobalItem g x text
    global_to x text h = subst (λ (k : GlobalTree C). SpelledGlobalItem g k text) (sym h.second.2) (record {
      type_text = h.front;
      init_text = h.back;
      typed = h.first;
      initialised =
          h.second.1;
      whole = h.whole;
    })

    global_from : (x : GlobalTree C) (text : List ℕ) → SpelledGlobalItem g x text → Then SpelledGlobal init_behind x text
    global_from x text h = record { value = x.ty; front = h.type_text; back = h.init_text; first = h.typed; second = (x.init, h.initialised, refl); whole = h.whole }

    pub decides-global : Decides (global e) (SpelledGlobalItem g)
    unfolding global
    decides-global = decides-same _ (Then SpelledGlobal init_behind) (SpelledGlobalItem g)
        (decides->>= global_type _ SpelledGlobal init_behind decides-global_type (λ t. decides-map e (global_of t) g exact)) global_to global_from

    -- ---- data segments

    -- the bytes of a segment that is used so
    abbrev ContentOf : DataMode C → Grammar (DataTree C)
    ContentOf m = Mapped (data_of m) (IsSized IsBytes)

    decides-content : (m : DataMode C) → Decides (content m) (ContentOf m)
    decides-content m = decides-map counted_bytes (data_of m) (IsSized IsBytes) decides-counted_bytes

    abbrev PlacedIn : ℕ → Grammar (DataTree C)
    PlacedIn m = Then g (λ x. ContentOf (active m x))

    decides-placed_in : (m : ℕ) → Decides (placed_in e m) (PlacedIn m)
    decides-placed_in m = decides->>= e _ g (λ x. ContentOf (active m x)) exact (λ x. decides-content (active m x))

    same_data : (x : DataTree C) (m : DataMode C) → x.mode ≡ m → x ≡ data_of m x.content
    same_data x m q = λ i. record { mode = q i; content = x.content }

    passive_to : (f : ℕ) → f ≡ 1 → (x : DataTree C) (text : List ℕ) → ContentOf passive x text → AfterFlag g f x text
    passive_to f i x text h = subst (λ (k : DataTree C). AfterFlag g f k text) (sym h.2) (inr (inl (i, record { mode = refl; filled = h.1 })))

    passive_from : (f : ℕ) → f ≡ 1 → (x : DataTree C) (text : List ℕ) → AfterFlag g f x text → ContentOf passive x text
    passive_from f i x text (inl h) = absurd (omega (arith, i, h.0))
    passive_from f i x text (inr (inl h)) = (x.content, h.1.filled, same_data x passive h.1.mode)
    passive_from f i x text (inr (inr h)) = absurd (omega (arith, i, h.0))

    plain_to : (f : ℕ) → f ≡ 0 → (x : DataTree C) (text : List ℕ) → PlacedIn 0 x text → AfterFlag g f x text
    plain_to f i x text h = subst (λ (k : DataTree C). AfterFlag g f k text) (sym h.second.2) (inl (
      i,
      record { offset = h.value; offset_text = h.front; content_text = h.back; mode = refl; placed = h.first; filled = h.second.1; whole = h.whole },
    ))

    plain_from : (f : ℕ) → f ≡ 0 → (x : DataTree C) (text : List ℕ) → AfterFlag g f x text → PlacedIn 0 x text
    plain_from f i x text (inl (z, h)) = record {
      value = h.offset;
      front = h.offset_text;
      back = h.content_text;
      first = h.placed;
      second =
          (x.content, h.filled, same_data x (active 0 h.offset) h.mode);
      whole = h.whole;
    }
    plain_from f i x text (inr (inl h)) = absurd (omega (arith, i, h.0))
    plain_from f i x text (inr (inr h)) = absurd (omega (arith, i, h.0))

    abbrev ActiveIn : Grammar (DataTree C)
    ActiveIn = Then (IsUnsigned 32) PlacedIn

    active_to : (f : ℕ) → f ≡ 2 → (x : DataTree C) (text : List ℕ) → ActiveIn x text → AfterFlag g f x text
    active_to f i x text h =
        let a = h.second in
        subst (λ (k : DataTree C). AfterFlag g f k text) (sym a.second.2) (inr (inr (
          i,
          record {
            memory = h.value;
            offset = a.value;
            memory_text = h.front;
            offset_text = a.front;
            content_text = a.back;
            mode = refl;
            named = h.first;
            placed = a.first;
            filled = a.second.1;
            whole = h.whole ∙ ap (λ (z : List ℕ). h.front ++ z) a.whole;
          },
        )))

    active_from : (f : ℕ) → f ≡ 2 → (x : DataTree C) (text : List ℕ) → AfterFlag g f x text → ActiveIn x text
    active_from f i x text (inl h) = absurd (omega (arith, i, h.0))
    active_from f i x text (inr (inl h)) = absurd (omega (arith, i, h.0))
    active_from f i x text (inr (inr (z, h))) = record {
      value = h.memory;
      front = h.memory_text;
      back = h.offset_text ++ h.content_text;
      first = h.named;
      second = record { value = h.offset; front = h.offset_text; back = h.content_text; first = h.placed; second = (x.content, h.filled, same_data x (active h.memory h.offset) h.mode); whole = refl };
      whole = h.whole;
    }

    no_flag : (f : ℕ) → eqb f 1 ≡ false → eqb f 0 ≡ false → eqb f 2 ≡ false → (x : DataTree C) (text : List ℕ) → AfterFlag g f x text → ⊥
    no_flag f i j k x text (inl h) = eqb-false _ _ j h.0
    no_flag f i j k x text (inr (inl h)) = eqb-false _ _ i h.0
    no_flag f i j k x text (inr (inr h)) = eqb-false _ _ k h.0

    decides-after_flag : (p f : ℕ) → Decides (after_flag e p f) (AfterFlag g f)
    decides-after_flag p f =
        decides-if (eqb f 1) _ _ _ (λ t. let q : f ≡ 1 = eqb-true _ _ t in decides-same _ (ContentOf passive) (AfterFlag g f) (decides-content passive) (passive_to f q) (passive_from f q))
        (λ i. decides-if (eqb f 0) _ _ _ (λ t. let q : f ≡ 0 = eqb-true _ _ t in decides-same _ (PlacedIn 0) (AfterFlag g f) (decides-placed_in 0) (plain_to f q) (plain_from f q))
        (λ j. decides-if (eqb f 2) _ _ _ (λ t. let q : f ≡ 2 = eqb-true _ _ t in
        decides-same _ ActiveIn (AfterFlag g f) (decides->>= u32 (placed_in e) (IsUnsigned 32) PlacedIn decides-u32 decides-placed_in) (active_to f q) (active_from f q))
        (λ k. decides-refuse_at Other p (AfterFlag g f) (no_flag f i j k))))

    data_to : (x : DataTree C) (text : List ℕ) → Then (IsUnsigned 32) (AfterFlag g) x text → SpelledData g x text
    data_to x text h = record { flag = h.value; flag_text = h.front; behind = h.back; flagged = h.first; spelled = h.second; whole = h.whole }

    data_from : (x : DataTree C) (text : List ℕ) → SpelledData g x text → Then (IsUnsigned 32) (AfterFlag g) x text
    data_from x text h = record { value = h.flag; front = h.flag_text; back = h.behind; first = h.flagged; second = h.spelled; whole = h.whole }

    pub decides-data_segment : Decides (data_segment e) (SpelledData g)
    unfolding data_segment
    decides-data_segment = decides-from_place (λ p. u32 >>= after_flag e p) (SpelledData g)
        (λ p. decides-same _ (Then (IsUnsigned 32) (AfterFlag g)) (SpelledData g) (decides->>= u32 (after_flag e p) (IsUnsigned 32) (AfterFlag g) decides-u32 (decides-after_flag p)) data_to data_from)
