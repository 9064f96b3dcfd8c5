-- Tables are read lawfully, and exactly where the bytes spell them, if constant expressions are.
use Rattle.std.proofs.Common.{◌≡◌, ℕ, ◌<◌, ◌≤◌, List, [], ◌∷◌, ◌++◌, refl, sym, subst, arith, cond, eqb, Bool, true, false, Option, Some, None}
use Rattle.std.specs.Prelude.{◌==◌}
use Rattle.std.proofs.lemmas.Bool.{eqb-true, eqb-false}
use Rattle.wasm_types.specs.decoding.declared.Refusal.TheVariants.{Other}
use Rattle.wasm_types.specs.decoding.Decoder.{State, Outcome, Done, Short, Fault, Decoder, Grammar, continue_with, ◌>>=◌, pure, byte, Takes, IsBeyond, GoesForward, IsLawful, TakesOne, Decides, Then}
use Rattle.wasm_types.specs.decoding.Laws.{lawful-byte, lawful->>=, lawful-pure, lawful-refuse, lawful-if, lawful-look, TakesOne-byte}
use Rattle.wasm_types.specs.decoding.ExactLaws.{Mapped, Sound, Reads, decides->>=, decides-same, decides-refuse, decides-if, decides-map, decides-byte, decides-look_apart}
use Rattle.wasm_types.specs.values.Decode.{reference_after, reference_type}
use Rattle.wasm_types.specs.values.DecodeLaws.{lawful-reference_after}
use Rattle.wasm_types.specs.values.HeapLaws.{heads, tails}
use Rattle.wasm_types.specs.values.Spelled.{SpelledReference}
use Rattle.wasm_types.specs.values.ReferenceLaws.{reference_begins, reference_some}
use Rattle.wasm_types.specs.externs.declared.table.TableType.{TableType}
use Rattle.wasm_types.specs.externs.Decode.{limits_flags, table_after, table_type}
use Rattle.wasm_types.specs.externs.Spells.{SpelledTable}
use Rattle.wasm_types.specs.externs.DecodeLaws.{lawful-table_type, decides-table_type, lawful-limits_flags, lawful-table_after}
use Rattle.wasm_sections_items.specs.segments.Tables.{TableTree, SpelledInitialised, SpelledWith, SpelledTableItem, table_of, plain, zero_after, behind_mark, mark_after, initialised, table_at, table}

-- ---- with a byte there it does not end here

still_beyond : {B : Type 0} (p : ℕ) (t : State) (o : Outcome B) → p < t.place → GoesForward t o → IsBeyond p o
still_beyond p t (Done y u) lt f = omega (arith, f.1.place)
still_beyond p t (Short q h) lt f = omega (arith, f.0)
still_beyond p t (Fault k q) lt f = tt

beyond_then : {A B : Type 0} (f : A → Decoder B) → ((x : A) → IsLawful (f x)) → (p : ℕ) (o : Outcome A) → IsBeyond p o → IsBeyond p (continue_with o f)
beyond_then f lawful p (Done x t) h = still_beyond p t (f x t) h ((lawful x).forward t)
beyond_then f lawful p (Short q n) h = h
beyond_then f lawful p (Fault k q) h = h

takes_then : {A B : Type 0} (d : Decoder A) (f : A → Decoder B) → ((x : A) → IsLawful (f x)) → TakesOne d → TakesOne (d >>= f)
takes_then d f lawful takes s h = beyond_then f lawful s.place (d s) (takes s h)

takes_reference : TakesOne reference_type
unfolding reference_type
takes_reference = TakesOne-byte reference_after lawful-reference_after

takes_table : TakesOne table_type
unfolding table_type
takes_table = takes_then reference_type (λ r. limits_flags 8 >>= table_after r) (λ r. lawful->>= (limits_flags 8) (table_after r) (lawful-limits_flags 8) (lawful-table_after r)) takes_reference

takes_if : {A : Type 0} (b : Bool) (d e : Decoder A) → TakesOne d → TakesOne e → TakesOne (cond b d e)
takes_if true d e l m = l
takes_if false d e l m = m

-- ---- the first byte of a table's type

table_begins : (t : TableType) (b : ℕ) (text : List ℕ) → SpelledTable t (b ∷ text) → 0x63 ≤ b
table_begins t b text h = go h.element _ h.stored h.whole
  where
    go : (element rest : List ℕ) → SpelledReference t.element_type element → b ∷ text ≡ element ++ rest → 0x63 ≤ b
    go [] rest stored whole = absurd (reference_some t.element_type stored)
    go (c ∷ element) rest stored whole = omega (arith, heads b c _ _ whole, (reference_begins c element t.element_type.nullable t.element_type.heap stored).0)

table_some : (t : TableType) → SpelledTable t [] → ⊥
table_some t h = go h.element _ h.stored h.whole
  where
    go : (element rest : List ℕ) → SpelledReference t.element_type element → [] ≡ element ++ rest → ⊥
    go [] rest stored whole = reference_some t.element_type stored
    go (c ∷ element) rest stored whole = cc

module _ {C : Type 0} (e : Decoder C) where
  -- ---- lawful

  abbrev none : TableType → TableTree C
  none t = table_of t None

  abbrev some : TableType → C → TableTree C
  some t x = table_of t (Some x)

  lawful-plain : IsLawful (plain {C = C})
  unfolding plain
  lawful-plain = lawful->>= table_type _ lawful-table_type (λ t. lawful-pure (none t))

  takes_plain : TakesOne (plain {C = C})
  unfolding plain
  takes_plain = takes_then table_type (λ t. pure (none t)) (λ t. lawful-pure (none t)) takes_table

  lawful-behind_mark : IsLawful e → IsLawful (behind_mark e)
  unfolding behind_mark
  lawful-behind_mark l = lawful->>= byte (zero_after e) lawful-byte
      (λ b. lawful-if (b == 0) _ _ (lawful->>= table_type _ lawful-table_type (λ t. lawful->>= e _ l (λ x. lawful-pure (some t x)))) (lawful-refuse Other 1))

  lawful-mark_after : IsLawful e → (b : ℕ) → IsLawful (mark_after e b)
  lawful-mark_after l b = lawful-if (b == 0x40) _ _ (lawful-behind_mark l) (lawful-refuse Other 1)

  lawful-initialised : IsLawful e → IsLawful (initialised e)
  unfolding initialised
  lawful-initialised l = lawful->>= byte (mark_after e) lawful-byte (lawful-mark_after l)

  takes_initialised : IsLawful e → TakesOne (initialised e)
  unfolding initialised
  takes_initialised l = TakesOne-byte (mark_after e) (lawful-mark_after l)

  pub lawful-table : IsLawful e → IsLawful (table e)
  unfolding table
  lawful-table l = lawful-look (table_at e) (λ b. lawful-if (b == 0x40) _ _ (lawful-initialised l) lawful-plain) (λ b. takes_if (b == 0x40) _ _ (takes_initialised l) takes_plain)

  module _ (g : Grammar C) (exact : Decides e g) where
    -- ---- exact

    abbrev Plain : Grammar (TableTree C)
    Plain = Mapped none SpelledTable

    decides-plain : Decides plain Plain
    unfolding plain
    decides-plain = decides-map table_type none SpelledTable decides-table_type

    -- with an expression
    abbrev WithInit : TableType → Option C → List ℕ → Type 0
    WithInit t None text = ⊥
    WithInit t (Some x) text = SpelledInitialised g t x text

    abbrev Initialised : Grammar (TableTree C)
    Initialised x text = WithInit x.ty x.init text

    abbrev Behind : Grammar (TableTree C)
    Behind = Then SpelledTable (λ t. Mapped (some t) g)

    behind_to : (b z : ℕ) → b ≡ 0x40 → z ≡ 0 → (x : TableTree C) (text : List ℕ) → Behind x text → Initialised x (b ∷ z ∷ text)
    behind_to b z i j x text h = subst (λ (k : TableTree C). Initialised k (b ∷ z ∷ text)) (sym h.second.2) (record {
      type_text = h.front;
      init_text = h.back;
      typed = h.first;
      initialised = h.second.1;
      whole = λ n. i n ∷ j n ∷ h.whole n;
    })

    behind_from : (b z : ℕ) (t : TableType) (o : Option C) (text : List ℕ) → WithInit t o (b ∷ z ∷ text) → Behind (table_of t o) text
    behind_from b z t None text h = absurd h
    behind_from b z t (Some x) text h = record {
      value = t;
      front = h.type_text;
      back = h.init_text;
      first = h.typed;
      second = (x, h.initialised, refl);
      whole =
          tails z 0x00 text _ (tails b 0x40 _ _ h.whole);
    }

    marks : (t : TableType) (o : Option C) (b : ℕ) (text : List ℕ) → WithInit t o (b ∷ text) → b ≡ 0x40
    marks t None b text h = absurd h
    marks t (Some x) b text h = heads b 0x40 text _ h.whole

    zeros : (t : TableType) (o : Option C) (b z : ℕ) (text : List ℕ) → WithInit t o (b ∷ z ∷ text) → z ≡ 0
    zeros t None b z text h = absurd h
    zeros t (Some x) b z text h = heads z 0x00 text _ (tails b 0x40 _ _ h.whole)

    no_mark : (t : TableType) (o : Option C) → WithInit t o [] → ⊥
    no_mark t None h = h
    no_mark t (Some x) h = let no = h.whole in cc

    no_zero : (t : TableType) (o : Option C) (b : ℕ) → WithInit t o (b ∷ []) → ⊥
    no_zero t None b h = h
    no_zero t (Some x) b h = let no = tails b 0x40 [] _ h.whole in cc

    decides-behind_mark : (b : ℕ) → b ≡ 0x40 → Decides (behind_mark e) (λ x text. Initialised x (b ∷ text))
    unfolding behind_mark
    decides-behind_mark b i = decides-byte (zero_after e) (λ x text. Initialised x (b ∷ text)) (λ x. no_zero x.ty x.init b) (λ z.
        decides-if (eqb z 0) _ _ _
        (λ y. let j : z ≡ 0 = eqb-true _ _ y in
        decides-same _ Behind (λ x text. Initialised x (b ∷ z ∷ text))
        (decides->>= table_type _ SpelledTable (λ t. Mapped (some t) g) decides-table_type (λ t. decides-map e (some t) g exact)) (behind_to b z i j) (λ x text. behind_from b z x.ty x.init text))
        (λ n. decides-refuse Other 1 (λ x text. Initialised x (b ∷ z ∷ text)) (λ x text h. eqb-false _ _ n (zeros x.ty x.init b z text h))))

    decides-initialised : Decides (initialised e) Initialised
    unfolding initialised
    decides-initialised = decides-byte (mark_after e) Initialised (λ x. no_mark x.ty x.init) (λ b.
        decides-if (eqb b 0x40) _ _ _
        (λ y. decides-behind_mark b (eqb-true _ _ y))
        (λ n. decides-refuse Other 1 (λ x text. Initialised x (b ∷ text)) (λ x text h. eqb-false _ _ n (marks x.ty x.init b text h))))

    -- ---- which of the two

    plain_to : (x : TableTree C) (text : List ℕ) → Plain x text → SpelledTableItem g x text
    plain_to x text h = subst (λ (k : TableTree C). SpelledTableItem g k text) (sym h.2) h.1

    init_to : (t : TableType) (o : Option C) (text : List ℕ) → WithInit t o text → SpelledWith g t o text
    init_to t None text h = absurd h
    init_to t (Some x) text h = h

    table_none : (t : TableType) (o : Option C) → SpelledWith g t o [] → ⊥
    table_none t None h = table_some t h
    table_none t (Some x) h = let no = h.whole in cc

    table_sound : (b : ℕ) → Sound (table_at e b) (SpelledTableItem g)
    table_sound b s t x q = go (b == 0x40) q
      where
        go : (same : Bool) → cond same (initialised e) plain s ≡ Done x t → (text : List ℕ) × Takes s text t × SpelledTableItem g x text
        go true q' = let p = decides-initialised.sound s t x q' in (p.0, p.1, init_to x.ty x.init p.0 p.2)
        go false q' = let p = decides-plain.sound s t x q' in (p.0, p.1, plain_to x p.0 p.2)

    reads_table : (b : ℕ) (t : TableType) (o : Option C) (text : List ℕ) → SpelledWith g t o (b ∷ text) → Reads (table_at e b) (table_of t o) (b ∷ text)
    reads_table b t None text h s u p = go (b == 0x40) refl
      where
        go : (same : Bool) → (b == 0x40) ≡ same → cond same (initialised e) plain s ≡ Done (none t) u
        go true y = absurd (omega (arith, table_begins t b text h, eqb-true _ _ y))
        go false n = decides-plain.complete s u (none t) (b ∷ text) p (t, h, refl)
    reads_table b t (Some x) text h s u p = go (b == 0x40) refl
      where
        go : (same : Bool) → (b == 0x40) ≡ same → cond same (initialised e) plain s ≡ Done (some t x) u
        go true y = decides-initialised.complete s u (some t x) (b ∷ text) p h
        go false n = absurd (eqb-false _ _ n (heads b 0x40 text _ h.whole))

    pub decides-table : Decides (table e) (SpelledTableItem g)
    unfolding table
    decides-table = decides-look_apart (table_at e) (SpelledTableItem g) (λ x. table_none x.ty x.init) table_sound (λ b x text. reads_table b x.ty x.init text)
