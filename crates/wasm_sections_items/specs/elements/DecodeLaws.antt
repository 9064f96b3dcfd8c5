-- Element segments are read lawfully, and exactly where the bytes spell them, if constant expressions are.
use Rattle.std.proofs.Common.{◌≡◌, ℕ, zero, suc, ◌+◌, ◌-◌, ◌<◌, ◌≤◌, List, [], ◌∷◌, ◌++◌, refl, sym, ap, ◌∙◌, subst, arith, eqb, ltb, true, false, Option, Some, None}
use Rattle.std.specs.Prelude.{◌==◌, nat_lt}
use Rattle.std.proofs.lemmas.Bool.{eqb-true, eqb-false, ltb-true, ltb-false}
use Rattle.std.proofs.lemmas.List.{append-nil}
use Rattle.wasm_types.specs.decoding.declared.Refusal.TheVariants.{Other}
use Rattle.wasm_types.specs.decoding.Decoder.{Decoder, Grammar, ◌>>=◌, pure, byte, repeated, IsLawful, Decides, Then}
use Rattle.wasm_types.specs.decoding.Laws.{lawful->>=, lawful-pure, lawful-refuse, lawful-byte, lawful-if, lawful-repeated}
use Rattle.wasm_types.specs.decoding.ExactLaws.{Mapped, decides->>=, decides-same, decides-pure, decides-refuse, decides-byte, decides-if, decides-map}
use Rattle.wasm_types.specs.decoding.Leb.{u32, listed, IsUnsigned, IsListed}
use Rattle.wasm_types.specs.decoding.LebLaws.{lawful-unsigned, decides-u32, decides-listed}
use Rattle.wasm_types.specs.values.HeapLaws.{heads, tails}
use Rattle.wasm_types.specs.values.Reference.{Reference}
use Rattle.wasm_types.specs.values.Spelled.{SpelledReference}
use Rattle.wasm_types.specs.values.Decode.{reference_type}
use Rattle.wasm_types.specs.values.DecodeLaws.{lawful-reference_type}
use Rattle.wasm_types.specs.values.ReferenceLaws.{decides-reference_type}
use Rattle.wasm_sections_items.specs.elements.Spells.{
  ElementMode,
  passive,
  active,
  declared,
  ElementItems,
  functions,
  expressions,
  ElementTree,
  any_function,
  use_bits,
  kind_bits,
  SpelledMode,
  SpelledKind,
  SpelledType,
  SpelledItems,
  SpelledElement,
  SpelledSegment,
}
use Rattle.wasm_sections_items.specs.elements.Decode.{element_of, placed_in, mode_by, zero_byte, kind_by, type_by, functions_by, expressions_by, flag_after, element, segment}

-- ---- a kind and a type

lawful-kind_by : (n : ℕ) → IsLawful (kind_by n)
unfolding kind_by
lawful-kind_by n = lawful-if (n == 0) _ _ (lawful-pure tt) (lawful->>= byte zero_byte lawful-byte (λ b. lawful-if (b == 0) _ _ (lawful-pure tt) (lawful-refuse Other 1)))

lawful-type_by : (n : ℕ) → IsLawful (type_by n)
unfolding type_by
lawful-type_by n = lawful-if (n == 0) _ _ (lawful-pure any_function) lawful-reference_type

-- the kind as a grammar of nothing
abbrev KindOf : ℕ → Grammar (Unit {0})
KindOf n u text = SpelledKind n text

no_kind : (n : ℕ) → n ≡ 0 → (u : Unit {0}) (text : List ℕ) → KindOf n u text → (u ≡ tt) × (text ≡ [])
no_kind zero e u text h = (refl, h)
no_kind (suc n) e u text h = absurd (omega (arith, e))

kind_here : (n : ℕ) → n ≡ 0 → KindOf n tt []
kind_here zero e = refl
kind_here (suc n) e = absurd (omega (arith, e))

kind_some : (n : ℕ) → (n ≡ 0 → ⊥) → (u : Unit {0}) → KindOf n u [] → ⊥
kind_some zero e u h = e refl
kind_some (suc n) e u h = let no : [] ≡ 0x00 ∷ [] = h in cc

zero_here : (n b : ℕ) → (n ≡ 0 → ⊥) → b ≡ 0 → KindOf n tt (b ∷ [])
zero_here zero b e z = absurd (e refl)
zero_here (suc n) b e z = ap (λ (k : ℕ). k ∷ []) z

zero_only : (n b : ℕ) → (n ≡ 0 → ⊥) → (u : Unit {0}) (text : List ℕ) → KindOf n u (b ∷ text) → (u ≡ tt) × (text ≡ [])
zero_only zero b e u text h = absurd (e refl)
zero_only (suc n) b e u text h = (refl, tails b 0 text [] h)

not_zero : (n b : ℕ) → (n ≡ 0 → ⊥) → (b ≡ 0 → ⊥) → (u : Unit {0}) (text : List ℕ) → KindOf n u (b ∷ text) → ⊥
not_zero zero b e z u text h = e refl
not_zero (suc n) b e z u text h = z (heads b 0 text [] h)

decides-kind_by : (n : ℕ) → Decides (kind_by n) (KindOf n)
unfolding kind_by
decides-kind_by n = decides-if (eqb n 0) _ _ _
    (λ t. let z : n ≡ 0 = eqb-true _ _ t in decides-pure tt (KindOf n) (kind_here n z) (no_kind n z))
    (λ i. let k : n ≡ 0 → ⊥ = eqb-false _ _ i in decides-byte zero_byte (KindOf n) (kind_some n k) (λ b. decides-if (eqb b 0) _ _ _
    (λ t. decides-pure tt (λ u text. KindOf n u (b ∷ text)) (zero_here n b k (eqb-true _ _ t)) (zero_only n b k))
    (λ j. decides-refuse Other 1 (λ u text. KindOf n u (b ∷ text)) (not_zero n b k (eqb-false _ _ j)))))

type_to : (n : ℕ) → (n ≡ 0 → ⊥) → (r : Reference) (text : List ℕ) → SpelledReference r text → SpelledType n r text
type_to zero e r text h = absurd (e refl)
type_to (suc n) e r text h = h

type_from : (n : ℕ) → (n ≡ 0 → ⊥) → (r : Reference) (text : List ℕ) → SpelledType n r text → SpelledReference r text
type_from zero e r text h = absurd (e refl)
type_from (suc n) e r text h = h

type_here : (n : ℕ) → n ≡ 0 → SpelledType n any_function []
type_here zero e = (refl, refl)
type_here (suc n) e = absurd (omega (arith, e))

no_type : (n : ℕ) → n ≡ 0 → (r : Reference) (text : List ℕ) → SpelledType n r text → (r ≡ any_function) × (text ≡ [])
no_type zero e r text h = h
no_type (suc n) e r text h = absurd (omega (arith, e))

decides-type_by : (n : ℕ) → Decides (type_by n) (SpelledType n)
unfolding type_by
decides-type_by n = decides-if (eqb n 0) _ _ _
    (λ t. let z : n ≡ 0 = eqb-true _ _ t in decides-pure any_function (SpelledType n) (type_here n z) (no_type n z))
    (λ i. decides-same reference_type SpelledReference (SpelledType n) decides-reference_type (type_to n (eqb-false _ _ i)) (type_from n (eqb-false _ _ i)))

pub lawful-listed : {A : Type 0} (d : Decoder A) → IsLawful d → IsLawful (listed d)
unfolding listed
lawful-listed d l = lawful->>= u32 (λ n. repeated n d) (lawful-unsigned 4 4) (λ n. lawful-repeated n d l)

module _ {C : Type 0} (e : Decoder C) where
  -- ---- lawful

  lawful-placed_in : IsLawful e → (t : Option ℕ) → IsLawful (placed_in e t)
  lawful-placed_in l t = lawful->>= e _ l (λ x. lawful-pure (active t x))

  lawful-mode_by : IsLawful e → (n : ℕ) → IsLawful (mode_by e n)
  unfolding mode_by
  lawful-mode_by l n = lawful-if (n == 1) _ _ (lawful-pure passive)
      (lawful-if (n == 3) _ _ (lawful-pure declared)
      (lawful-if (n == 0) _ _ (lawful-placed_in l None)
      (lawful->>= u32 (λ t. placed_in e (Some t)) (lawful-unsigned 4 4) (λ t. lawful-placed_in l (Some t)))))

  lawful-functions_by : (n : ℕ) (m : ElementMode C) → IsLawful (functions_by n m)
  unfolding functions_by
  lawful-functions_by n m = lawful->>= (kind_by n) _ (lawful-kind_by n) (λ u. lawful->>= (listed u32) _ (lawful-listed u32 (lawful-unsigned 4 4)) (λ ys. lawful-pure (element_of m (functions ys))))

  lawful-expressions_by : IsLawful e → (n : ℕ) (m : ElementMode C) → IsLawful (expressions_by e n m)
  unfolding expressions_by
  lawful-expressions_by l n m = lawful->>= (type_by n) _ (lawful-type_by n) (λ r. lawful->>= (listed e) _ (lawful-listed e l) (λ xs. lawful-pure (element_of m (expressions r xs))))

  pub lawful-element : IsLawful e → IsLawful (element e)
  unfolding element
  lawful-element l = lawful->>= u32 (flag_after e) (lawful-unsigned 4 4) (λ f.
      lawful-if (nat_lt 7 f) _ _ (lawful-refuse Other 1)
      (lawful-if (nat_lt f 4) _ _
      (lawful->>= (mode_by e f) (functions_by f) (lawful-mode_by l f) (lawful-functions_by f))
      (lawful->>= (mode_by e (f - 4)) (expressions_by e (f - 4)) (lawful-mode_by l (f - 4)) (lawful-expressions_by l (f - 4)))))

  module _ (g : Grammar C) (exact : Decides e g) where
    -- ---- modes

    -- a mode of these bits
    abbrev ModeOf : ℕ → Grammar (ElementMode C)
    ModeOf n m text = (use_bits m ≡ n) × SpelledMode g m text

    abbrev placed : Option ℕ → C → ElementMode C
    placed t x = active t x

    passive_only : (n : ℕ) → n ≡ 1 → (m : ElementMode C) (text : List ℕ) → ModeOf n m text → (m ≡ passive) × (text ≡ [])
    passive_only n i passive text h = (refl, h.1)
    passive_only n i (active None x) text h = absurd (omega (arith, i, h.0))
    passive_only n i (active (Some t) x) text h = absurd (omega (arith, i, h.0))
    passive_only n i declared text h = absurd (omega (arith, i, h.0))

    declared_only : (n : ℕ) → n ≡ 3 → (m : ElementMode C) (text : List ℕ) → ModeOf n m text → (m ≡ declared) × (text ≡ [])
    declared_only n i declared text h = (refl, h.1)
    declared_only n i (active None x) text h = absurd (omega (arith, i, h.0))
    declared_only n i (active (Some t) x) text h = absurd (omega (arith, i, h.0))
    declared_only n i passive text h = absurd (omega (arith, i, h.0))

    plain_to : (n : ℕ) → n ≡ 0 → (m : ElementMode C) (text : List ℕ) → Mapped (placed None) g m text → ModeOf n m text
    plain_to n i m text h = subst (λ (k : ElementMode C). ModeOf n k text) (sym h.2) (sym i, h.1)

    plain_from : (n : ℕ) → n ≡ 0 → (m : ElementMode C) (text : List ℕ) → ModeOf n m text → Mapped (placed None) g m text
    plain_from n i (active None x) text h = (x, h.1, refl)
    plain_from n i (active (Some t) x) text h = absurd (omega (arith, i, h.0))
    plain_from n i passive text h = absurd (omega (arith, i, h.0))
    plain_from n i declared text h = absurd (omega (arith, i, h.0))

    abbrev InTable : Grammar (ElementMode C)
    InTable = Then (IsUnsigned 32) (λ t. Mapped (placed (Some t)) g)

    table_to : (n : ℕ) → n ≡ 2 → (m : ElementMode C) (text : List ℕ) → InTable m text → ModeOf n m text
    table_to n i m text h = subst (λ (k : ElementMode C). ModeOf n k text) (sym h.second.2) (
      sym i,
      record { table_text = h.front; offset_text = h.back; named = h.first; placed = h.second.1; whole = h.whole },
    )

    table_from : (n : ℕ) → n ≡ 2 → (m : ElementMode C) (text : List ℕ) → ModeOf n m text → InTable m text
    table_from n i (active (Some t) x) text h = record { value = t; front = h.1.table_text; back = h.1.offset_text; first = h.1.named; second = (x, h.1.placed, refl); whole = h.1.whole }
    table_from n i (active None x) text h = absurd (omega (arith, i, h.0))
    table_from n i passive text h = absurd (omega (arith, i, h.0))
    table_from n i declared text h = absurd (omega (arith, i, h.0))

    decides-mode_by : (n : ℕ) → n < 4 → Decides (mode_by e n) (ModeOf n)
    unfolding mode_by
    decides-mode_by n lt = decides-if (eqb n 1) _ _ _
        (λ t. let q : n ≡ 1 = eqb-true _ _ t in decides-pure passive (ModeOf n) (sym q, refl) (passive_only n q))
        (λ i. decides-if (eqb n 3) _ _ _
        (λ t. let q : n ≡ 3 = eqb-true _ _ t in decides-pure declared (ModeOf n) (sym q, refl) (declared_only n q))
        (λ j. decides-if (eqb n 0) _ _ _
        (λ t. let q : n ≡ 0 = eqb-true _ _ t in decides-same (placed_in e None) (Mapped (placed None) g) (ModeOf n) (decides-map e (placed None) g exact) (plain_to n q) (plain_from n q))
        (λ k.
        let not_one : n ≡ 1 → ⊥ = eqb-false _ _ i in
        let not_three : n ≡ 3 → ⊥ = eqb-false _ _ j in
        let not_none : n ≡ 0 → ⊥ = eqb-false _ _ k in
        let q : n ≡ 2 = omega (arith, lt, not_one, not_three, not_none) in
        decides-same (u32 >>= λ t. placed_in e (Some t)) InTable (ModeOf n)
        (decides->>= u32 (λ t. placed_in e (Some t)) (IsUnsigned 32) (λ t. Mapped (placed (Some t)) g) decides-u32 (λ t. decides-map e (placed (Some t)) g exact))
        (table_to n q) (table_from n q))))

    -- ---- items

    abbrev with_functions : ElementMode C → List ℕ → ElementTree C
    with_functions m ys = element_of m (functions ys)

    abbrev with_expressions : ElementMode C → Reference → List C → ElementTree C
    with_expressions m r xs = element_of m (expressions r xs)

    abbrev FunctionsOf : ℕ → ElementMode C → Grammar (ElementTree C)
    FunctionsOf n m = Then (KindOf n) (λ u. Mapped (with_functions m) (IsListed (IsUnsigned 32)))

    decides-functions_by : (n : ℕ) (m : ElementMode C) → Decides (functions_by n m) (FunctionsOf n m)
    unfolding functions_by
    decides-functions_by n m = decides->>= (kind_by n) (λ u. listed u32 >>= λ ys. pure (with_functions m ys)) (KindOf n) (λ u. Mapped (with_functions m) (IsListed (IsUnsigned 32)))
        (decides-kind_by n) (λ u. decides-map (listed u32) (with_functions m) (IsListed (IsUnsigned 32)) (decides-listed (IsUnsigned 32) u32 decides-u32))

    abbrev ExpressionsOf : ℕ → ElementMode C → Grammar (ElementTree C)
    ExpressionsOf n m = Then (SpelledType n) (λ r. Mapped (with_expressions m r) (IsListed g))

    decides-expressions_by : (n : ℕ) (m : ElementMode C) → Decides (expressions_by e n m) (ExpressionsOf n m)
    unfolding expressions_by
    decides-expressions_by n m = decides->>= (type_by n) (λ r. listed e >>= λ xs. pure (with_expressions m r xs)) (SpelledType n) (λ r. Mapped (with_expressions m r) (IsListed g))
        (decides-type_by n) (λ r. decides-map (listed e) (with_expressions m r) (IsListed g) (decides-listed g e exact))

    -- ---- flags

    -- what follows this flag
    pub record Behind (f : ℕ) (x : ElementTree C) (text : List ℕ) : Type 0 where
      pub mode_text : List ℕ
      pub items_text : List ℕ
      pub flag : f ≡ use_bits x.mode + kind_bits x.items
      pub used : SpelledMode g x.mode mode_text
      pub filled : SpelledItems g (use_bits x.mode) x.items items_text
      pub whole : text ≡ mode_text ++ items_text

    few_bits : (m : ElementMode C) → use_bits m < 4
    few_bits passive = omega arith
    few_bits (active None x) = omega arith
    few_bits (active (Some t) x) = omega arith
    few_bits declared = omega arith

    few_kinds : (i : ElementItems C) → kind_bits i ≤ 4
    few_kinds (functions ys) = omega arith
    few_kinds (expressions r xs) = omega arith

    no_flag : (f : ℕ) → 7 < f → (x : ElementTree C) (text : List ℕ) → Behind f x text → ⊥
    no_flag f lt x text h = omega (arith, lt, h.flag, few_bits x.mode, few_kinds x.items)

    functions_to : (f : ℕ) (x : ElementTree C) (text : List ℕ) → Then (ModeOf f) (FunctionsOf f) x text → Behind f x text
    functions_to f x text h =
        let a = h.second in
        subst (λ (k : ElementTree C). Behind f k text) (sym a.second.2) (record {
          mode_text = h.front;
          items_text = h.back;
          flag = omega (arith, h.first.0);
          used = h.first.1;
          filled = (a.front, a.back, subst (λ (n : ℕ). SpelledKind n a.front) (sym h.first.0) a.first, a.second.1, a.whole);
          whole = h.whole;
        })

    functions_from : (f : ℕ) → f < 4 → (m : ElementMode C) (i : ElementItems C) (text : List ℕ) → Behind f (element_of m i) text → Then (ModeOf f) (FunctionsOf f) (element_of m i) text
    functions_from f lt m (functions ys) text h =
        let bits : use_bits m ≡ f = omega (arith, h.flag) in
        record {
          value = m;
          front = h.mode_text;
          back = h.items_text;
          first = (bits, h.used);
          second = record {
            value = tt;
            front = h.filled.0;
            back = h.filled.1;
            first = subst (λ (n : ℕ). SpelledKind n h.filled.0) bits h.filled.2;
            second =
                (ys, h.filled.3, refl);
            whole = h.filled.4;
          };
          whole = h.whole;
        }
    functions_from f lt m (expressions r xs) text h = absurd (omega (arith, lt, h.flag))

    expressions_to : (f : ℕ) → 4 ≤ f → (x : ElementTree C) (text : List ℕ) → Then (ModeOf (f - 4)) (ExpressionsOf (f - 4)) x text → Behind f x text
    expressions_to f le x text h =
        let a = h.second in
        subst (λ (k : ElementTree C). Behind f k text) (sym a.second.2) (record {
          mode_text = h.front;
          items_text = h.back;
          flag = omega (arith, le, h.first.0);
          used = h.first.1;
          filled = (a.front, a.back, subst (λ (n : ℕ). SpelledType n a.value a.front) (sym h.first.0) a.first, a.second.1, a.whole);
          whole = h.whole;
        })

    expressions_from : (f : ℕ) → 4 ≤ f → (m : ElementMode C) (i : ElementItems C) (text : List ℕ) → Behind f (element_of m i) text → Then (ModeOf (f - 4)) (ExpressionsOf (f - 4)) (element_of m i) text
    expressions_from f le m (functions ys) text h = absurd (omega (arith, le, h.flag, few_bits m))
    expressions_from f le m (expressions r xs) text h =
        let bits : use_bits m ≡ f - 4 = omega (arith, h.flag) in
        record {
          value = m;
          front = h.mode_text;
          back = h.items_text;
          first = (bits, h.used);
          second = record {
            value = r;
            front = h.filled.0;
            back = h.filled.1;
            first = subst (λ (n : ℕ). SpelledType n r h.filled.0) bits h.filled.2;
            second =
                (xs, h.filled.3, refl);
            whole = h.filled.4;
          };
          whole = h.whole;
        }

    decides-flag_after : (f : ℕ) → Decides (flag_after e f) (Behind f)
    decides-flag_after f = decides-if (ltb 7 f) _ _ _
        (λ t. decides-refuse Other 1 (Behind f) (no_flag f (ltb-true _ _ t)))
        (λ i. let le : f ≤ 7 = ltb-false _ _ i in decides-if (ltb f 4) _ _ _
        (λ t. let lt : f < 4 = ltb-true _ _ t in
        decides-same _ (Then (ModeOf f) (FunctionsOf f)) (Behind f)
        (decides->>= (mode_by e f) (functions_by f) (ModeOf f) (FunctionsOf f) (decides-mode_by f lt) (decides-functions_by f)) (functions_to f) (λ x. functions_from f lt x.mode x.items))
        (λ j. let more : 4 ≤ f = ltb-false _ _ j in
        decides-same _ (Then (ModeOf (f - 4)) (ExpressionsOf (f - 4))) (Behind f)
        (decides->>= (mode_by e (f - 4)) (expressions_by e (f - 4)) (ModeOf (f - 4)) (ExpressionsOf (f - 4)) (decides-mode_by (f - 4) (omega (
          arith,
          le,
        ))) (decides-expressions_by (f - 4))) (expressions_to f more) (λ x. expressions_from f more x.mode x.items)))

    element_to : (x : ElementTree C) (text : List ℕ) → Then (IsUnsigned 32) Behind x text → SpelledElement g x text
    element_to x text h = record {
      flag_text = h.front;
      mode_text = h.second.mode_text;
      items_text = h.second.items_text;
      flagged = subst (λ (n : ℕ). IsUnsigned 32 n h.front) h.second.flag h.first;
      used = h.second.used;
      filled = h.second.filled;
      whole = h.whole ∙ ap (λ (z : List ℕ). h.front ++ z) h.second.whole;
    }

    element_from : (x : ElementTree C) (text : List ℕ) → SpelledElement g x text → Then (IsUnsigned 32) Behind x text
    element_from x text h = record {
      value = use_bits x.mode + kind_bits x.items;
      front = h.flag_text;
      back = h.mode_text ++ h.items_text;
      first = h.flagged;
      second = record { mode_text = h.mode_text; items_text = h.items_text; flag = refl; used = h.used; filled = h.filled; whole = refl };
      whole = h.whole;
    }

    pub decides-element : Decides (element e) (SpelledElement g)
    unfolding element
    decides-element = decides-same _ (Then (IsUnsigned 32) Behind) (SpelledElement g) (decides->>= u32 (flag_after e) (IsUnsigned 32) Behind decides-u32 decides-flag_after) element_to element_from

    -- ---- a segment that is there

    abbrev there : ElementTree C → Option (ElementTree C)
    there x = Some x

    segment_to : (x : Option (ElementTree C)) (text : List ℕ) → Mapped there (SpelledElement g) x text → SpelledSegment g x text
    segment_to x text h = subst (λ (y : Option (ElementTree C)). SpelledSegment g y text) (sym h.2) h.1

    segment_from : (x : Option (ElementTree C)) (text : List ℕ) → SpelledSegment g x text → Mapped there (SpelledElement g) x text
    segment_from (Some x) text h = (x, h, refl)
    segment_from None text h = absurd h

    pub decides-segment : Decides (segment e) (SpelledSegment g)
    unfolding segment
    decides-segment = decides-same _ (Mapped there (SpelledElement g)) (SpelledSegment g) (decides-map (element e) there (SpelledElement g) decides-element) segment_to segment_from

  pub lawful-segment : IsLawful e → IsLawful (segment e)
  unfolding segment
  lawful-segment l = lawful->>= (element e) _ (lawful-element l) (λ x. lawful-pure (Some x))
