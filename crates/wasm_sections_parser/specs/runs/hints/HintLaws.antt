-- As many bytes are asked for as are the least that can bring a frame or a refusal.
use Rattle.std.proofs.Common.{◌≡◌, ◌⊎◌, inl, inr, ℕ, ◌+◌, ◌-◌, ◌<◌, ◌≤◌, List, [], ◌∷◌, ◌++◌, length, refl, sym, ap, ◌∙◌, subst, arith, cond, Bool, true, false, None, Result, Ok, Err}
use Rattle.std.specs.Prelude.{nat_lt, nat_le, ◌==◌}
use Rattle.std.proofs.lemmas.Bool.{eqb-true}
use Rattle.std.proofs.lemmas.List.{append_assoc, length-append}
use Rattle.wasm_types.specs.settings.Settings.{Settings}
use Rattle.wasm_types.specs.decoding.declared.Refusal.TheVariants.{Other}
use Rattle.wasm_types.specs.decoding.Decoder.{Outcome, Done, Short, Fault, continue_with, IsBeyond, GoesOn}
use Rattle.wasm_types.specs.decoding.Leb.{unsigned}
use Rattle.wasm_types.specs.decoding.declared.error.ErrorKind.{ErrorKind}
use Rattle.wasm_types.specs.decoding.declared.error.ErrorKind.TheVariants.{EndOfData, MissingFeature, OutOfMemory, Failed}
use Rattle.wasm_types.specs.decoding.declared.error.ErrorKind.TheVariants as kinds
use Rattle.wasm_types.specs.decoding.ErrorValue.{ErrorValue}
use Rattle.wasm_types.specs.decoding.ErrorText.{hint_of}
use Rattle.wasm_types.specs.reader.Reading.{FailsAt, IsNotMemory}
use Rattle.wasm_sections_parser.specs.Parsers.{Parser}
use Rattle.wasm_sections_parser.specs.declared.parser.Chunk.{Chunk}
use Rattle.wasm_sections_parser.specs.declared.parser.Chunk.TheVariants.{NeedMoreData, Parsed}
use Rattle.wasm_sections_parser.specs.declared.progress.Stage.{Stage}
use Rattle.wasm_sections_parser.specs.declared.progress.Stage.TheVariants as stages
use Rattle.wasm_sections_parser.specs.Needs.{needed}
use Rattle.wasm_sections_parser.specs.Steps.{begun, is_over, number_before, Next, next_section, body, next_entry, behind_code, at_stage, step}
use Rattle.wasm_sections_parser.specs.StepLaws.{lawful-step}
use Rattle.wasm_sections_parser.specs.Parsing.{reads, comes, between, at_end, Ends, Comes, IsOver, one_of, Parses}
use Rattle.wasm_sections_parser.specs.runs.hints.Hints.{Asks, IsEnough, AreBytes, AreNotLast, IsBegun, EndsWithinSize, IsLeast}
use Rattle.wasm_sections_parser.specs.runs.hints.CutLaws.{IsSettled, short, not_settled, need_is}
use Rattle.wasm_sections_parser.specs.runs.hints.StepNeeds.{Needs, ordered_empty, step_needs}
use Rattle.wasm_sections_parser.specs.runs.steps.StepCases.{step_between}

-- ---- calls

no_bytes : (xs : List ℕ) → length xs ≡ 0 → xs ≡ []
no_bytes [] e = refl
no_bytes (x ∷ xs) e = absurd (omega arith)

-- an end of data is no fault, and its hint is that of the error
no_fault : (k : ErrorKind) (place p h : ℕ) (o : Outcome Next) → IsNotMemory k → FailsAt k place o → hint_of k ≡ None → o ≡ short p h → ⊥
no_fault (EndOfData g) place p h o m f hint e = absurd cc
no_fault (MissingFeature x) place p h o m f hint e = let no = sym f ∙ e in absurd cc
no_fault OutOfMemory place p h o m f hint e = m
no_fault Failed place p h o m f hint e = f
no_fault kinds.Other place p h o m f hint e = let no = sym f ∙ e in absurd cc

module _ (p : Parser) (text : List ℕ) where
  -- no byte is there, and the end may come
  at_end_is : at_end p text ≡ true → (text ≡ []) × (between p.progress.stage p.offset ≡ true)
  at_end_is e = go (length text == 0) refl e
    where
      go : (v : Bool) → (length text == 0) ≡ v → cond v (between p.progress.stage p.offset) false ≡ true → (text ≡ []) × (between p.progress.stage p.offset ≡ true)
      go true f g = (no_bytes text (eqb-true _ _ f), g)
      go false f g = absurd cc

  at_end_so : at_end p text ≡ false → between p.progress.stage p.offset ≡ true → text ≡ [] → ⊥
  at_end_so e b none =
      let here : at_end p text ≡ true = ap (λ (x : List ℕ). cond (length x == 0) (between p.progress.stage p.offset) false) none ∙ b in
      let no : true ≡ false = sym here ∙ e in
      cc

  at_end_more : (more : List ℕ) → at_end p text ≡ false → at_end p (text ++ more) ≡ false
  at_end_more more e = go (at_end p (text ++ more)) refl
    where
      front : (xs ys : List ℕ) → length (xs ++ ys) ≡ 0 → length xs ≡ 0
      front xs ys k = omega (arith, length-append xs ys, k)

      all : (v : Bool) → (length (text ++ more) == 0) ≡ v → cond v (between p.progress.stage p.offset) false ≡ true → ⊥
      all true f g = at_end_so e g (no_bytes text (front text more (eqb-true _ _ f)))
      all false f g = absurd cc

      go : (v : Bool) → at_end p (text ++ more) ≡ v → at_end p (text ++ more) ≡ false
      go true f = absurd (all (length (text ++ more) == 0) refl f)
      go false f = f

  -- where something may come, and a byte is there or the end may not come, the answer is what comes next
  to_comes : (answer : Result Chunk ErrorValue) (q : Parser) (eof : Bool) → is_over p.progress ≡ false → at_end p text ≡ false → Parses p text eof answer q → Comes p text eof answer q
  to_comes answer q eof going b h = go (is_over p.progress) (at_end p text) going b h
    where
      go : (v w : Bool) → v ≡ false → w ≡ false → one_of v (IsOver p answer q) (one_of w (Ends p eof answer q) (Comes p text eof answer q)) → Comes p text eof answer q
      go false false e f g = g
      go false true e f g = absurd cc
      go true w e f g = absurd cc

  to_ends : (answer : Result Chunk ErrorValue) (q : Parser) (eof : Bool) → is_over p.progress ≡ false → at_end p text ≡ true → Parses p text eof answer q → Ends p eof answer q
  to_ends answer q eof going b h = go (is_over p.progress) (at_end p text) going b h
    where
      go : (v w : Bool) → v ≡ false → w ≡ true → one_of v (IsOver p answer q) (one_of w (Ends p eof answer q) (Comes p text eof answer q)) → Ends p eof answer q
      go false true e f g = g
      go false false e f g = absurd cc
      go true w e f g = absurd cc

  asks_there : (place h : ℕ) → is_over p.progress ≡ false → at_end p text ≡ false → comes p text ≡ short place h → Asks p text (needed p.progress p.offset text h)
  asks_there place h going b e answer q i = go answer (to_comes answer q false going b i)
    where
      go : (a : Result Chunk ErrorValue) → Comes p text false a q → (a ≡ Ok (NeedMoreData (needed p.progress p.offset text h))) × (q ≡ p)
      go (Ok (NeedMoreData m)) g = (
        ap (λ (x : ℕ). Ok (NeedMoreData x)) (g.1.3 ∙ ap (λ (x : ℕ). needed p.progress p.offset text x) (need_is {A = Next} g.1.0 place g.1.1 h (sym g.1.2 ∙ e))),
        g.2,
      )
      go (Ok (Parsed m f)) g = let no = sym g.read ∙ e in absurd cc
      go (Err k) g = absurd (no_fault k.kind k.offset place h (comes p text) g.0 g.1 (g.2 refl) e)

  asks_end : is_over p.progress ≡ false → at_end p text ≡ true → Asks p text 2
  asks_end going b answer q h = go answer (to_ends answer q false going b h)
    where
      go : (a : Result Chunk ErrorValue) → Ends p false a q → (a ≡ Ok (NeedMoreData 2)) × (q ≡ p)
      go (Ok (NeedMoreData m)) g = (ap (λ (x : ℕ). Ok (NeedMoreData x)) g.1, g.2)
      go (Ok (Parsed m f)) g = let no = g.0 in absurd cc
      go (Err k) g = let no = g.0 in absurd cc

  enough_there : at_end p text ≡ false → IsSettled (comes p text) → IsEnough p text
  enough_there b s n q h = go (is_over p.progress) (at_end p text) b h
    where
      go : (v w : Bool) → w ≡ false → one_of v (IsOver p (Ok (NeedMoreData n)) q) (one_of w (Ends p false (Ok (NeedMoreData n)) q) (Comes p text false (Ok (NeedMoreData n)) q)) → ⊥
      go true w f g = g
      go false true f g = absurd cc
      go false false f g = not_settled (comes p text) g.1.0 g.1.1 s g.1.2

-- ---- what is asked for is the least

short_or : (o : Outcome Next) → IsSettled o ⊎ ((q : ℕ) × (h : ℕ) × (o ≡ short q h))
short_or (Done x t) = inl tt
short_or (Short q h) = inr (q, h, refl)
short_or (Fault k q) = inl tt

bytes_append : (xs ys : List ℕ) → AreBytes xs → AreBytes ys → AreBytes (xs ++ ys)
bytes_append [] ys h k = k
bytes_append (x ∷ xs) ys h k = (h.0, bytes_append xs ys h.1 k)

begun_front : (xs ys : List ℕ) → AreNotLast (xs ++ ys) → AreNotLast xs
begun_front [] ys h = tt
begun_front (x ∷ xs) ys h = (h.0, begun_front xs ys h.1)

tail_is : (c d : ℕ) (xs ys : List ℕ) → c ∷ xs ≡ d ∷ ys → xs ≡ ys
tail_is c d xs ys i = cc

module _ (p : Parser) (going : is_over p.progress ≡ false) where
  abbrev settings : Settings
  settings = p.settings

  -- what comes next once more bytes stand behind
  goes_on : (text more : List ℕ) (place h : ℕ) → comes p text ≡ short place h
      → (length more < h → comes p (text ++ more) ≡ short place (h - length more)) × (h ≤ length more → IsBeyond place (comes p (text ++ more)))
  goes_on text more place h e = subst (λ (o : Outcome Next). GoesOn o more (comes p (text ++ more))) e ((lawful-step settings p.progress).steady (reads p text) more)

  needs : (text : List ℕ) (place h : ℕ) → at_end p text ≡ false → comes p text ≡ short place h
      → Needs p.progress.stage text p.offset (λ more. comes p (text ++ more)) h (needed p.progress p.offset text h)
  needs text place h b e = step_needs settings p.progress text p.offset settings p.offset place h (at_end_so p text b) e

  -- a parser that gives no frame and no refusal asks for what is needed
  again : (text more : List ℕ) (n : ℕ) → at_end p (text ++ more) ≡ false → (IsSettled (comes p (text ++ more)) → n ≤ length more)
      → ((ys : List ℕ) → AreBytes ys → IsSettled (comes p (text ++ (more ++ ys))) → n ≤ length (more ++ ys)) → length more < n
      → (m : ℕ) × (n ≤ length more + m) × Asks p (text ++ more) m
  again text more n b now later lt = elim (short_or (comes p (text ++ more))) [
    | inl s ↦ let le = now s in absurd (omega (arith, le, lt))
    | inr s ↦
        let k = needs (text ++ more) s.0 s.1 b s.2 in
        let there = later k.enough.0 k.enough.1 (subst (λ (x : List ℕ). IsSettled (comes p x)) (append_assoc text more k.enough.0) k.enough.3) in
        (needed p.progress p.offset (text ++ more) s.1, omega (arith, there, k.enough.2, length-append more k.enough.0), asks_there p (text ++ more) s.0 s.1 going b s.2)
  ]

  -- where the end may come
  end_least : between p.progress.stage p.offset ≡ true → IsLeast p [] 2
  unfolding next_section unsigned
  end_least b = record {
    fewer = λ more bytes lt. (2 - length more, omega (arith, lt), few more lt);
    enough = (
      0 ∷ 0 ∷ [],
      (omega arith, (omega arith, tt)),
      refl,
      enough_there p (0 ∷ 0 ∷ []) refl
          (subst (λ (o : Outcome Next). IsSettled o) (sym (step_between settings p.progress (reads p (0 ∷ 0 ∷ [])) b)) (ordered_empty settings p.progress 0 (p.offset + 1 + 1) settings p.offset)),
    );
    still = λ w more lt. few more lt;
    there = λ place h more e le.
        let on = goes_on [] more place h e in
        on.1 (omega (arith, le, need_is {A = Next} p.offset place 1 h (sym (step_between settings p.progress (reads p []) b) ∙ e)));
  }
    where
      outside : (c : ℕ) → EndsWithinSize p.progress.stage p.offset (c ∷ []) → ⊥
      outside c (inl w) = go w.1.1 w.1.2 w.1.3
        where
          go : (number : List ℕ) → c ∷ [] ≡ w.1.0 ∷ number → IsBegun number → ⊥
          go [] e begun = begun
          go (x ∷ xs) e begun = absurd cc
      outside c (inr w) = go (sym (ap (λ (g : Stage). between g p.offset) w.2) ∙ b)
        where
          go : between (stages.Code w.0 w.1) p.offset ≡ true → ⊥
          go e = at (w.0 == 0) refl e
            where
              at : (v : Bool) → (w.0 == 0) ≡ v → cond v (nat_le w.1 p.offset) false ≡ true → ⊥
              at true f i = let none = eqb-true _ _ f in omega (arith, none, w.3)
              at false f i = absurd cc

      few : (more : List ℕ) → length more < 2 → Asks p more (2 - length more)
      few [] lt = asks_end p [] going b
      few (c ∷ []) lt =
          let e = step_between settings p.progress (reads p (c ∷ [])) b in
          subst (λ (m : ℕ). Asks p (c ∷ []) m) ((needs (c ∷ []) (p.offset + 1) 1 refl e).same (outside c)) (asks_there p (c ∷ []) (p.offset + 1) 1 going refl e)
      few (c ∷ d ∷ more) lt = absurd (omega (arith, lt))

  -- one byte is lacking before a size
  one_of_section : (c place h : ℕ) → between p.progress.stage p.offset ≡ true → comes p (c ∷ []) ≡ short place h → h ≡ 1
  unfolding next_section unsigned
  one_of_section c place h b e = sym (need_is {A = Next} (p.offset + 1) place 1 h (sym (step_between settings p.progress (reads p (c ∷ [])) b) ∙ e))

  one_of_body : (left end place h : ℕ) → p.progress.stage ≡ stages.Code left end → 0 < left → comes p [] ≡ short place h → h ≡ 1
  unfolding step next_entry number_before unsigned
  one_of_body left end place h f some e = go (left == 0) refl (subst (λ (g : Stage). at_stage settings p.progress g (reads p []) ≡ short place h) f e)
    where
      inside : (v : Bool) → continue_with (cond v (short {A = ℕ} p.offset 1) (Fault Other p.offset)) (body p.progress left end) ≡ short place h → h ≡ 1
      inside true g = sym (need_is {A = Next} p.offset place 1 h g)
      inside false g = absurd cc

      go : (v : Bool) → (left == 0) ≡ v → cond v (behind_code settings p.progress end) (next_entry p.progress left end) (reads p []) ≡ short place h → h ≡ 1
      go true i g = let none = eqb-true _ _ i in absurd (omega (arith, none, some))
      go false i g = inside (nat_lt p.offset end) g

  -- bytes that end within a size with fewer more than are lacking end there without them
  within_front : (text more : List ℕ) (place h : ℕ) → at_end p text ≡ false → comes p text ≡ short place h → length more < h
      → EndsWithinSize p.progress.stage p.offset (text ++ more) → EndsWithinSize p.progress.stage p.offset text
  within_front text more place h b e lt (inl w) = go text refl w.1.2 w.1.3
    where
      go : (t : List ℕ) → text ≡ t → t ++ more ≡ w.1.0 ∷ w.1.1 → IsBegun w.1.1 → EndsWithinSize p.progress.stage p.offset text
      go [] f g begun = absurd (at_end_so p text b w.0 f)
      go (c ∷ []) f g begun =
          let one = one_of_section c place h w.0 (subst (λ (x : List ℕ). comes p x ≡ short place h) f e) in
          absurd (subst IsBegun (sym (tail_is c w.1.0 more w.1.1 g) ∙ no_bytes more (omega (arith, lt, one))) begun)
      go (c ∷ x ∷ xs) f g begun =
          let both : IsBegun (x ∷ (xs ++ more)) = subst IsBegun (sym (tail_is c w.1.0 (x ∷ (xs ++ more)) w.1.1 g)) begun in
          inl (w.0, (c, x ∷ xs, f, (both.0, begun_front xs more both.1)))
  within_front text more place h b e lt (inr w) = go text refl w.4
    where
      go : (t : List ℕ) → text ≡ t → IsBegun (t ++ more) → EndsWithinSize p.progress.stage p.offset text
      go [] f begun =
          let one = one_of_body w.0 w.1 place h w.2 w.3 (subst (λ (x : List ℕ). comes p x ≡ short place h) f e) in
          absurd (subst IsBegun (no_bytes more (omega (arith, lt, one))) begun)
      go (x ∷ xs) f begun = inr (w.0, w.1, w.2, w.3, subst IsBegun (sym f) (begun.0, begun_front xs more begun.1))

  -- elsewhere
  there_least : (text : List ℕ) (place h : ℕ) → at_end p text ≡ false → comes p text ≡ short place h → IsLeast p text (needed p.progress p.offset text h)
  there_least text place h b e = record {
    fewer = λ more bytes lt.
        again text more (needed p.progress p.offset text h) (at_end_more p text more b) (k.fewer more bytes) (λ ys more_bytes s. k.fewer (more ++ ys) (bytes_append more ys bytes more_bytes) s) lt;
    enough = (k.enough.0, k.enough.1, k.enough.2, enough_there p (text ++ k.enough.0) (at_end_more p text k.enough.0 b) k.enough.3);
    still = λ w more lt. still w more (omega (arith, lt, k.same w));
    there = λ at g more f le. (goes_on text more at g f).1 (omega (arith, le, k.lacking, need_is {A = Next} place at h g (sym e ∙ f)));
  }
    where
      k : Needs p.progress.stage text p.offset (λ more. comes p (text ++ more)) h (needed p.progress p.offset text h)
      k = needs text place h b e

      still : (EndsWithinSize p.progress.stage p.offset text → ⊥) → (more : List ℕ) → length more < h → Asks p (text ++ more) (needed p.progress p.offset text h - length more)
      still w more lt =
          let c = at_end_more p text more b in
          let on = (goes_on text more place h e).0 lt in
          subst (λ (m : ℕ). Asks p (text ++ more) m)
          ((needs (text ++ more) place (h - length more) c on).same (λ v. w (within_front text more place h b e lt v)) ∙ ap (λ (m : ℕ). m - length more) (sym (k.same w)))
          (asks_there p (text ++ more) place (h - length more) going c on)

-- a call that asks for bytes leaves the parser, and asks for the least
pub need_least : (p q : Parser) (text : List ℕ) (n : ℕ) → Parses p text false (Ok (NeedMoreData n)) q → (q ≡ p) × IsLeast p text n
need_least p q text n h = over (is_over p.progress) refl h
  where
    ends : is_over p.progress ≡ false → (v : Bool) → at_end p text ≡ v → one_of v (Ends p false (Ok (NeedMoreData n)) q) (Comes p text false (Ok (NeedMoreData n)) q) → (q ≡ p) × IsLeast p text n
    ends going true e g =
        let k = at_end_is p text e in
        (g.2, subst (λ (x : List ℕ). IsLeast p x n) (sym k.0) (subst (λ (m : ℕ). IsLeast p [] m) (sym g.1) (end_least p going k.1)))
    ends going false e g = (g.2, subst (λ (m : ℕ). IsLeast p text m) (sym g.1.3) (there_least p going text g.1.0 g.1.1 e g.1.2))

    over : (v : Bool) → is_over p.progress ≡ v → one_of v (IsOver p (Ok (NeedMoreData n)) q)
        (one_of (at_end p text) (Ends p false (Ok (NeedMoreData n)) q) (Comes p text false (Ok (NeedMoreData n)) q))
        → (q ≡ p) × IsLeast p text n
    over true e g = absurd g
    over false e g = ends e (at_end p text) refl g

-- where none follow, no more bytes are asked for
pub nothing_asked : (p : Parser) (text : List ℕ) (n : ℕ) (q : Parser) → Parses p text true (Ok (NeedMoreData n)) q → ⊥
nothing_asked p text n q h = over (is_over p.progress) h
  where
    between : (b : Bool) → one_of b (Ends p true (Ok (NeedMoreData n)) q) (Comes p text true (Ok (NeedMoreData n)) q) → ⊥
    between true g = let k = g.0 in cc
    between false g = let k = g.0 in cc

    over : (b : Bool) → one_of b (IsOver p (Ok (NeedMoreData n)) q) (one_of (at_end p text) (Ends p true (Ok (NeedMoreData n)) q) (Comes p text true (Ok (NeedMoreData n)) q)) → ⊥
    over true g = g
    over false g = between (at_end p text) g
