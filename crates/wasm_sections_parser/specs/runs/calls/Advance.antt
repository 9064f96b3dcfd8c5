-- Each frame but the end takes a byte at least, and no byte that is not there; and behind the end alone a parser is over.
use Rattle.std.proofs.Common.{◌≡◌, ℕ, ◌+◌, ◌<◌, ◌≤◌, List, length, refl, sym, ap, ◌∙◌, subst, arith, cond, Bool, true, false, Ok, Err}
use Rattle.std.specs.Prelude.{nat_lt, ◌==◌}
use Rattle.std.proofs.lemmas.List.{length-append}
use Rattle.wasm_types.specs.settings.Settings.{Settings}
use Rattle.wasm_types.specs.decoding.declared.Refusal.TheVariants.{Other}
use Rattle.wasm_types.specs.decoding.Decoder.{State, Outcome, Done, GoesForward, Takes}
use Rattle.wasm_types.specs.decoding.Leb.{IsUnsigned, last, more}
use Rattle.wasm_types.specs.decoding.Lists.{refuse_at}
use Rattle.wasm_types.specs.decoding.ErrorValue.{ErrorValue}
use Rattle.wasm_sections_items.specs.frames.PartLaws.{decides-header}
use Rattle.wasm_sections_parser.specs.declared.frame.Frame.{Frame}
use Rattle.wasm_sections_parser.specs.declared.frame.Frame.TheVariants as frames
use Rattle.wasm_sections_parser.specs.Parsers.{Parser}
use Rattle.wasm_sections_parser.specs.declared.parser.Chunk.TheVariants.{Parsed}
use Rattle.wasm_sections_parser.specs.declared.progress.Stage.{Stage}
use Rattle.wasm_sections_parser.specs.declared.progress.Stage.TheVariants as stages
use Rattle.wasm_sections_parser.specs.declared.progress.Progress.{Progress}
use Rattle.wasm_sections_parser.specs.Steps.{Shape, version, custom, section, code, entry, the_end, one_less, is_over, Next, behind_code, next_section, next_entry, at_stage, step}
use Rattle.wasm_sections_parser.specs.StepLaws.{lawful-step}
use Rattle.wasm_sections_parser.specs.Parsing.{shape_of, reads, at_end, IsNext, Ends, Comes, IsOver, one_of, Parses}
use Rattle.wasm_sections_parser.specs.runs.steps.BodyLaws.{body_spelled}
use Rattle.wasm_sections_parser.specs.runs.steps.SectionCases.{Given, section_given}
use Rattle.wasm_sections_parser.specs.runs.steps.StepCases.{entry_is, header_given, no_end}

abbrev given : Next → State → Outcome Next
given y t = Done y t

-- a number has a byte at least
pub some_bytes : (N v : ℕ) (text : List ℕ) → IsUnsigned N v text → 0 < length text
some_bytes _ _ _ (last N v n a b c) = omega arith
some_bytes _ _ _ (more N v n m rest a b c d) = omega arith

module _ (z : Settings) (p : Progress) (s t : State) where
  section_advances : (x : Shape) (q : Progress) → Given z p s x q t → s.place < t.place
  section_advances (version h) q g = absurd g
  section_advances (custom n c) q g = omega (arith, g.1.1.place, ap length g.1.2.1)
  section_advances (section id c) q g = omega (arith, g.2.1.place, ap length g.2.2.2.1)
  section_advances (code n k) q g = omega (arith, g.1.taken.place)
  section_advances (entry c) q g = absurd g
  section_advances the_end q g = absurd g

  stage_advances : (g : Stage) (y : Next) → at_stage z p g s ≡ given y t → s.place < t.place
  unfolding behind_code
  stage_advances stages.Header y e =
      let h = header_given p s t y e in
      let text = decides-header.sound s t h.0 h.2 in
      omega (arith, text.1.place, ap length text.2.whole)
  stage_advances stages.Sections y e = section_advances y.0 y.1 (section_given z p s t y e)
  stage_advances (stages.Code left end) y e = go (left == 0) e
    where
      behind : (b : Bool) → cond b (refuse_at {A = Next} Other s.place) (next_section z p) s ≡ given y t → s.place < t.place
      behind true f = absurd cc
      behind false f = section_advances y.0 y.1 (section_given z p s t y f)

      go : (b : Bool) → cond b (behind_code z p end) (next_entry p left end) s ≡ given y t → s.place < t.place
      go true f = behind (nat_lt s.place end) f
      go false f =
          let c = entry_is p left end s t y f in
          let b = body_spelled p (one_less p left end) left end s t c.0 (f ∙ ap (λ (x : Next). given x t) (sym c.1)) in
          omega (arith, b.1.place, ap length b.2.whole, length-append b.2.size b.2.content, some_bytes 32 (length b.2.content) b.2.size b.2.counted)
  stage_advances stages.Ended y e = absurd cc
  stage_advances stages.Failed y e = absurd cc

  step_advances : (y : Next) → step z p s ≡ given y t → s.place < t.place
  unfolding step
  step_advances y e = stage_advances p.stage y e

  -- ---- behind a step something may come

  section_goes_on : (x : Shape) (q : Progress) → Given z p s x q t → is_over q ≡ false
  section_goes_on (version h) q g = absurd g
  section_goes_on (custom n c) q g = ap is_over g.0
  section_goes_on (section id c) q g = ap is_over g.1.2
  section_goes_on (code n k) q g = ap is_over g.1.noted
  section_goes_on (entry c) q g = absurd g
  section_goes_on the_end q g = absurd g

  stage_goes_on : (g : Stage) (y : Next) → at_stage z p g s ≡ given y t → is_over y.1 ≡ false
  unfolding behind_code
  stage_goes_on stages.Header y e = ap (λ (v : Next). is_over v.1) (sym (header_given p s t y e).1)
  stage_goes_on stages.Sections y e = section_goes_on y.0 y.1 (section_given z p s t y e)
  stage_goes_on (stages.Code left end) y e = go (left == 0) e
    where
      behind : (b : Bool) → cond b (refuse_at {A = Next} Other s.place) (next_section z p) s ≡ given y t → is_over y.1 ≡ false
      behind true f = absurd cc
      behind false f = section_goes_on y.0 y.1 (section_given z p s t y f)

      go : (b : Bool) → cond b (behind_code z p end) (next_entry p left end) s ≡ given y t → is_over y.1 ≡ false
      go true f = behind (nat_lt s.place end) f
      go false f = ap (λ (v : Next). is_over v.1) (sym (entry_is p left end s t y f).1)
  stage_goes_on stages.Ended y e = absurd cc
  stage_goes_on stages.Failed y e = absurd cc

  step_goes_on : (y : Next) → step z p s ≡ given y t → is_over y.1 ≡ false
  unfolding step
  step_goes_on y e = stage_goes_on p.stage y e

-- ---- what a call takes

abbrev pub is_end : Frame → Bool
is_end (frames.Version n e r) = false
is_end (frames.Custom c) = false
is_end (frames.Section id r) = false
is_end (frames.CodeStart n r k) = false
is_end (frames.CodeEntry r) = false
is_end (frames.End place) = true

taken : (y : Next) (s t : State) (o : Outcome Next) → o ≡ given y t → GoesForward s o → (text : List ℕ) × Takes s text t
taken y s t o e g = subst (GoesForward s) e g

module _ (p : Parser) (text : List ℕ) (eof : Bool) (n : ℕ) (f : Frame) (q : Parser) where
  next_within : IsNext p text n f q → (n ≤ length text) × (0 < n) × (q.offset ≡ p.offset + n)
  next_within h =
      let settings : Settings = (reads p text).settings in
      let front = taken (_, q.progress) (reads p text) h.after (step settings p.progress (reads p text)) h.read ((lawful-step settings p.progress).forward (reads p text)) in
      let on = step_advances settings p.progress (reads p text) h.after (_, q.progress) h.read in
      (omega (arith, h.consumed, front.1.place, ap length front.1.parts, length-append front.0 h.after.rest), omega (arith, on, h.consumed), h.offset ∙ h.consumed)

  -- a frame's bytes are there; each but the end has one at least
  pub parsed_within : Parses p text eof (Ok (Parsed n f)) q → (n ≤ length text) × (is_end f ≡ false → 0 < n) × (q.offset ≡ p.offset + n)
  parsed_within h = over (is_over p.progress) h
    where
      between : (b : Bool) → one_of b (Ends p eof (Ok (Parsed n f)) q) (Comes p text eof (Ok (Parsed n f)) q) → (n ≤ length text) × (is_end f ≡ false → 0 < n) × (q.offset ≡ p.offset + n)
      between true g = (omega (arith, g.2), (λ e. let k : false ≡ true = sym e ∙ ap is_end g.3 in absurd cc), ap (λ (v : Parser). v.offset) g.4 ∙ omega (arith, g.2))
      between false g = let k = next_within g in (k.0, (λ e. k.1), k.2)

      over : (b : Bool) → one_of b (IsOver p (Ok (Parsed n f)) q)
          (one_of (at_end p text) (Ends p eof (Ok (Parsed n f)) q) (Comes p text eof (Ok (Parsed n f)) q))
          → (n ≤ length text) × (is_end f ≡ false → 0 < n) × (q.offset ≡ p.offset + n)
      over true g = absurd g
      over false g = between (at_end p text) g

  no_end_next : (k : Frame) → IsNext p text n k q → is_end k ≡ false
  no_end_next (frames.Version v e r) h = refl
  no_end_next (frames.Custom c) h = refl
  no_end_next (frames.Section id r) h = refl
  no_end_next (frames.CodeStart v r k) h = refl
  no_end_next (frames.CodeEntry r) h = refl
  no_end_next (frames.End place) h = absurd (no_end (reads p text).settings p.progress q.progress (reads p text) h.after h.read)

  -- behind a frame a parser is over exactly where that is the end
  pub parsed_is_over : Parses p text eof (Ok (Parsed n f)) q → is_over q.progress ≡ is_end f
  parsed_is_over h = over (is_over p.progress) h
    where
      between : (b : Bool) → one_of b (Ends p eof (Ok (Parsed n f)) q) (Comes p text eof (Ok (Parsed n f)) q) → is_over q.progress ≡ is_end f
      between true g = ap (λ (v : Parser). is_over v.progress) g.4 ∙ sym (ap is_end g.3)
      between false g = step_goes_on (reads p text).settings p.progress (reads p text) g.after (shape_of f, q.progress) g.read ∙ sym (no_end_next f g)

      over : (b : Bool) → one_of b (IsOver p (Ok (Parsed n f)) q)
          (one_of (at_end p text) (Ends p eof (Ok (Parsed n f)) q) (Comes p text eof (Ok (Parsed n f)) q)) → is_over q.progress ≡ is_end f
      over true g = absurd g
      over false g = between (at_end p text) g

-- a refused parser stays at its offset
pub refused_stays : (p : Parser) (text : List ℕ) (eof : Bool) (e : ErrorValue) (q : Parser) → Parses p text eof (Err e) q → q.offset ≡ p.offset
refused_stays p text eof e q h = over (is_over p.progress) h
  where
    between : (b : Bool) → one_of b (Ends p eof (Err e) q) (Comes p text eof (Err e) q) → q.offset ≡ p.offset
    between true g = ap (λ (v : Parser). v.offset) g.4
    between false g = ap (λ (v : Parser). v.offset) g.3

    over : (b : Bool) → one_of b (IsOver p (Err e) q) (one_of (at_end p text) (Ends p eof (Err e) q) (Comes p text eof (Err e) q)) → q.offset ≡ p.offset
    over true g = ap (λ (v : Parser). v.offset) g.1
    over false g = between (at_end p text) g
