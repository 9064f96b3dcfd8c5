-- Calls of a parser are a run, however the text is cut into pieces.
use Rattle.std.proofs.Common.{◌≡◌, ◌⊎◌, inl, inr, ℕ, List, [], ◌∷◌, ◌++◌, length, drop, refl, sym, ap, ◌∙◌, subst, append_assoc, arith, cond, Bool, true, false, Ok}
use Rattle.std.specs.Prelude.{◌==◌}
use Rattle.std.proofs.lemmas.Bool.{eqb-true}
use Rattle.std.proofs.lemmas.List.{drop_at}
use Rattle.wasm_types.specs.settings.Settings.{Settings}
use Rattle.wasm_types.specs.decoding.Decoder.{State, extended, Outcome, Done, GoesForward, GoesOn, Takes}
use Rattle.wasm_types.specs.decoding.ExactLaws.{same_state}
use Rattle.wasm_sections_parser.specs.declared.frame.Frame.{Frame}
use Rattle.wasm_sections_parser.specs.declared.frame.Frame.TheVariants as frames
use Rattle.wasm_sections_parser.specs.Parsers.{Parser, staged}
use Rattle.wasm_sections_parser.specs.declared.parser.Chunk.TheVariants.{Parsed}
use Rattle.wasm_sections_parser.specs.declared.progress.Stage.TheVariants as stages
use Rattle.wasm_sections_parser.specs.declared.progress.Progress.{Progress}
use Rattle.wasm_sections_parser.specs.Steps.{Shape, counts_agree, is_over, Next, step}
use Rattle.wasm_sections_parser.specs.StepLaws.{lawful-step}
use Rattle.wasm_sections_parser.specs.Parsing.{shape_of, reads, between, at_end, IsNext, Ends, Comes, one_of}
use Rattle.wasm_sections_parser.specs.runs.calls.Runs.{Run}
use Rattle.wasm_sections_parser.specs.runs.calls.Calls.{shapes_of, stands, Called, Calls}
use Rattle.wasm_sections_parser.specs.runs.calls.PlainLaws.{restart, restarted, plain-step}

abbrev given : Next → State → Outcome Next
given y t = Done y t

no_bytes : (xs : List ℕ) → length xs ≡ 0 → xs ≡ []
no_bytes [] e = refl
no_bytes (x ∷ xs) e = absurd (omega arith)

-- the end was given: no byte is left, and the counts agree
pub record AtEnd (p : Parser) (text : List ℕ) (n : ℕ) (f : Frame) (q : Parser) : Type 0 where
  pub none : text ≡ []
  pub here : between p.progress.stage p.offset ≡ true
  pub agree : counts_agree p.progress ≡ true
  pub length : n ≡ 0
  pub frame : f ≡ frames.End p.offset
  pub next : q ≡ staged p stages.Ended

-- a frame was given: that is a step
pub record Stepped (p : Parser) (text : List ℕ) (n : ℕ) (f : Frame) (q : Parser) : Type 0 where
  pub step : step p.settings p.progress (reads p text) ≡ given (shape_of f, q.progress) (stands q (drop n text) p.offset)
  pub settings : q.settings ≡ p.settings

taken : (y : Next) (s t : State) (o : Outcome Next) → o ≡ given y t → GoesForward s o → (text : List ℕ) × Takes s text t
taken y s t o e g = subst (GoesForward s) e g

steadily : (y : Next) (t : State) (more : List ℕ) (o after : Outcome Next) → o ≡ given y t → GoesOn o more after → after ≡ given y (extended t more)
steadily y t more o after e g = subst (λ (v : Outcome Next). GoesOn v more after) e g

module _ (p : Parser) (text : List ℕ) (n : ℕ) (f : Frame) (q : Parser) (c : Called p text (Ok (Parsed n f)) q) where
  stepped : IsNext p c.piece n f q → Stepped p text n f q
  stepped h =
      let lawful = lawful-step p.settings p.progress in
      let after : State = h.after in
      let front : (front : List ℕ) × Takes (reads p c.piece) front after =
      taken (shape_of f, q.progress) (reads p c.piece) after (step p.settings p.progress (reads p c.piece)) h.read
      (lawful.forward (reads p c.piece)) in
      let steady : step p.settings p.progress (extended (reads p c.piece) c.later) ≡ given (shape_of f, q.progress)
      (extended after c.later) = steadily (shape_of f, q.progress) after c.later
      (step p.settings p.progress (reads p c.piece))
      (step p.settings p.progress (extended (reads p c.piece) c.later)) h.read
      (lawful.steady (reads p c.piece) c.later) in
      let count : length front.0 ≡ n = omega (arith, front.1.place, h.consumed) in
      let left : text ≡ front.0 ++ (after.rest ++ c.later) = c.whole ∙ ap (λ (x : List ℕ). x ++ c.later) front.1.parts ∙ append_assoc front.0 after.rest c.later in
      let rest : after.rest ++ c.later ≡ drop n text = sym (drop_at front.0 (after.rest ++ c.later) n count) ∙ ap (drop n) (sym left) in
      let settings : after.settings ≡ q.settings = front.1.settings ∙ sym h.settings in
      let state : extended after c.later ≡ stands q (drop n text) p.offset = same_state (extended after c.later) (stands q (drop n text) p.offset) rest (sym h.offset) settings front.1.start in
      record { step = ap (λ (x : List ℕ). step p.settings p.progress (reads p x)) c.whole ∙ steady ∙ ap (given (shape_of f, q.progress)) state; settings = h.settings }

  -- a frame is the end, where no byte is left, or a step
  pub call_cases : (is_over p.progress ≡ false) × (AtEnd p text n f q ⊎ Stepped p text n f q)
  call_cases = over (is_over p.progress) refl c.parses
    where
      bytes : (k : Bool) → (length c.piece == 0) ≡ k → (b : Bool) → cond k (between p.progress.stage p.offset) false ≡ b
          → one_of b (Ends p c.eof (Ok (Parsed n f)) q) (Comes p c.piece c.eof (Ok (Parsed n f)) q)
          → AtEnd p text n f q ⊎ Stepped p text n f q
      bytes k e false h g = inr (stepped g)
      bytes true e true h g = inl (record {
        none = c.whole ∙ ap (λ (x : List ℕ). x ++ c.later) (no_bytes c.piece (eqb-true _ _ e)) ∙ c.told g.0;
        here = h;
        agree = g.1;
        length = g.2;
        frame = g.3;
        next = g.4;
      })
      bytes false e true h g = absurd cc

      over : (k : Bool) → is_over p.progress ≡ k
          → one_of k ⊥ (one_of (at_end p c.piece) (Ends p c.eof (Ok (Parsed n f)) q)
          (Comes p c.piece c.eof (Ok (Parsed n f)) q))
          → (is_over p.progress ≡ false) × (AtEnd p text n f q ⊎ Stepped p text n f q)
      over true e g = absurd g
      over false e g = (e, bytes (length c.piece == 0) refl (at_end p c.piece) refl g)

-- ---- calls are a run

-- a run does not depend on where the reader's data began
run_restarts : (z : Settings) (xs : List Shape) (p q : Progress) (s t : State) (n : ℕ) → Run z p s xs q t → Run z p (restart n s) xs q (restart n t)
run_restarts z [] p q s t n h = (h.0, ap (restart n) h.1)
run_restarts z (x ∷ xs) p q s t n h = (h.0, restart n h.1, plain-step z p n s ∙ ap (restarted n) h.2, run_restarts z xs h.0 q h.1 t n h.3)

-- behind calls the end was given, or the frames are those of a run
pub calls_run : (fs : List Frame) (p q : Parser) (text rest : List ℕ) → Calls p text fs q rest → is_over q.progress ≡ false
    → Run p.settings p.progress (reads p text) (shapes_of fs) q.progress (stands q rest p.offset) × (q.settings ≡ p.settings)
calls_run [] p q text rest h going = (
  (
    ap
        (λ (v : Parser). v.progress) h.0,
    λ i. record {
      rest = h.1 i;
      place = (h.0 i).offset;
      settings = (h.0 i).settings;
      start =
          p.offset;
    },
  ),
  ap (λ (v : Parser). v.settings) (sym h.0),
)
calls_run (f ∷ fs) p q text rest h going = go (call_cases p text h.0 f h.1 h.2).1 (calls_run fs h.1 q (drop h.0 text) rest h.3 going)
  where
    ended : (gs : List Frame) (r : Parser) (left : List ℕ) → r ≡ staged p stages.Ended → Calls r left gs q rest → ⊥
    ended [] r left e k = let over : false ≡ true = sym going ∙ ap (λ (v : Parser). is_over v.progress) (sym k.0 ∙ e) in cc
    ended (g ∷ gs) r left e k = let over : false ≡ true = sym (call_cases r left k.0 g k.1 k.2).0 ∙ ap (λ (v : Parser). is_over v.progress) e in cc

    go : AtEnd p text h.0 f h.1 ⊎ Stepped p text h.0 f h.1
        → Run h.1.settings h.1.progress (reads h.1 (drop h.0 text)) (shapes_of fs) q.progress (stands q rest h.1.offset)
        × (q.settings ≡ h.1.settings)
        → Run p.settings p.progress (reads p text) (shapes_of (f ∷ fs)) q.progress (stands q rest p.offset) × (q.settings ≡ p.settings)
    go (inl e) r = absurd (ended fs h.1 (drop h.0 text) e.next h.3)
    go (inr e) r =
        let same : h.1.settings ≡ p.settings = e.settings in (
          (
            h.1.progress,
            stands h.1 (drop h.0 text) p.offset,
            e.step,
            subst
                (λ (z : Settings). Run z h.1.progress (stands h.1 (drop h.0 text) p.offset) (shapes_of fs) q.progress
                (stands q rest p.offset)) same
                (run_restarts h.1.settings (shapes_of fs) h.1.progress q.progress (reads h.1 (drop h.0 text))
                (stands q rest h.1.offset) p.offset r.0),
          ),
          r.1 ∙ same,
        )
