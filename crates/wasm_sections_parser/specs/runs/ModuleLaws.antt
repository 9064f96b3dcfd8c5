-- The frames of a run from the start of a module are those that its bytes spell.
use Rattle.std.proofs.Common.{◌≡◌, ◌⊎◌, inl, inr, ℕ, ◌+◌, List, [], ◌∷◌, ◌++◌, length, refl, sym, ap, ◌∙◌, subst, arith, true, false, Ok}
use Rattle.std.specs.Prelude.{drop}
use Rattle.std.proofs.lemmas.List.{append-nil}
use Rattle.wasm_types.specs.settings.Settings.{Settings}
use Rattle.wasm_types.specs.decoding.Decoder.{State, Outcome, Done, Many, Takes}
use Rattle.wasm_types.specs.decoding.Laws.{Takes-then}
use Rattle.wasm_sections_items.specs.frames.Outer as outer
use Rattle.wasm_sections_items.specs.frames.Outer.{Header, Part, SpelledPart, Outer, SpelledOuter}
use Rattle.wasm_sections_items.specs.frames.PartLaws.{decides-header}
use Rattle.wasm_sections_parser.specs.declared.frame.Frame.{Frame}
use Rattle.wasm_sections_parser.specs.declared.frame.Frame.TheVariants as frames
use Rattle.wasm_sections_parser.specs.Parsers.{Parser}
use Rattle.wasm_sections_parser.specs.declared.parser.Chunk.TheVariants.{Parsed}
use Rattle.wasm_sections_parser.specs.declared.progress.Stage.{Stage}
use Rattle.wasm_sections_parser.specs.declared.progress.Stage.TheVariants as stages
use Rattle.wasm_sections_parser.specs.declared.progress.Progress.{Progress}
use Rattle.wasm_sections_parser.specs.Steps.{Shape, version, custom, section, code, begun, counts_agree, is_over, Next, next_header, step}
use Rattle.wasm_sections_parser.specs.Parsing.{between, reads}
use Rattle.wasm_sections_parser.specs.runs.calls.Runs.{fresh, Run, entries, Framed, AreFramed, Frames, AreCounted, Noted, AreNoted, IsBetween, IsOpen, IsCounted}
use Rattle.wasm_sections_parser.specs.runs.calls.Calls.{shapes_of, stands, Called, Calls}
use Rattle.wasm_sections_parser.specs.runs.Modules.{IsModule, Begun, IsFront}
use Rattle.wasm_sections_parser.specs.runs.steps.StepCases.{header_given, no_end}
use Rattle.wasm_sections_parser.specs.runs.RunLaws.{run_seen}
use Rattle.wasm_sections_parser.specs.runs.steps.CompareLaws.{read_noted}
use Rattle.wasm_sections_parser.specs.runs.steps.NoteLaws.{agreed}
use Rattle.wasm_sections_parser.specs.runs.calls.CallLaws.{AtEnd, Stepped, call_cases, calls_run}

abbrev given : Next → State → Outcome Next
given y t = Done y t

-- ---- frames and the bytes of a module

framed_spelled : (z : Settings) (x : Part) (text : List ℕ) (xs : List Shape) → Framed z x text xs → SpelledPart z x text
framed_spelled z (outer.custom n c) text xs h = h.0
framed_spelled z (outer.section id c) text xs h = h.0
framed_spelled z (outer.code es) text xs h = h.0

are_framed_spelled : (z : Settings) (ps : List Part) (text : List ℕ) (xs : List Shape) → AreFramed z ps text xs → Many (SpelledPart z) (length ps) ps text
are_framed_spelled z [] text xs h = h.0
are_framed_spelled z (x ∷ ps) text xs h = (h.0, h.1, framed_spelled z x h.0 h.2 h.4, are_framed_spelled z ps h.1 h.3 h.5, h.6)

pub frames_spelled : (z : Settings) (m : Outer) (text : List ℕ) (xs : List Shape) → Frames z m text xs → SpelledOuter z m text
frames_spelled z m text xs h = record { header_text = h.header_text; parts_text = h.parts_text; headed = h.headed; each = are_framed_spelled z m.parts h.parts_text h.shapes h.framed; whole = h.whole }

spelled_framed : (z : Settings) (x : Part) (text : List ℕ) → SpelledPart z x text → (xs : List Shape) × Framed z x text xs
spelled_framed z (outer.custom n c) text h = (custom n c ∷ [], (h, refl))
spelled_framed z (outer.section id c) text h = (section id c ∷ [], (h, refl))
spelled_framed z (outer.code es) text h = (code (length es) (length (h.2.content)) ∷ entries es, (h, refl))

are_spelled_framed : (z : Settings) (ps : List Part) (text : List ℕ) → Many (SpelledPart z) (length ps) ps text → (xs : List Shape) × AreFramed z ps text xs
are_spelled_framed z [] text h = ([], (h, refl))
are_spelled_framed z (x ∷ ps) text h =
    let front = spelled_framed z x h.0 h.2 in
    let back = are_spelled_framed z ps h.1 h.3 in
    (front.0 ++ back.0, (h.0, h.1, front.0, back.0, front.1, back.1, h.4, refl))

pub spelled_frames : (z : Settings) (m : Outer) (text : List ℕ) → SpelledOuter z m text → (xs : List Shape) × Frames z m text xs
spelled_frames z m text h =
    let shapes = are_spelled_framed z m.parts h.parts_text h.each in
    (version m.header ∷ shapes.0, record { header_text = h.header_text; parts_text = h.parts_text; shapes = shapes.0; headed = h.headed; framed = shapes.1; whole = h.whole; frames = refl })

-- ---- the header

header_step : (z : Settings) (s t : State) (y : Next) → step z fresh s ≡ given y t → next_header fresh s ≡ given y t
unfolding step
header_step z s t y e = e

pub run_front : (z : Settings) (xs : List Shape) (s : State) (q : Progress) (t : State) → Run z fresh s xs q t → IsFront z s xs q t
run_front z [] s q t h = inl (refl, h.0, h.1)
run_front z (x ∷ xs) s q t h =
    let g = header_given fresh s h.1 (x, h.0) (header_step z s h.1 (x, h.0) h.2) in
    let text = decides-header.sound s h.1 g.0 g.2 in
    let run : Run z (begun fresh) h.1 xs q t = subst (λ (p : Progress). Run z p h.1 xs q t) (sym (ap (λ (y : Next). y.1) g.1)) h.3 in
    inr (record {
      header = g.0;
      text = text.0;
      others = xs;
      there = h.1;
      headed = text.2;
      taken = text.1;
      frames = ap (λ (y : Next). y.0 ∷ xs) (sym g.1);
      seen = run_seen z xs (begun fresh) h.1 q t run refl;
    })

-- ---- a run to the end

-- counts that were noted can be read
pub noted_counted : (p r : Progress) (ps : List Part) → AreNoted p ps r → AreCounted ps
noted_counted p r [] h = tt
noted_counted p r (x ∷ ps) h = (one p h.0 x h.1, noted_counted h.0 r ps h.2)
  where
    one : (v w : Progress) (y : Part) → Noted v y w → IsCounted y
    one v w (outer.custom n c) k = tt
    one v w (outer.section id c) k = λ e. (k.0, k.1 e)
    one v w (outer.code es) k = tt

between_only : (z : Settings) (s : State) (xs : List Shape) (q : Progress) (t : State) (h : Begun z s xs q t) → between q.stage t.place ≡ true → IsBetween h.seen.mid h.seen.back h.seen.last_frames q t
between_only z s xs q t h b = go h.seen.tail
  where
    go : IsBetween h.seen.mid h.seen.back h.seen.last_frames q t ⊎ IsOpen h.seen.mid h.seen.back h.seen.last_frames q t → IsBetween h.seen.mid h.seen.back h.seen.last_frames q t
    go (inl k) = k
    go (inr k) = let e : true ≡ false = sym b ∙ k.going in absurd cc

pub front_module : (z : Settings) (s : State) (xs : List Shape) (q : Progress) (t : State) → Begun z s xs q t → t.rest ≡ []
    → between q.stage t.place ≡ true → counts_agree q ≡ true → IsModule z s.rest xs
front_module z s xs q t h end b counts =
    let k = between_only z s xs q t h b in
    let noted = read_noted h.seen.parts (begun fresh) h.seen.mid h.seen.noted in
    let m : Outer = record { header = h.header; parts = h.seen.parts } in
    let back : h.there.rest ≡ h.seen.front = h.seen.taken.parts ∙ ap (λ (x : List ℕ). (h.seen.front ++ h.seen.back) ++ x) end
    ∙ append-nil (h.seen.front ++ h.seen.back) ∙ ap (λ (x : List ℕ). h.seen.front ++ x) k.none ∙ append-nil h.seen.front in
    let shapes : h.others ≡ h.seen.whole_frames = h.seen.frames ∙ ap (λ (x : List Shape). h.seen.whole_frames ++ x) k.frames ∙ append-nil h.seen.whole_frames in
    let frames : Frames z m s.rest xs = record {
      header_text = h.text;
      parts_text = h.seen.front;
      shapes = h.seen.whole_frames;
      headed = h.headed;
      framed = h.seen.framed;
      whole = h.taken.parts ∙ ap (λ (x : List ℕ). h.text ++ x) back;
      frames = h.frames ∙ ap (λ (x : List Shape). version h.header ∷ x) shapes;
    } in
    record {
      outer = m;
      spelled = frames_spelled z m s.rest xs frames;
      frames = frames;
      ordered = h.seen.ordered;
      counted = noted_counted (begun fresh) h.seen.mid h.seen.parts noted;
      counts = agreed h.seen.parts (begun fresh) h.seen.mid refl noted h.seen.ordered (ap counts_agree (sym k.noted) ∙ counts);
    }

-- ---- calls

pub calls_front : (fs : List Frame) (p q : Parser) (text rest : List ℕ) → p.progress ≡ fresh → Calls p text fs q rest
    → is_over q.progress ≡ false → IsFront p.settings (reads p text) (shapes_of fs) q.progress (stands q rest p.offset)
calls_front fs p q text rest e h going =
    run_front p.settings (shapes_of fs) (reads p text) q.progress (stands q rest p.offset)
    (subst (λ (v : Progress). Run p.settings v (reads p text) (shapes_of fs) q.progress (stands q rest p.offset)) e (calls_run fs p q text rest h going).0)

begun_takes : (z : Settings) (s : State) (xs : List Shape) (q : Progress) (t : State) → Begun z s xs q t → (text : List ℕ) × Takes s text t
begun_takes z s xs q t h = (h.text ++ (h.seen.front ++ h.seen.back), Takes-then s h.there t h.text (h.seen.front ++ h.seen.back) h.taken h.seen.taken)

no_stage : (g : Stage) (o : ℕ) → g ≡ stages.Header → between g o ≡ true → ⊥
no_stage g o f b = let v : false ≡ true = ap (λ (w : Stage). between w o) (sym f) ∙ b in cc

end_place : (a b : ℕ) → frames.End a ≡ frames.End b → a ≡ b
end_place a b e = cc

-- the end is given only behind a whole module
abbrev Whole : Parser → List ℕ → List Frame → ℕ → List ℕ → Type 0
Whole p text fs place rest = IsModule p.settings text (shapes_of fs) × (rest ≡ []) × (place ≡ p.offset + length text)

module _ (fs : List Frame) (p q r : Parser) (text rest : List ℕ) (n place : ℕ) where
  at_the_end : AtEnd q rest n (frames.End place) r → IsFront p.settings (reads p text) (shapes_of fs) q.progress (stands q rest p.offset) → Whole p text fs place rest
  at_the_end k (inl none) = absurd (no_stage q.progress.stage q.offset (ap (λ (v : Progress). v.stage) (sym none.1)) k.here)
  at_the_end k (inr b) =
      let taken = begun_takes p.settings (reads p text) (shapes_of fs) q.progress (stands q rest p.offset) b in
      let long : length text ≡ length taken.0 = ap length taken.1.parts ∙ ap (λ (x : List ℕ). length (taken.0 ++ x)) k.none ∙ ap length (append-nil taken.0) in (
        front_module p.settings (reads p text) (shapes_of fs) q.progress
            (stands q rest p.offset) b k.none k.here k.agree,
        k.none,
        end_place place q.offset k.frame
            ∙ omega (arith, taken.1.place, long),
      )

  pub end_given : p.progress ≡ fresh → Calls p text fs q rest → Called q rest (Ok (Parsed n (frames.End place))) r → Whole p text fs place rest
  end_given e h c = go (call_cases q rest n (frames.End place) r c).0 (call_cases q rest n (frames.End place) r c).1
    where
      go : is_over q.progress ≡ false → AtEnd q rest n (frames.End place) r ⊎ Stepped q rest n (frames.End place) r → Whole p text fs place rest
      go going (inl k) = at_the_end k (calls_front fs p q text rest e h going)
      go going (inr k) = absurd (no_end q.settings q.progress r.progress (reads q rest) (stands r (drop n rest) q.offset) k.step)
