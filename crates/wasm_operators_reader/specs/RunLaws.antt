-- What a reader reads from its start to its end is an expression, and every expression is read that way.
use Rattle.std.proofs.Common.{◌≡◌, inl, inr, ◌+◌, List, [], ◌∷◌, ◌++◌, length, Some, None, refl, sym, ◌∙◌, ap, subst, append-nil, map, arith}
use Rattle.std.proofs.lemmas.List.{map-append}
use Rattle.wasm_types.specs.decoding.Decoder.{State, Done}
use Rattle.wasm_types.specs.settings.Settings.{Settings}
use Rattle.wasm_types.specs.decoding.ErrorValue.{ErrorValue}
use Rattle.wasm_types.specs.reader.Reading.{IsNotMemory}
use Rattle.wasm_operators_immediates.specs.declared.frames.FrameKind.{FrameKind}
use Rattle.wasm_operators_immediates.specs.declared.frames.FrameKind.TheVariants.{Block}
use Rattle.wasm_operators_enums.specs.Op.{Op}
use Rattle.wasm_operators_encoding.specs.Coded.{Coded, operator}
use Rattle.wasm_operators_encoding.specs.CodedLaws.{some_left}
use Rattle.wasm_operators_encoding.specs.expressions.Code.{Code, walk}
use Rattle.wasm_operators_encoding.specs.expressions.Spelling.{SpelledOperators, SpelledExpression}
use Rattle.wasm_operators_encoding.specs.expressions.Frames.{Closes, after, BytesClose}
use Rattle.wasm_operators_encoding.specs.expressions.FrameLaws.{closes_step, closes_more, closes_at}
use Rattle.wasm_operators_encoding.specs.expressions.SpellingLaws.{spelled_read, read_spelled, bytes_go_on, bytes_refused, bytes_stuck, bytes_expression, bytes_end}
use Rattle.wasm_operators_reader.specs.Standing.{Standing, at_start, IsFinished, Reads, RefusesIn, Refuses, Runs, TakesMemory}
use Rattle.wasm_operators_reader.specs.StandingLaws.{unread}

-- one more at the end
pub run_more : (os : List Op) (s t u : Standing) (o : Op) → Runs s os t → Reads t o u → Runs s (os ++ o ∷ []) u
run_more [] s t u o e h = (u, subst (λ (v : Standing). Reads v o u) e h, refl)
run_more (p ∷ os) s t u o (m, r, more) h = (m, r, run_more os m t u o more h)

-- the same where values stand for the operators
pub run_pushed : {A : Type 0} (view : A → Op) (xs : List A) (x : A) (s t u : Standing) → Runs s (map view xs) t → Reads t (view x) u → Runs s (map view (xs ++ x ∷ [])) u
run_pushed view xs x s t u e h = rw map-append (run_more (map view xs) s t u (view x) e h)

-- what takes memory at the end of a run takes it at its start
pub takes_before : (os : List Op) (s t : Standing) → Runs s os t → TakesMemory t → TakesMemory s
takes_before [] s t e h = subst (λ (u : Standing). TakesMemory u) e h
takes_before (o ∷ os) s t (m, r, more) h = inr (o, m, r)

-- ---- from a run to an expression

-- the operators of a run to the end close the frames, and are spelled by the bytes
run_spelled : (os : List Op) (s t : Standing) → Runs s os t → IsFinished t → Closes s.frames os × SpelledOperators s.bytes.settings os s.bytes.rest
run_spelled [] s t e f =
    let frames : s.frames ≡ [] = ap (λ (u : Standing). u.frames) (sym e) ∙ f.frames in
    (rw frames refl, ap (λ (u : Standing). u.bytes.rest) (sym e) ∙ f.bytes)
run_spelled (o ∷ os) s t (m, r, more) f =
    let rest = run_spelled os m t more f in
    let found = read_spelled s.bytes.settings s.bytes m.bytes o r.read r.canonical in (
      closes_at o os s.frames m.frames r.fits rest.0,
      (found.0, m.bytes.rest, found.2, subst (λ (n : Settings). SpelledOperators n os m.bytes.rest) found.1.settings rest.1, found.1.parts),
    )

pub run_expression : (s : State) (os : List Op) (t : Standing) → Runs (at_start s) os t → IsFinished t → (c : Code) × (walk c ≡ os) × SpelledExpression s.settings c s.rest
run_expression s os t run f =
    let spelled = run_spelled os (at_start s) t run f in
    let (c, rest, i, e, g) = spelled.0 in
    let whole : os ≡ walk c = e ∙ ap (λ (xs : List Op). walk c ++ xs) g ∙ append-nil (walk c) in
    (c, sym whole, record { expression = i; spelled = subst (λ (xs : List Op). SpelledOperators s.settings xs s.rest) whole spelled.1 })

-- ---- from an expression to a run

-- from these bytes and frames it reads these operators, and is at the end
abbrev EndsBy : List Op → List FrameKind → State → Type 0
EndsBy os ks b = (t : Standing) × Runs (record { bytes = b; frames = ks }) os t × IsFinished t

spelled_run : (os : List Op) (ks : List FrameKind) (b : State) → Closes ks os → SpelledOperators b.settings os b.rest → EndsBy os ks b
spelled_run [] [] b c h = (record { bytes = b; frames = [] }, refl, record { frames = refl; bytes = h })
spelled_run [] (k ∷ ks) b c h = absurd (closes_more k ks c)
spelled_run (o ∷ os) [] b c h = absurd cc
spelled_run (o ∷ os) (k ∷ ks) b c (front, back, h, more, e) =
    let step = (closes_step o k ks os).0 c in
    let next : State = record { rest = back; place = b.place + length front; settings = b.settings; start = b.start } in
    let rest = spelled_run os step.0 next step.2 more in
    let m : Standing = record { bytes = next; frames = step.0 } in
    (rest.0, (m, record { canonical = h.canonical; read = spelled_read b.settings b o front back h e; fits = step.1 }, rest.1), rest.2)

pub expression_run : (s : State) (c : Code) → SpelledExpression s.settings c s.rest → (t : Standing) × Runs (at_start s) (walk c) t × IsFinished t
expression_run s c h = spelled_run (walk c) (Block ∷ []) s (c, [], h.expression, sym (append-nil (walk c)), refl) h.spelled

-- ---- where there is none

-- what is left after a run closes the frames that are open then, if all closed those before
run_left : (os : List Op) (s t : Standing) → Runs s os t → BytesClose s.bytes.settings s.frames s.bytes.rest → BytesClose t.bytes.settings t.frames t.bytes.rest
run_left [] s t e h = subst (λ (u : Standing). BytesClose u.bytes.settings u.frames u.bytes.rest) (sym e) h
run_left (o ∷ os) s t (m, r, more) h =
    let found = read_spelled s.bytes.settings s.bytes m.bytes o r.read r.canonical in
    let next = (bytes_go_on s.bytes.settings s.bytes m.bytes o r.read r.canonical s.frames m.frames r.fits).0 h in
    run_left os m t more (subst (λ (n : Settings). BytesClose n m.frames m.bytes.rest) (sym found.1.settings) next)

module _ (s : State) (os : List Op) (t : Standing) (run : Runs (at_start s) os t) (unfinished : IsFinished t → ⊥) (c : Code) (h : SpelledExpression s.settings c s.rest) where
  left : BytesClose t.bytes.settings t.frames t.bytes.rest
  left = run_left os (at_start s) t run ((bytes_expression s.settings s.rest).1 (c, h))

  refused_left : (e : ErrorValue) (ks : List FrameKind) → t.frames ≡ ks → RefusesIn ks t e → IsNotMemory e.kind → BytesClose t.bytes.settings ks t.bytes.rest → ⊥
  refused_left e [] f r n b = unfinished (record { frames = f; bytes = (bytes_end t.bytes.settings t.bytes.rest).0 b })
  refused_left e (k ∷ ks) f (inl fails) n b = bytes_stuck t.bytes.settings t.bytes (unread e t.bytes.settings t.bytes fails n) k ks b
  refused_left e (k ∷ ks) f (inr (u, kind, place)) n b =
      bytes_refused t.bytes.settings t.bytes u.behind u.op u.read u.canonical k ks (subst (λ (js : List FrameKind). after u.op js ≡ None) f u.unfit) b

  -- where there is a refusal before the end, there is no expression
  pub refused_run : (e : ErrorValue) → Refuses t e → IsNotMemory e.kind → ⊥
  refused_run e r n = refused_left e t.frames refl r n left

  module _ (none : t.bytes.rest ≡ []) where
    unread_at_end : (d : Coded) (u : State) → operator t.bytes.settings t.bytes ≡ Done d u → ⊥
    unread_at_end d u read = absurd (omega (arith, some_left t.bytes.settings t.bytes u d read, ap length none))

    ended_left : (ks : List FrameKind) → t.frames ≡ ks → BytesClose t.bytes.settings ks t.bytes.rest → ⊥
    ended_left [] f b = unfinished (record { frames = f; bytes = none })
    ended_left (k ∷ ks) f b = bytes_stuck t.bytes.settings t.bytes unread_at_end k ks b

    -- and so does an end of the bytes before
    pub ended_run : ⊥
    ended_run = ended_left t.frames refl left
