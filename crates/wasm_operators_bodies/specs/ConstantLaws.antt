-- What is read to the first `end`, where it closes all frames, is a constant expression, and every one is read so. And the equality of
-- constant expressions is an equivalence.
use Rattle.std.specs.Cmp.{IsPartialEquivalence, IsEquivalence}
use Rattle.std.specs.Cmp.Rules.{comparing}
use Rattle.std.proofs.Common.{◌≡◌, inl, inr, ℕ, ◌+◌, Bool, true, false, List, [], ◌∷◌, ◌++◌, length, refl, sym, ◌∙◌, ap, subst, append-nil, append_assoc, length-append, is_some, arith, rules}
use Rattle.wasm_types.specs.settings.Settings.{Settings}
use Rattle.wasm_types.specs.decoding.Decoder.{State, Takes}
use Rattle.wasm_types.specs.decoding.Laws.{takes_none, Takes-then}
use Rattle.wasm_types.specs.decoding.ExactLaws.{same_state}
use Rattle.wasm_types.specs.decoding.ErrorValue.{ErrorValue}
use Rattle.wasm_types.specs.reader.Reading.{IsNotMemory}
use Rattle.wasm_operators_immediates.specs.declared.frames.FrameKind.{FrameKind}
use Rattle.wasm_operators_immediates.specs.declared.frames.FrameKind.TheVariants.{Block}
use Rattle.wasm_operators_enums.specs.Op.{Op}
use Rattle.wasm_operators_encoding.specs.expressions.Code.{walk}
use Rattle.wasm_operators_encoding.specs.expressions.Spelling.{SpelledOperators}
use Rattle.wasm_operators_encoding.specs.expressions.Frames.{Closes}
use Rattle.wasm_operators_encoding.specs.expressions.FrameLaws.{closes_step, closes_more, closes_at}
use Rattle.wasm_operators_encoding.specs.expressions.SpellingLaws.{spelled_read, read_spelled}
use Rattle.wasm_operators_encoding.specs.expressions.Stack.{innermost}
use Rattle.wasm_operators_reader.specs.Standing.{Standing, at_start, Reads, Runs}
use Rattle.wasm_operators_reader.specs.RunLaws.{run_more}
use Rattle.wasm_operators_reader.specs.MeetLaws.{meets_end, meets_refusal}
use Rattle.wasm_operators_encoding.specs.Ends.{is_end, HasNoEnd, EndsOnce, IsConstantText}
use Rattle.wasm_operators_bodies.specs.Constants.{PassesTo, StopsConstant, same_bytes}

-- ---- from a run to bytes

-- the bytes that a run takes spell its operators
pub run_takes : (os : List Op) (s t : Standing) → Runs s os t → (text : List ℕ) × Takes s.bytes text t.bytes × SpelledOperators s.bytes.settings os text
run_takes [] s t e = ([], subst (λ (u : Standing). Takes s.bytes [] u.bytes) (sym e) (takes_none s.bytes), refl)
run_takes (o ∷ os) s t (m, r, more) =
    let found = read_spelled s.bytes.settings s.bytes m.bytes o r.read r.canonical in
    let rest = run_takes os m t more in
    (found.0 ++ rest.0, Takes-then s.bytes m.bytes t.bytes found.0 rest.0 found.1 rest.1, (found.0, rest.0, found.2, subst (λ (n : Settings). SpelledOperators n os rest.0) found.1.settings rest.2, refl))

-- one that leaves no frame open closes those before
pub run_closes : (os : List Op) (s t : Standing) → Runs s os t → t.frames ≡ [] → Closes s.frames os
run_closes [] s t e f =
    let frames : s.frames ≡ [] = ap (λ (u : Standing). u.frames) (sym e) ∙ f in
    rw frames refl
run_closes (o ∷ os) s t (m, r, more) f = closes_at o os s.frames m.frames r.fits (run_closes os m t more f)

-- ---- from bytes to a run

-- bytes at the front that spell operators which close the frames are read so, whatever follows
front_run : (os : List Op) (ks : List FrameKind) (b u : State) (text : List ℕ) → Closes ks os → SpelledOperators b.settings os text → Takes b text u
    → Runs (record { bytes = b; frames = ks }) os (record { bytes = u; frames = [] })
front_run [] [] b u text c h p =
    let parts : b.rest ≡ u.rest = p.parts ∙ ap (λ (z : List ℕ). z ++ u.rest) h in
    let same : u ≡ b = same_state u b (sym parts) (omega (arith, p.place, ap length h)) p.settings p.start in
    ap (λ (v : State). record { bytes = v; frames = [] }) same
front_run [] (k ∷ ks) b u text c h p = absurd (closes_more k ks c)
front_run (o ∷ os) [] b u text c h p = absurd cc
front_run (o ∷ os) (k ∷ ks) b u text c (front, back, h, more, e) p =
    let step = (closes_step o k ks os).0 c in
    let next : State = record { rest = back ++ u.rest; place = b.place + length front; settings = b.settings; start = b.start } in
    let parts : b.rest ≡ front ++ (back ++ u.rest) = p.parts ∙ ap (λ (z : List ℕ). z ++ u.rest) e ∙ append_assoc front back u.rest in
    let taken : Takes next back u = record { parts = refl; place = omega (arith, p.place, ap length e, length-append front back); settings = p.settings; start = p.start } in
    let m : Standing = record { bytes = next; frames = step.0 } in
    (m, record { canonical = h.canonical; read = spelled_read b.settings b o front (back ++ u.rest) h parts; fits = step.1 }, front_run os step.0 next u back step.2 more taken)

-- ---- sound

module _ (s : State) (t : Standing) (run : PassesTo (at_start s) true t) (closed : t.frames ≡ []) where
  -- all operators
  abbrev all : List Op
  all = run.0 ++ run.2 ∷ []

  whole_run : Runs (at_start s) all t
  whole_run = run_more run.0 (at_start s) run.1 t run.2 run.3 run.5

  -- a constant expression was read, and no more
  pub constant_read : (text : List ℕ) × IsConstantText s.settings text × Takes s text t.bytes
  constant_read =
      let taken = run_takes all (at_start s) t whole_run in
      let (c, rest, i, e, g) = run_closes all (at_start s) t whole_run closed in
      let same : all ≡ walk c = e ∙ ap (λ (xs : List Op). walk c ++ xs) g ∙ append-nil (walk c) in
      let once : EndsOnce all = record { front = run.0; last = run.2; whole = refl; none = run.4; ended = run.6 } in
      (taken.0, record { code = c; spelled = record { expression = i; spelled = subst (λ (xs : List Op). SpelledOperators s.settings xs taken.0) same taken.2 }; once = subst EndsOnce same once }, taken.1)

-- ---- complete

no_end_at : (front more : List Op) (o : Op) → HasNoEnd ((front ++ o ∷ []) ++ more) → is_end o ≡ false
no_end_at [] more o h = h.0
no_end_at (p ∷ front) more o h = no_end_at front more o h.1

same_first : (o p : Op) (os ps : List Op) → o ∷ os ≡ p ∷ ps → o ≡ p
same_first o p os ps e = cc

same_rest : (o p : Op) (os ps : List Op) → o ∷ os ≡ p ∷ ps → os ≡ ps
same_rest o p os ps e = cc

not_empty : (o : Op) (os : List Op) → [] ≡ o ∷ os → ⊥
not_empty o os e = absurd cc

-- of operators with one last, those before the last have no end
before_last : (front os more : List Op) (z o p : Op) → front ++ z ∷ [] ≡ os ++ o ∷ p ∷ more → HasNoEnd front → is_end o ≡ false
before_last [] [] more z o p e h = absurd (not_empty p more (same_rest z o [] (p ∷ more) e))
before_last [] (x ∷ []) more z o p e h = absurd (not_empty o (p ∷ more) (same_rest z x [] (o ∷ p ∷ more) e))
before_last [] (x ∷ y ∷ os) more z o p e h = absurd (not_empty y (os ++ o ∷ p ∷ more) (same_rest z x [] (y ∷ os ++ o ∷ p ∷ more) e))
before_last (f ∷ front) [] more z o p e h = subst (λ (q : Op). is_end q ≡ false) (same_first f o (front ++ z ∷ []) (p ∷ more) e) h.0
before_last (f ∷ front) (x ∷ os) more z o p e h = before_last front os more z o p (same_rest f x (front ++ z ∷ []) (os ++ o ∷ p ∷ more) e) h.1

module _ (s : State) (e : ErrorValue) (n : IsNotMemory e.kind) (text : List ℕ) (u : State) (taken : Takes s text u) (h : IsConstantText s.settings text) where
  abbrev behind : Standing
  behind = record { bytes = u; frames = [] }

  full : Runs (at_start s) (walk h.code) behind
  full = front_run (walk h.code) (Block ∷ []) s u text (h.code, [], h.spelled.expression, sym (append-nil (walk h.code)), refl) h.spelled.spelled taken

  end_denies : (more os : List Op) (t : Standing) (o : Op) → is_end o ≡ true → (t.frames ≡ [] → ⊥) → walk h.code ≡ os ++ o ∷ more → Runs t more behind → ⊥
  end_denies [] os t o ended open_still e run = open_still (ap (λ (v : Standing). v.frames) (sym run))
  end_denies (p ∷ more) os t o ended open_still e run =
      let no = before_last h.once.front os more h.once.last o p (sym h.once.whole ∙ e) h.once.none in
      absurd cc

  -- where reading stops on the way, no front of the bytes is a constant expression
  pub constant_denied : StopsConstant (at_start s) e → ⊥
  constant_denied (inl (t, (os, run, none), refused, memory)) =
      let met = meets_refusal e os (walk h.code) (at_start s) t behind run refused n full in
      let same : os ≡ (h.once.front ++ h.once.last ∷ []) ++ met.0 = met.1 ∙ ap (λ (xs : List Op). xs ++ met.0) h.once.whole in
      let no = no_end_at h.once.front met.0 h.once.last (subst HasNoEnd same none) in
      let yes = h.once.ended in
      absurd cc
  constant_denied (inr (t, (os, m, o, run, none, read, ended), open_still, kind, place)) =
      let met = meets_end os (walk h.code) (at_start s) m behind t o run read full refl in
      end_denies met.0 os t o ended open_still met.1 met.2

-- ---- one operator more

no_end_more : (os : List Op) (o : Op) → HasNoEnd os → is_end o ≡ false → HasNoEnd (os ++ o ∷ [])
no_end_more [] o h e = (e, tt)
no_end_more (p ∷ os) o (f, h) e = (f, no_end_more os o h e)

passes_by : (s t u : Standing) (o : Op) (b : Bool) → PassesTo s false t → Reads t o u → is_end o ≡ b → PassesTo s b u
passes_by s t u o true (os, run, none) r e = (os, t, o, run, none, r, e)
passes_by s t u o false (os, run, none) r e = (os ++ o ∷ [], run_more os s t u o run r, no_end_more os o none e)

pub passes_more : (s t u : Standing) (b : Bool) → PassesTo s false t → (o : Op) × Reads t o u × (is_end o ≡ b) → PassesTo s b u
passes_more s t u b h (o, r, e) = passes_by s t u o b h r e

pub passes_none : (s : Standing) → PassesTo s false s
passes_none s = ([], refl, tt)

-- what was read before no `end` came
pub still_none : (s t : Standing) (b : Bool) → b ≡ false → PassesTo s b t → PassesTo s false t
still_none s t b e h = subst (λ (a : Bool). PassesTo s a t) e h

pub ended_once : (s t : Standing) (b : Bool) → b ≡ true → PassesTo s b t → PassesTo s true t
ended_once s t b e h = subst (λ (a : Bool). PassesTo s a t) e h

-- without an innermost frame none is open
pub none_open : (ks : List FrameKind) → false ≡ is_some (innermost ks) → ks ≡ []
none_open [] e = refl
none_open (k ∷ ks) e = absurd cc

-- ---- equality

pub same_bytes_equal : IsPartialEquivalence same_bytes × IsEquivalence same_bytes
same_bytes_equal = (search (comparing, rules), search (comparing, rules))
