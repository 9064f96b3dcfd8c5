-- Where reading of a constant expression stops, its decoder refuses just so.
use Rattle.std.proofs.Common.{◌≡◌, inl, inr, ℕ, ◌+◌, ◌-◌, Bool, true, false, List, [], ◌∷◌, Option, Some, None, refl, sym, ◌∙◌, ap, subst, arith}
use Rattle.wasm_types.specs.settings.Settings.{Settings}
use Rattle.wasm_types.specs.decoding.declared.Refusal.TheVariants as refusals
use Rattle.wasm_types.specs.decoding.Decoder.{State, Outcome, Done, Fault, Decoder, continue_with, Takes, Reaches}
use Rattle.wasm_types.specs.decoding.declared.error.ErrorKind.{ErrorKind}
use Rattle.wasm_types.specs.decoding.declared.error.ErrorKind.TheVariants.{EndOfData, MissingFeature, OutOfMemory, Failed, Other}
use Rattle.wasm_types.specs.decoding.ErrorValue.{ErrorValue}
use Rattle.wasm_types.specs.reader.Reading.{FailsAt, Fails}
use Rattle.wasm_types.specs.reader.Parts.{part_at}
use Rattle.wasm_operators_immediates.specs.declared.frames.FrameKind.{FrameKind}
use Rattle.wasm_operators_immediates.specs.declared.frames.FrameKind.TheVariants.{Block}
use Rattle.wasm_operators_enums.specs.Op.{Op}
use Rattle.wasm_operators_enums.specs.declared.role.Role.{Role}
use Rattle.wasm_operators_encoding.specs.Coded.{Coded, operator}
use Rattle.wasm_operators_encoding.specs.Operators.{coded_of}
use Rattle.wasm_operators_encoding.specs.expressions.Frames.{after}
use Rattle.wasm_operators_encoding.specs.expressions.SpellingLaws.{read_spelled}
use Rattle.wasm_operators_encoding.specs.codes.OpcodeRoles.{role_at}
use Rattle.wasm_operators_encoding.specs.codes.RoleLaws.{role_of_opcode}
use Rattle.wasm_operators_encoding.specs.Until.{Again, go_on, until, taken_by}
use Rattle.wasm_operators_encoding.specs.UntilLaws.{until_step}
use Rattle.wasm_operators_reader.specs.Standing.{Standing, at_start, Reads, RefusesIn, Runs}
use Rattle.wasm_operators_encoding.specs.Ends.{IsConstantText, is_end, HasNoEnd}
use Rattle.wasm_operators_bodies.specs.Constants.{StopsConstant}
use Rattle.wasm_operators_encoding.specs.ConstantDecoder.{NextFrames, behind_end, by_frames, by_role, step, constant}
use Rattle.wasm_operators_encoding.specs.ConstantDecoderLaws.{step_takes, decides-constant}

-- ---- what fails goes on failing

fails_at_then : {A B : Type 0} (k : ErrorKind) (p : ℕ) (o : Outcome A) (f : A → Decoder B) → FailsAt k p o → FailsAt k p (continue_with o f)
fails_at_then (EndOfData h) p o f e = ap (λ r. continue_with r f) e
fails_at_then (MissingFeature n) p o f e = ap (λ r. continue_with r f) e
fails_at_then OutOfMemory p o f e = tt
fails_at_then Failed p o f e = absurd e
fails_at_then Other p o f e = ap (λ r. continue_with r f) e

fails_then : {A B : Type 0} (e : ErrorValue) (o : Outcome A) (f : A → Decoder B) → Fails e o → Fails e (continue_with o f)
fails_then e o f h = fails_at_then e.kind e.offset o f h

-- a fault of this kind at this offset
fails_other : {A : Type 0} (e : ErrorValue) (p : ℕ) (o : Outcome A) → e.kind ≡ Other → e.offset ≡ p → o ≡ Fault refusals.Other p → Fails e o
fails_other e p o k q f = rw (k, q) f

-- ---- one step

module _ (settings : Settings) (b c : State) (o : Op) (read : operator settings b ≡ Done (coded_of o) c) where
  -- what an operator in frames answers
  step_at : (k : FrameKind) (ks : List FrameKind) → step settings (k ∷ ks) b ≡ by_frames (b.place + 1) (is_end o) (after o (k ∷ ks)) c
  unfolding step
  step_at k ks =
      ap (λ (r : Outcome Coded). continue_with r (λ d. by_role (b.place + 1) (k ∷ ks) (role_at d.opcode))) read
      ∙ ap (λ (r : Role). by_role (b.place + 1) (k ∷ ks) r c) (role_of_opcode o)

  step_in : (ks : List FrameKind) (last : Bool) (js : List FrameKind) → after o ks ≡ Some js → is_end o ≡ last → step settings ks b ≡ by_frames (b.place + 1) last (Some js) c
  step_in [] last js f e = absurd cc
  step_in (k ∷ ks) last js f e = step_at k ks ∙ ap (λ (found : Option (List FrameKind)). by_frames (b.place + 1) (is_end o) found c) f ∙ ap (λ (x : Bool). by_frames (b.place + 1) x (Some js) c) e

-- ---- steps to where reading stops

module _ (settings : Settings) (e : ErrorValue) where
  -- from here on it is refused so
  abbrev FailsFrom : Standing → Type 0
  FailsFrom s = Fails e (until (step settings) s.frames s.bytes)

  until_at : (ks : List FrameKind) (b : State) (o : Outcome NextFrames) → step settings ks b ≡ o → Fails e (continue_with o (go_on (until (step settings)))) → Fails e (until (step settings) ks b)
  until_at ks b o same h = subst (λ (r : Outcome (Unit {0})). Fails e r) (sym (until_step (step settings) (step_takes settings) ks b o same)) h

  refused_in : (ks : List FrameKind) (s : Standing) → s.frames ≡ ks → s.bytes.settings ≡ settings → RefusesIn ks s e → Fails e (until (step settings) ks s.bytes)
  unfolding step
  refused_in [] s f z (kind, place) = until_at [] s.bytes (Fault refusals.Other (s.bytes.place - 0)) refl (fails_other e (s.bytes.place - 0) _ kind (place ∙ omega arith) refl)
  refused_in (k ∷ ks) s f z (inl fails) =
      until_at (k ∷ ks) s.bytes _ refl
      (fails_then e _ (go_on (until (step settings)))
      (fails_then e (operator settings s.bytes) (λ d. by_role (s.bytes.place + 1) (k ∷ ks) (role_at d.opcode)) (subst (λ (n : Settings). Fails e (operator n s.bytes)) z fails)))
  refused_in (k ∷ ks) s f z (inr (u, kind, place)) =
      let read = subst (λ (n : Settings). operator n s.bytes ≡ Done (coded_of u.op) u.behind) z u.read in
      let unfit = subst (λ (is : List FrameKind). after u.op is ≡ None) f u.unfit in
      let same = step_at settings s.bytes u.behind u.op read k ks ∙ ap (λ (found : Option (List FrameKind)). by_frames (s.bytes.place + 1) (is_end u.op) found u.behind) unfit in
      until_at (k ∷ ks) s.bytes (Fault refusals.Other (s.bytes.place + 1)) same (fails_other e (s.bytes.place + 1) _ kind place refl)

  -- a frame is open behind `end`
  still_open : (ks : List FrameKind) (b : State) → (ks ≡ [] → ⊥) → behind_end ks b ≡ Fault refusals.Other (b.place - 0)
  still_open [] b h = absurd (h refl)
  still_open (k ∷ ks) b h = refl

  ended_in : (s t : Standing) (o : Op) → s.bytes.settings ≡ settings → Reads s o t → is_end o ≡ true → (t.frames ≡ [] → ⊥) → e.kind ≡ Other → e.offset ≡ t.bytes.place → FailsFrom s
  ended_in s t o z r ended h kind place =
      let read = subst (λ (n : Settings). operator n s.bytes ≡ Done (coded_of o) t.bytes) z r.read in
      let same = step_in settings s.bytes t.bytes o read s.frames true t.frames r.fits ended ∙ still_open t.frames t.bytes h in
      until_at s.frames s.bytes (Fault refusals.Other (t.bytes.place - 0)) same (fails_other e (t.bytes.place - 0) _ kind (place ∙ omega arith) refl)

  -- so it is refused from where those operators begin
  fails_back : (os : List Op) (s t : Standing) → s.bytes.settings ≡ settings → Runs s os t → HasNoEnd os → (t.bytes.settings ≡ settings → FailsFrom t) → FailsFrom s
  fails_back [] s t z run none h = subst FailsFrom run (h (ap (λ (u : Standing). u.bytes.settings) run ∙ z))
  fails_back (o ∷ os) s t z (m, r, more) none h =
      let read = subst (λ (n : Settings). operator n s.bytes ≡ Done (coded_of o) m.bytes) z r.read in
      let found = read_spelled s.bytes.settings s.bytes m.bytes o r.read r.canonical in
      let later = fails_back os m t (found.1.settings ∙ z) more none.1 h in
      until_at s.frames s.bytes (Done (Again m.frames) m.bytes) (step_in settings s.bytes m.bytes o read s.frames false m.frames r.fits none.0) later

module _ (s : State) (e : ErrorValue) where
  stops_until : StopsConstant (at_start s) e → Fails e (until (step s.settings) (Block ∷ []) s)
  stops_until (inl (t, (os, run, none), refused, memory)) = fails_back s.settings e os (at_start s) t refl run none (λ z. refused_in s.settings e t.frames t refl z refused)
  stops_until (inr (t, (os, m, o, run, none, read, ended), open_still, kind, place)) =
      fails_back s.settings e os (at_start s) m refl run none (λ z. ended_in s.settings e m t o z read ended open_still kind place)

  -- where reading stops is how the decoder refuses
  pub constant_fails : StopsConstant (at_start s) e → Fails e (constant s.settings s)
  unfolding constant taken_by
  constant_fails h = fails_then e (until (step s.settings) (Block ∷ []) s) _ (stops_until h)

-- what was read as a constant expression is what the decoder answers
pub constant_done : (s t it : State) → (text : List ℕ) × IsConstantText s.settings text × Takes s text t × (it ≡ part_at s text) → constant s.settings s ≡ Done it.rest t
constant_done s t it (text, spelled, taken, same) = (decides-constant s.settings).complete s t it.rest text taken (sym (ap (λ (b : State). b.rest) same), spelled)

-- and it is the part that these bytes are
pub constant_part : (s t it : State) → (text : List ℕ) × IsConstantText s.settings text × Takes s text t × (it ≡ part_at s text) → it ≡ part_at s it.rest
constant_part s t it (text, spelled, taken, same) = same ∙ ap (part_at s) (sym (ap (λ (b : State). b.rest) same))

pub constant_reaches : (s t it : State) → (text : List ℕ) × IsConstantText s.settings text × Takes s text t × (it ≡ part_at s text) → Reaches s t
constant_reaches s t it (text, spelled, taken, same) = record { text = text; taken = taken }
