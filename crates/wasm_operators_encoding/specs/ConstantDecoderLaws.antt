-- The decoder of constant expressions is lawful and exact, and refuses where reading stops.
use Rattle.std.proofs.Common.{◌≡◌, ℕ, zero, suc, ◌+◌, ◌<◌, Bool, true, false, List, [], ◌∷◌, ◌++◌, length, Option, Some, None, refl, sym, ◌∙◌, ap, subst, append-nil}
use Rattle.wasm_types.specs.settings.Settings.{Settings}
use Rattle.wasm_types.specs.decoding.declared.Refusal.TheVariants.{Other}
use Rattle.wasm_types.specs.decoding.Decoder.{State, Done, Grammar, Then, IsLawful, Decides}
use Rattle.wasm_types.specs.decoding.Laws.{lawful->>=, lawful-pure, lawful-refuse}
use Rattle.wasm_types.specs.decoding.ExactLaws.{done_then, decides->>=, decides-same, decides-pure, decides-refuse}
use Rattle.wasm_types.specs.decoding.ListLaws.{lawful-from_place, decides-from_place, lawful-refuse_at, decides-refuse_at}
use Rattle.wasm_operators_immediates.specs.declared.frames.FrameKind.{FrameKind}
use Rattle.wasm_operators_immediates.specs.declared.frames.FrameKind.TheVariants.{Block}
use Rattle.wasm_operators_enums.specs.Op.{Op}
use Rattle.wasm_operators_enums.specs.Roles.{role_of}
use Rattle.wasm_operators_enums.specs.declared.role.Role.{Role}
use Rattle.wasm_operators_encoding.specs.Coded.{Coded, operator, SpelledCoded}
use Rattle.wasm_operators_encoding.specs.CodedLaws.{lawful-operator, decides-operator, fewer_left}
use Rattle.wasm_operators_encoding.specs.Operators.{opcode_of, coded_of, SpelledOperator}
use Rattle.wasm_operators_encoding.specs.OperatorLaws.{spelled_to, spelled_from}
use Rattle.wasm_operators_encoding.specs.expressions.Code.{walk}
use Rattle.wasm_operators_encoding.specs.expressions.Frames.{Closes, after, behind}
use Rattle.wasm_operators_encoding.specs.expressions.FrameLaws.{closes_step, closes_more, closes_at}
use Rattle.wasm_operators_encoding.specs.expressions.Spelling.{SpelledOperators}
use Rattle.wasm_operators_encoding.specs.codes.OpcodeRoles.{role_at}
use Rattle.wasm_operators_encoding.specs.codes.RoleLaws.{role_of_opcode}
use Rattle.wasm_operators_encoding.specs.codes.CodedOperators.{is_coded}
use Rattle.wasm_operators_encoding.specs.Until.{Again, Last, until, taken_by, GoesOn, Steps, Until, TextBy}
use Rattle.wasm_operators_encoding.specs.UntilLaws.{TakesBytes, lawful-until, decides-until, lawful-taken_by, decides-taken_by}
use Rattle.wasm_operators_encoding.specs.Ends.{ends, is_end, HasNoEnd, EndsOnce, IsConstantText}
use Rattle.wasm_operators_encoding.specs.ConstantDecoder.{NextFrames, behind_end, by_frames, by_role, in_frames, step, constant, ConstantText}

-- ---- a step is lawful

module _ (settings : Settings) where
  lawful-behind_end : (ks : List FrameKind) → IsLawful (behind_end ks)
  lawful-behind_end [] = lawful-pure (Last tt)
  lawful-behind_end (k ∷ ks) = lawful-refuse Other 0

  lawful-by_frames : (place : ℕ) (last : Bool) (found : Option (List FrameKind)) → IsLawful (by_frames place last found)
  lawful-by_frames place last None = lawful-refuse_at Other place
  lawful-by_frames place true (Some ks) = lawful-behind_end ks
  lawful-by_frames place false (Some ks) = lawful-pure (Again ks)

  lawful-step : (ks : List FrameKind) → IsLawful (step settings ks)
  unfolding step
  lawful-step [] = lawful-refuse Other 0
  lawful-step (k ∷ ks) = lawful-from_place (λ p. in_frames settings p (k ∷ ks))
      (λ p. lawful->>= (operator settings) (λ c. by_role (p + 1) (k ∷ ks) (role_at c.opcode)) (lawful-operator settings)
      (λ c. lawful-by_frames (p + 1) (ends (role_at c.opcode)) (behind (role_at c.opcode) (k ∷ ks))))

  -- ---- a step takes a byte

  stays_behind : (ks : List FrameKind) (js : List FrameKind) (s t : State) → behind_end ks s ≡ Done (Again js) t → t ≡ s
  stays_behind [] js s t e = absurd cc
  stays_behind (k ∷ ks) js s t e = absurd cc

  stays : (place : ℕ) (last : Bool) (found : Option (List FrameKind)) (js : List FrameKind) (s t : State) → by_frames place last found s ≡ Done (Again js) t → t ≡ s
  stays place last None js s t e = absurd cc
  stays place true (Some ks) js s t e = stays_behind ks js s t e
  stays place false (Some ks) js s t e = cc

  pub step_takes : TakesBytes (step settings)
  unfolding step
  step_takes [] js s t e = absurd cc
  step_takes (k ∷ ks) js s t e =
      let (c, u, read, more) = done_then (operator settings s) (λ c. by_role (s.place + 1) (k ∷ ks) (role_at c.opcode)) (Again js) t e in
      let same = stays (s.place + 1) (ends (role_at c.opcode)) (behind (role_at c.opcode) (k ∷ ks)) js u t more in
      subst (λ (v : State). length v.rest < length s.rest) (sym same) (fewer_left settings s u c read)

  -- ---- a step is exact

  -- what follows an operator that is `end` or another
  abbrev IsNext : Bool → Option (List FrameKind) → NextFrames → Type 0
  IsNext last None next = ⊥
  IsNext true (Some ks) next = (ks ≡ []) × (next ≡ Last tt)
  IsNext false (Some ks) next = next ≡ Again ks

  -- it is this, and no byte is taken
  abbrev Follows : Bool → Option (List FrameKind) → Grammar NextFrames
  Follows last found next text = IsNext last found next × (text ≡ [])

  decides-behind_end : (ks : List FrameKind) → Decides (behind_end ks) (Follows true (Some ks))
  decides-behind_end [] = decides-pure (Last tt) (Follows true (Some [])) ((refl, refl), refl) (λ next text h. (h.0.1, h.1))
  decides-behind_end (k ∷ ks) = decides-refuse Other 0 (Follows true (Some (k ∷ ks))) (λ next text h. let e = h.0.0 in absurd cc)

  decides-by_frames : (place : ℕ) (last : Bool) (found : Option (List FrameKind)) → Decides (by_frames place last found) (Follows last found)
  decides-by_frames place last None = decides-refuse_at Other place (Follows last None) (λ next text h. h.0)
  decides-by_frames place true (Some ks) = decides-behind_end ks
  decides-by_frames place false (Some ks) = decides-pure (Again ks) (Follows false (Some ks)) (refl, refl) (λ next text h. (h.0, h.1))

  -- what follows an opcode with its immediates in these frames
  abbrev CodedIn : List FrameKind → Coded → Grammar NextFrames
  CodedIn ks c = Follows (ends (role_at c.opcode)) (behind (role_at c.opcode) ks)

  -- in frames of which one is open
  abbrev StepIn : List FrameKind → Grammar NextFrames
  StepIn [] next text = ⊥
  StepIn (k ∷ ks) next text = Then (SpelledCoded settings) (CodedIn (k ∷ ks)) next text

  decides-step : (ks : List FrameKind) → Decides (step settings ks) (StepIn ks)
  unfolding step
  decides-step [] = decides-refuse Other 0 (StepIn []) (λ next text h. h)
  decides-step (k ∷ ks) = decides-from_place (λ p. in_frames settings p (k ∷ ks)) (StepIn (k ∷ ks))
      (λ p. decides->>= (operator settings) (λ c. by_role (p + 1) (k ∷ ks) (role_at c.opcode)) (SpelledCoded settings) (CodedIn (k ∷ ks)) (decides-operator settings)
      (λ c. decides-by_frames (p + 1) (ends (role_at c.opcode)) (behind (role_at c.opcode) (k ∷ ks))))

  -- ---- steps up to the last are an expression's operators

  -- the operators that close these frames by one `end`, the last, and their bytes
  pub record Ended (ks : List FrameKind) (text : List ℕ) : Type 0 where
    pub ops : List Op
    pub closes : Closes ks ops
    pub once : EndsOnce ops
    pub spelled : SpelledOperators settings ops text

  role_is : (c : Coded) (o : Op) → coded_of o ≡ c → role_at c.opcode ≡ role_of o
  role_is c o e = ap (λ (d : Coded). role_at d.opcode) (sym e) ∙ role_of_opcode o

  ended_by : (k : FrameKind) (ks : List FrameKind) (o : Op) (front : List ℕ) → SpelledOperator settings o front → is_end o ≡ true → after o (k ∷ ks) ≡ Some []
      → (text : List ℕ) → text ≡ front → Ended (k ∷ ks) text
  ended_by k ks o front h e f text same = record {
    ops = o ∷ [];
    closes = closes_at o [] (k ∷ ks) [] f refl;
    once = record { front = []; last = o; whole = refl; none = tt; ended = e };
    spelled = (front, [], h, refl, same ∙ sym (append-nil front));
  }

  more_by : (k : FrameKind) (ks js : List FrameKind) (o : Op) (front back text : List ℕ) → SpelledOperator settings o front → is_end o ≡ false
      → after o (k ∷ ks) ≡ Some js → Ended js back → text ≡ front ++ back → Ended (k ∷ ks) text
  more_by k ks js o front back text h e f rest same = record {
    ops = o ∷ rest.ops;
    closes = closes_at o rest.ops (k ∷ ks) js f rest.closes;
    once = record { front = o ∷ rest.once.front; last = rest.once.last; whole = ap (λ (os : List Op). o ∷ os) rest.once.whole; none = (e, rest.once.none); ended = rest.once.ended };
    spelled = (front, back, h, rest.spelled, same);
  }

  module _ (k : FrameKind) (ks : List FrameKind) (o : Op) (front back text : List ℕ) (h : SpelledOperator settings o front) (whole : text ≡ front ++ back) where
    ended_next : (last : Bool) (found : Option (List FrameKind)) (next : NextFrames) → is_end o ≡ last → after o (k ∷ ks) ≡ found → IsNext last found next
        → GoesOn (λ js u rest. Ended js rest) next tt back → Ended (k ∷ ks) text
    ended_next last None next e f is more = absurd is
    ended_next true (Some js) (Again is) e f n more = absurd (let no = n.1 in cc)
    ended_next true (Some js) (Last u) e f n more = ended_by k ks o front h e (f ∙ ap Some n.0) text (whole ∙ ap (λ (z : List ℕ). front ++ z) more.1 ∙ append-nil front)
    ended_next false (Some js) (Last u) e f n more = absurd cc
    ended_next false (Some js) (Again is) e f n more = more_by k ks js o front back text h e f (subst (λ (ls : List FrameKind). Ended ls back) (again_is is js n) more) whole
      where
        again_is : (is js : List FrameKind) → ◌≡◌ {A = NextFrames} (Again is) (Again js) → is ≡ js
        again_is is js e = cc

  goes_on : (n : ℕ) → ((ks : List FrameKind) (u : Unit {0}) (text : List ℕ) → Steps StepIn n ks u text → Ended ks text) → (next : NextFrames) (u : Unit {0}) (back : List ℕ)
      → GoesOn (Steps StepIn n) next u back → GoesOn (λ js v rest. Ended js rest) next tt back
  goes_on n later (Again js) u back h = later js u back h
  goes_on n later (Last v) u back h = (refl, h.1)

  steps_ended : (n : ℕ) (ks : List FrameKind) (u : Unit {0}) (text : List ℕ) → Steps StepIn n ks u text → Ended ks text
  steps_ended zero ks u text h = absurd h
  steps_ended (suc n) [] u text h = absurd h.first
  steps_ended (suc n) (k ∷ ks) u text h =
      let it = h.first in
      let (o, canonical, coded) = is_coded it.value it.first.kinds in
      let spelled = spelled_from settings o it.front (canonical, subst (λ (d : Coded). SpelledCoded settings d it.front) (sym coded) it.first) in
      let is = subst (λ (r : Role). IsNext (ends r) (behind r (k ∷ ks)) h.value) (role_is it.value o coded) it.second.0 in
      let front : h.front ≡ it.front = it.whole ∙ ap (λ (z : List ℕ). it.front ++ z) it.second.1 ∙ append-nil it.front in
      ended_next k ks o it.front h.back text spelled (h.whole ∙ ap (λ (z : List ℕ). z ++ h.back) front) (is_end o) (after o (k ∷ ks)) h.value refl refl is
      (goes_on n (steps_ended n) h.value u h.back h.second)

  -- ---- and the other way

  follows : (o : Op) (k : FrameKind) (ks : List FrameKind) (last : Bool) (found : Option (List FrameKind)) (next : NextFrames) → is_end o ≡ last → after o (k ∷ ks) ≡ found → IsNext last found next
      → IsNext (ends (role_at (opcode_of o))) (behind (role_at (opcode_of o)) (k ∷ ks)) next
  follows o k ks last found next e f h =
      subst (λ (r : Role). IsNext (ends r) (behind r (k ∷ ks)) next) (sym (role_of_opcode o))
      (subst (λ (b : Bool). IsNext b (after o (k ∷ ks)) next) (sym e) (subst (λ (g : Option (List FrameKind)). IsNext last g next) (sym f) h))

  coded_step : (o : Op) (k : FrameKind) (ks : List FrameKind) (last : Bool) (found : Option (List FrameKind)) (next : NextFrames) (text : List ℕ)
      → is_end o ≡ last → after o (k ∷ ks) ≡ found → IsNext last found next
      → SpelledOperator settings o text → StepIn (k ∷ ks) next text
  coded_step o k ks last found next text e f h spelled = record {
    value = coded_of o;
    front = text;
    back = [];
    first = (spelled_to settings o text spelled).1;
    second = (follows o k ks last found next e f h, refl);
    whole = sym (append-nil text);
  }

  none_left : (js : List FrameKind) → Closes js [] → js ≡ []
  none_left [] c = refl
  none_left (j ∷ js) c = absurd (closes_more j js c)

  nothing_closed : (front : List Op) (last : Op) → front ++ last ∷ [] ≡ [] → ⊥
  nothing_closed [] last e = absurd cc
  nothing_closed (o ∷ front) last e = absurd cc

  ended_steps : (front : List Op) (last : Op) (ks : List FrameKind) (text : List ℕ) → HasNoEnd front → is_end last ≡ true
      → Closes ks (front ++ last ∷ []) → SpelledOperators settings (front ++ last ∷ []) text
      → Steps StepIn (suc (length front)) ks tt text
  ended_steps front last [] text n e c h = absurd (nothing_closed front last c)
  ended_steps [] last (k ∷ ks) text n e c (front, back, h, more, whole) =
      let behind_it = (closes_step last k ks []).0 c in
      record {
        value = Last tt;
        front = front;
        back = back;
        first = coded_step last k ks true (Some behind_it.0) (Last tt) front e behind_it.1 (none_left behind_it.0 behind_it.2, refl) h;
        second = (refl, more);
        whole = whole;
      }
  ended_steps (o ∷ os) last (k ∷ ks) text n e c (front, back, h, more, whole) =
      let behind_it = (closes_step o k ks (os ++ last ∷ [])).0 c in
      record {
        value = Again behind_it.0;
        front = front;
        back = back;
        first = coded_step o k ks false (Some behind_it.0) (Again behind_it.0) front n.0 behind_it.1 refl h;
        second = ended_steps os last behind_it.0 back n.1 e behind_it.2 more;
        whole = whole;
      }

  -- ---- constant expressions

  constant_to : (text : List ℕ) → Ended (Block ∷ []) text → IsConstantText settings text
  constant_to text h =
      let (c, rest, i, e, g) = h.closes in
      let same : h.ops ≡ walk c = e ∙ ap (λ (xs : List Op). walk c ++ xs) g ∙ append-nil (walk c) in
      record { code = c; spelled = record { expression = i; spelled = subst (λ (xs : List Op). SpelledOperators settings xs text) same h.spelled }; once = subst EndsOnce same h.once }

  constant_from : (text : List ℕ) → IsConstantText settings text → Until StepIn (Block ∷ []) tt text
  constant_from text h =
      let once = h.once in
      let closes : Closes (Block ∷ []) (walk h.code) = (h.code, [], h.spelled.expression, sym (append-nil (walk h.code)), refl) in
      let closed = subst (Closes (Block ∷ [])) once.whole closes in
      let spelled = subst (λ (xs : List Op). SpelledOperators settings xs text) once.whole h.spelled.spelled in
      (suc (length once.front), ended_steps once.front once.last (Block ∷ []) text once.none once.ended closed spelled)

  pub lawful-constant : IsLawful (constant settings)
  unfolding constant
  lawful-constant = lawful-taken_by (until (step settings) (Block ∷ [])) (lawful-until (step settings) step_takes lawful-step (Block ∷ []))

  pub decides-constant : Decides (constant settings) (ConstantText settings)
  unfolding constant
  decides-constant = decides-same (taken_by (until (step settings) (Block ∷ []))) (TextBy (Until StepIn (Block ∷ []))) (ConstantText settings)
      (decides-taken_by (until (step settings) (Block ∷ [])) (Until StepIn (Block ∷ [])) (decides-until (step settings) step_takes StepIn decides-step (Block ∷ [])))
      (λ x text h. (h.0, constant_to text (steps_ended h.1.1.0 (Block ∷ []) h.1.0 text h.1.1.1)))
      (λ x text h. (h.0, (tt, constant_from text h.1)))
