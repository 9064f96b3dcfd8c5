-- What an operator makes of the frames, by its bytes; and bytes spell at most one tree.
use Rattle.std.proofs.Common.{◌≡◌, ◌↔◌, ℕ, ◌+◌, List, [], ◌∷◌, ◌++◌, length, Some, None, IsTrue, refl, sym, ◌∙◌, ap, subst, append-nil}
use Rattle.wasm_types.specs.decoding.Decoder.{State, Done, Takes}
use Rattle.wasm_types.specs.settings.Settings.{Settings}
use Rattle.wasm_operators_immediates.specs.declared.frames.FrameKind.{FrameKind}
use Rattle.wasm_operators_immediates.specs.declared.frames.FrameKind.TheVariants.{Block}
use Rattle.wasm_operators_enums.specs.Op.{Op}
use Rattle.wasm_operators_enums.specs.Immediates.{is_canonical}
use Rattle.wasm_operators_encoding.specs.Coded.{Coded, operator}
use Rattle.wasm_operators_encoding.specs.CodedLaws.{decides-operator}
use Rattle.wasm_operators_encoding.specs.Operators.{coded_of, SpelledOperator}
use Rattle.wasm_operators_encoding.specs.OperatorLaws.{spelled_to, spelled_from, coded_apart}
use Rattle.wasm_operators_encoding.specs.expressions.Code.{Code, walk}
use Rattle.wasm_operators_encoding.specs.expressions.Spelling.{SpelledOperators, SpelledExpression}
use Rattle.wasm_operators_encoding.specs.expressions.Frames.{Closes, after, BytesClose}
use Rattle.wasm_operators_encoding.specs.expressions.FrameLaws.{closes_step, closes_more, one_tree}

module _ (settings : Settings) where
  -- where a reader stands behind a front of the bytes
  abbrev standing : State → List ℕ → List ℕ → State
  standing s front back = record { rest = back; place = s.place + length front; settings = s.settings; start = s.start }

  -- what is spelled at the front is read, whatever follows
  pub spelled_read : (s : State) (o : Op) (front back : List ℕ) → SpelledOperator settings o front → s.rest ≡ front ++ back
      → operator settings s ≡ Done (coded_of o) (standing s front back)
  spelled_read s o front back h e =
      (decides-operator settings).complete s (standing s front back) (coded_of o) front
      (record { parts = e; place = refl; settings = refl; start = refl }) (spelled_to settings o front h).1

  same_coded : (c d : Coded) (t u : State) → Done c t ≡ Done d u → c ≡ d
  same_coded c d t u e = cc

  same_state : (c d : Coded) (t u : State) → Done c t ≡ Done d u → t ≡ u
  same_state c d t u e = cc

  same_frames : (is js : List FrameKind) → Some is ≡ Some js → is ≡ js
  same_frames is js e = cc

  none_some : (js : List FrameKind) → None ≡ Some js → ⊥
  none_some js e = absurd cc

  module _ (s t : State) (o : Op) (read : operator settings s ≡ Done (coded_of o) t) (canonical : IsTrue (is_canonical o)) where
    -- what was read is spelled at the front
    pub read_spelled : (text : List ℕ) × Takes s text t × SpelledOperator settings o text
    read_spelled =
        let found = (decides-operator settings).sound s t (coded_of o) read in
        (found.0, found.1, spelled_from settings o found.0 (canonical, found.2))

    -- and nothing else is
    pub read_one : (p : Op) (front back : List ℕ) → SpelledOperator settings p front → s.rest ≡ front ++ back → (p ≡ o) × (back ≡ t.rest)
    read_one p front back h e =
        let again = sym (spelled_read s p front back h e) ∙ read in
        let same = same_coded (coded_of p) (coded_of o) (standing s front back) t again in
        (coded_apart p o h.canonical canonical same, ap (λ (u : State). u.rest) (same_state (coded_of p) (coded_of o) (standing s front back) t again))

    module _ (k : FrameKind) (ks : List FrameKind) where
      -- the frames behind the operator, and what is left closes them
      abbrev pub BytesStep : Type 0
      BytesStep = (js : List FrameKind) × (after o (k ∷ ks) ≡ Some js) × BytesClose settings js t.rest

      bytes_step_to : (os : List Op) → Closes (k ∷ ks) os → SpelledOperators settings os s.rest → BytesStep
      bytes_step_to [] c h = absurd (closes_more k ks c)
      bytes_step_to (p ∷ os) c (front, back, h, more, e) =
          let same = read_one p front back h e in
          let step = (closes_step o k ks os).0 (subst (λ (q : Op). Closes (k ∷ ks) (q ∷ os)) same.0 c) in
          (step.0, step.1, (os, step.2, subst (λ (bs : List ℕ). SpelledOperators settings os bs) same.1 more))

      -- bytes go on by an operator exactly where it may stand and what is left closes the frames behind it
      pub bytes_step : BytesClose settings (k ∷ ks) s.rest ↔ BytesStep
      bytes_step = (
        λ (os, c, h). bytes_step_to os c h,
        λ (js, e, (os, c, h)).
            let found = read_spelled in
            (o ∷ os, (closes_step o k ks os).1 (js, e, c), (found.0, t.rest, found.2, h, found.1.parts)),
      )

    -- where it may stand
    pub bytes_go_on : (ks js : List FrameKind) → after o ks ≡ Some js → BytesClose settings ks s.rest ↔ BytesClose settings js t.rest
    bytes_go_on [] js e = absurd cc
    bytes_go_on (k ∷ ks) js e = (
      λ h.
          let step = (bytes_step k ks).0 h in
          subst (λ (is : List FrameKind). BytesClose settings is t.rest) (same_frames step.0 js (sym step.1 ∙ e)) step.2,
      λ h. (bytes_step k ks).1 (js, e, h),
    )

    -- where it may not
    pub bytes_refused : (k : FrameKind) (ks : List FrameKind) → after o (k ∷ ks) ≡ None → BytesClose settings (k ∷ ks) s.rest → ⊥
    bytes_refused k ks e h =
        let step = (bytes_step k ks).0 h in
        none_some step.0 (sym e ∙ step.1)

  module _ (s : State) (unread : (c : Coded) (t : State) → operator settings s ≡ Done c t → ⊥) (k : FrameKind) (ks : List FrameKind) where
    bytes_stuck_at : (os : List Op) → Closes (k ∷ ks) os → SpelledOperators settings os s.rest → ⊥
    bytes_stuck_at [] c h = closes_more k ks c
    bytes_stuck_at (p ∷ os) c (front, back, h, more, e) = unread (coded_of p) (standing s front back) (spelled_read s p front back h e)

    -- where no operator can be read no frame is closed
    pub bytes_stuck : BytesClose settings (k ∷ ks) s.rest → ⊥
    bytes_stuck (os, c, h) = bytes_stuck_at os c h

  -- ---- whole expressions

  module _ (text : List ℕ) where
    -- bytes close the frame of an expression exactly where they spell one
    pub bytes_expression : BytesClose settings (Block ∷ []) text ↔ ((c : Code) × SpelledExpression settings c text)
    bytes_expression = (
      λ (os, (c, rest, i, e, f), h).
          let whole : os ≡ walk c = e ∙ ap (λ (xs : List Op). walk c ++ xs) f ∙ append-nil (walk c) in
          (c, record { expression = i; spelled = subst (λ (xs : List Op). SpelledOperators settings xs text) whole h }),
      λ (c, h). (walk c, (c, [], h.expression, sym (append-nil (walk c)), refl), h.spelled),
    )

    -- where no frame is open nothing is left
    pub bytes_end : BytesClose settings [] text ↔ (text ≡ [])
    bytes_end = (
      λ (os, e, h). subst (λ (xs : List Op). SpelledOperators settings xs text) e h,
      λ e. ([], refl, e),
    )

  -- ---- one tree

  -- this operator is read at the front of these bytes
  abbrev at : List ℕ → State
  at text = record { rest = text; place = 0; settings = settings; start = 0 }

  one_operator : (o p : Op) (text front back before behind : List ℕ) → SpelledOperator settings o front → text ≡ front ++ back
      → SpelledOperator settings p before → text ≡ before ++ behind
      → (p ≡ o) × (behind ≡ back)
  one_operator o p text front back before behind h e g f =
      read_one (at text) (standing (at text) front back) o (spelled_read (at text) o front back h e) h.canonical p before behind g f

  -- of two spellings of the same bytes one goes on where the other ends
  abbrev Meet : List Op → List Op → Type 0
  Meet os ps = (r : List Op) × (s : List Op) × (os ++ r ≡ ps ++ s)

  joined : (o p : Op) (os ps : List Op) → p ≡ o → os ≡ ps → o ∷ os ≡ p ∷ ps
  joined o p os ps e f = cc

  spellings_meet : (os ps : List Op) (text : List ℕ) → SpelledOperators settings os text → SpelledOperators settings ps text → Meet os ps
  spellings_meet [] ps text h g = (ps, [], sym (append-nil ps))
  spellings_meet (o ∷ os) [] text h g = ([], o ∷ os, append-nil (o ∷ os))
  spellings_meet (o ∷ os) (p ∷ ps) text (front, back, h, more, e) (before, behind, g, others, f) =
      let same = one_operator o p text front back before behind h e g f in
      let rest = spellings_meet os ps back more (subst (λ (bs : List ℕ). SpelledOperators settings ps bs) same.1 others) in
      (rest.0, rest.1, joined o p (os ++ rest.0) (ps ++ rest.1) same.0 rest.2)

  -- bytes spell one expression at most
  pub one_expression : (c d : Code) (text : List ℕ) → SpelledExpression settings c text → SpelledExpression settings d text → c ≡ d
  one_expression c d text h g =
      let met = spellings_meet (walk c) (walk d) text h.spelled g.spelled in
      (one_tree Block c d met.0 met.1 h.expression g.expression met.2).0
