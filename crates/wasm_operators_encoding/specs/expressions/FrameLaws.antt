-- What an operator makes of the frames is fixed by its place in a tree, and a tree by its operators in order.
use Rattle.std.proofs.Common.{◌≡◌, ◌↔◌, ◌⊎◌, inl, inr, ◌+◌, ◌<◌, ◌≤◌, List, [], ◌∷◌, ◌++◌, length, Option, Some, None, IsTrue, true, is_some, refl}
use Rattle.std.proofs.Common.{sym, ◌∙◌, ap, subst, append_assoc, arith}
use Rattle.wasm_operators_immediates.specs.declared.frames.FrameKind.{FrameKind}
use Rattle.wasm_operators_immediates.specs.declared.frames.FrameKind.TheVariants as frames
use Rattle.wasm_operators_enums.specs.Op.{Op}
use Rattle.wasm_operators_enums.specs.declared.role.Role.{Role}
use Rattle.wasm_operators_enums.specs.declared.role.Role.TheVariants.{Plain, Opens, Else, Catch, CatchAll, Delegate, End}
use Rattle.wasm_operators_enums.specs.declared.role.Effect.{Effect}
use Rattle.wasm_operators_enums.specs.declared.role.Effect.TheVariants as effects
use Rattle.wasm_operators_enums.specs.Roles.{role_of, clause, effect, fits}
use Rattle.wasm_operators_encoding.specs.expressions.Code.{Code, close, plain, nested, turn, walk, IsIn}
use Rattle.wasm_operators_encoding.specs.expressions.Frames.{Closes, frames_behind, after}

-- what an operator does to a frame, if it may stand there
abbrev does : Op → FrameKind → Option Effect
does o k = effect (role_of o) k

-- ---- places

-- where an operator of this effect may stand in a tree, with the frames before it and behind it
data Place (e : Option Effect) (k : FrameKind) (ks js : List FrameKind) : Type 0 where
  at_close : e ≡ Some effects.Closes → js ≡ ks → Place e k ks js
  at_plain : e ≡ Some effects.Stays → js ≡ k ∷ ks → Place e k ks js
  at_open : (j : FrameKind) → e ≡ Some (effects.Nests j) → js ≡ j ∷ k ∷ ks → Place e k ks js
  at_turn : (j : FrameKind) → e ≡ Some (effects.Turns j) → js ≡ j ∷ ks → Place e k ks js

same_frames : (is js : List FrameKind) → Some is ≡ Some js → js ≡ is
same_frames is js e = cc

place_to : (e : Option Effect) (k : FrameKind) (ks js : List FrameKind) → frames_behind e k ks ≡ Some js → Place e k ks js
place_to None k ks js h = absurd cc
place_to (Some effects.Stays) k ks js h = at_plain refl (same_frames (k ∷ ks) js h)
place_to (Some (effects.Nests j)) k ks js h = at_open j refl (same_frames (j ∷ k ∷ ks) js h)
place_to (Some effects.Closes) k ks js h = at_close refl (same_frames ks js h)
place_to (Some (effects.Turns j)) k ks js h = at_turn j refl (same_frames (j ∷ ks) js h)

-- ---- the step

same_first : (o p : Op) (os ps : List Op) → o ∷ os ≡ p ∷ ps → p ≡ o
same_first o p os ps e = cc

same_rest : (o p : Op) (os ps : List Op) → o ∷ os ≡ p ∷ ps → os ≡ ps
same_rest o p os ps e = cc

module _ (o : Op) (k : FrameKind) (ks : List FrameKind) (os : List Op) where
  -- the frames behind the operator, and what is left closes them
  abbrev pub Steps : Type 0
  Steps = (js : List FrameKind) × (after o (k ∷ ks) ≡ Some js) × Closes js os

  -- the frames behind an operator whose effect is known
  behind_by : (e : Option Effect) (js : List FrameKind) → does o k ≡ e → frames_behind e k ks ≡ Some js → after o (k ∷ ks) ≡ Some js
  behind_by e js h f = ap (λ (d : Option Effect). frames_behind d k ks) h ∙ f

  -- the effect of an equal operator
  moved : (p : Op) (e : Option Effect) → p ≡ o → does p k ≡ e → does o k ≡ e
  moved p e same h = subst (λ (q : Op). does q k ≡ e) same h

  step_from : (c : Code) (rest : List Op) → IsIn k c → o ∷ os ≡ walk c ++ rest → Closes ks rest → Steps
  step_from (close p) rest i e c =
      let effect = moved p (Some effects.Closes) (same_first o p os rest e) i in
      (ks, behind_by (Some effects.Closes) ks effect refl, subst (Closes ks) (sym (same_rest o p os rest e)) c)
  step_from (plain p more) rest i e c =
      let effect = moved p (Some effects.Stays) (same_first o p os (walk more ++ rest) e) i.0 in
      (k ∷ ks, behind_by (Some effects.Stays) (k ∷ ks) effect refl, (more, rest, i.1, same_rest o p os (walk more ++ rest) e, c))
  step_from (nested p body more) rest i e c =
      let back = (walk body ++ walk more) ++ rest in
      let effect = moved p (Some (effects.Nests i.0)) (same_first o p os back e) i.1 in (
        i.0 ∷ k ∷ ks,
        behind_by (Some (effects.Nests i.0)) (i.0 ∷ k ∷ ks) effect refl,
        (body, walk more ++ rest, i.2, same_rest o p os back e ∙ append_assoc (walk body) (walk more) rest, (more, rest, i.3, refl, c)),
      )
  step_from (turn p more) rest i e c =
      let effect = moved p (Some (effects.Turns i.0)) (same_first o p os (walk more ++ rest) e) i.1 in
      (i.0 ∷ ks, behind_by (Some (effects.Turns i.0)) (i.0 ∷ ks) effect refl, (more, rest, i.2, same_rest o p os (walk more ++ rest) e, c))

  module _ (js : List FrameKind) where
    step_at : Place (does o k) k ks js → Closes js os → Closes (k ∷ ks) (o ∷ os)
    step_at (at_close r e) c = (close o, os, r, refl, subst (λ (is : List FrameKind). Closes is os) e c)
    step_at (at_plain r e) c =
        let d = subst (λ (is : List FrameKind). Closes is os) e c in
        (plain o d.0, d.1, (r, d.2), ap (λ (xs : List Op). o ∷ xs) d.3, d.4)
    step_at (at_open j r e) c =
        let d = subst (λ (is : List FrameKind). Closes is os) e c in
        let f : os ≡ (walk d.0 ++ walk d.4.0) ++ d.4.1 =
        d.3 ∙ ap (λ (xs : List Op). walk d.0 ++ xs) d.4.3 ∙ sym (append_assoc (walk d.0) (walk d.4.0) d.4.1) in
        (nested o d.0 d.4.0, d.4.1, (j, r, d.2, d.4.2), ap (λ (xs : List Op). o ∷ xs) f, d.4.4)
    step_at (at_turn j r e) c =
        let d = subst (λ (is : List FrameKind). Closes is os) e c in
        (turn o d.0, d.1, (j, r, d.2), ap (λ (xs : List Op). o ∷ xs) d.3, d.4)

  -- an operator goes on exactly where it may stand and what is left closes the frames behind it
  pub closes_step : Closes (k ∷ ks) (o ∷ os) ↔ Steps
  closes_step =
      (λ (c, rest, i, e, d). step_from c rest i e d, λ (js, e, c). step_at js (place_to (does o k) k ks js e) c)

-- ---- nothing left

not_empty : (o : Op) (os : List Op) → [] ≡ o ∷ os → ⊥
not_empty o os e = absurd cc

walk_not_empty : (c : Code) (rest : List Op) → [] ≡ walk c ++ rest → ⊥
walk_not_empty (close o) rest e = not_empty o rest e
walk_not_empty (plain o more) rest e = not_empty o (walk more ++ rest) e
walk_not_empty (nested o body more) rest e = not_empty o ((walk body ++ walk more) ++ rest) e
walk_not_empty (turn o more) rest e = not_empty o (walk more ++ rest) e

-- with a frame open something is left
pub closes_more : (k : FrameKind) (ks : List FrameKind) → Closes (k ∷ ks) [] → ⊥
closes_more k ks (c, rest, i, e, d) = walk_not_empty c rest e

-- with none open nothing is left
pub closes_none : (os : List Op) → Closes [] os ↔ (os ≡ [])
closes_none os = (λ e. e, λ e. e)

-- if operators close the frames after an operator, it and they close those before it
pub closes_at : (o : Op) (os : List Op) (ks js : List FrameKind) → after o ks ≡ Some js → Closes js os → Closes ks (o ∷ os)
closes_at o os [] js e c = absurd cc
closes_at o os (k ∷ ks) js e c = (closes_step o k ks os).1 (js, e, c)

-- ---- the structural order

some_behind : (e : Option Effect) (k : FrameKind) (ks : List FrameKind) → is_some e ≡ is_some (frames_behind e k ks)
some_behind None k ks = refl
some_behind (Some effects.Stays) k ks = refl
some_behind (Some (effects.Nests j)) k ks = refl
some_behind (Some effects.Closes) k ks = refl
some_behind (Some (effects.Turns j)) k ks = refl

some_of : (found : Option (List FrameKind)) → is_some found ≡ true ↔ ((js : List FrameKind) × (found ≡ Some js))
some_of None = (λ e. absurd cc, λ (js, e). absurd cc)
some_of (Some is) = (λ e. (is, refl), λ h. refl)

-- an operator fits in a frame exactly where there are frames behind it
pub fits_after : (o : Op) (k : FrameKind) (ks : List FrameKind) → IsTrue (fits o (Some k)) ↔ ((js : List FrameKind) × (after o (k ∷ ks) ≡ Some js))
fits_after o k ks =
    let same = some_behind (does o k) k ks in
    let some = some_of (after o (k ∷ ks)) in
    (λ t. some.0 (sym same ∙ t), λ h. same ∙ some.1 h)

-- ---- how many frames

clause_no_nest : (i k j : FrameKind) → clause i k ≡ Some (effects.Nests j) → ⊥
clause_no_nest i frames.LegacyTry j e = absurd cc
clause_no_nest i frames.LegacyCatch j e = absurd cc
clause_no_nest i k j e = absurd cc

-- an operator nests a frame only where it opens one
nests_opens : (r : Role) (k j : FrameKind) → effect r k ≡ Some (effects.Nests j) → r ≡ Opens j
nests_opens (Opens i) k j e = cc
nests_opens Plain k j e = absurd cc
nests_opens End k j e = absurd cc
nests_opens Else frames.If j e = absurd cc
nests_opens Else k j e = absurd cc
nests_opens Catch k j e = absurd (clause_no_nest frames.LegacyCatch k j e)
nests_opens CatchAll k j e = absurd (clause_no_nest frames.LegacyCatchAll k j e)
nests_opens Delegate frames.LegacyTry j e = absurd cc
nests_opens Delegate k j e = absurd cc

module _ (o : Op) (js : List FrameKind) where
  abbrev Grows : List FrameKind → Type 0
  Grows ks = (length js ≤ length ks) ⊎ ((j : FrameKind) × (role_of o ≡ Opens j) × (js ≡ j ∷ ks))

  place_grows : (k : FrameKind) (ks : List FrameKind) → Place (does o k) k ks js → Grows (k ∷ ks)
  place_grows k ks (at_close r e) = inl (rw e (omega arith))
  place_grows k ks (at_plain r e) = inl (rw e (omega arith))
  place_grows k ks (at_open j r e) = inr (j, nests_opens (role_of o) k j r, e)
  place_grows k ks (at_turn j r e) = inl (rw e (omega arith))

  -- an operator opens a frame around which all others stay, or leaves no more than there were
  pub after_grows : (ks : List FrameKind) → after o ks ≡ Some js → Grows ks
  after_grows [] e = absurd cc
  after_grows (k ∷ ks) e = place_grows k ks (place_to (does o k) k ks js e)

  grows_by_one : (ks : List FrameKind) → Grows ks → length js ≤ length ks + 1
  grows_by_one ks (inl le) = omega (arith, le)
  grows_by_one ks (inr (j, r, e)) = rw e (omega arith)

  -- one frame more at most
  pub after_bounded : (ks : List FrameKind) → after o ks ≡ Some js → length js ≤ length ks + 1
  after_bounded ks e = grows_by_one ks (after_grows ks e)

  opened_of : (ks : List FrameKind) → Grows ks → length ks < length js → (j : FrameKind) × (role_of o ≡ Opens j) × (js ≡ j ∷ ks)
  opened_of ks (inl le) lt = absurd (omega (arith, le, lt))
  opened_of ks (inr h) lt = h

  -- and where there is one more it was opened
  pub after_opened : (ks : List FrameKind) → after o ks ≡ Some js → length ks < length js → (j : FrameKind) × (role_of o ≡ Opens j) × (js ≡ j ∷ ks)
  after_opened ks e lt = opened_of ks (after_grows ks e) lt

-- ---- one tree

-- what an operator of such an effect is in a tree
data Form : Type 0 where
  closing : Form
  plainly : Form
  opening : Form
  turning : Form

abbrev form : Option Effect → Form
form (Some effects.Stays) = plainly
form (Some (effects.Nests j)) = opening
form (Some (effects.Turns j)) = turning
form e = closing

same_nested : (e : Option Effect) (i j : FrameKind) → e ≡ Some (effects.Nests i) → e ≡ Some (effects.Nests j) → j ≡ i
same_nested e i j f g = cc

same_turned : (e : Option Effect) (i j : FrameKind) → e ≡ Some (effects.Turns i) → e ≡ Some (effects.Turns j) → j ≡ i
same_turned e i j f g = cc

abbrev code_form : Code → Form
code_form (close o) = closing
code_form (plain o more) = plainly
code_form (nested o body more) = opening
code_form (turn o more) = turning

abbrev first : Code → Op
first (close o) = o
first (plain o more) = o
first (nested o body more) = o
first (turn o more) = o

first_form : (k : FrameKind) (c : Code) → IsIn k c → form (does (first c) k) ≡ code_form c
first_form k (close o) i = ap form i
first_form k (plain o more) i = ap form i.0
first_form k (nested o body more) i = ap form i.1
first_form k (turn o more) i = ap form i.1

first_of_walk : (c : Code) (r : List Op) → (os : List Op) × (walk c ++ r ≡ first c ∷ os)
first_of_walk (close o) r = (r, refl)
first_of_walk (plain o more) r = (walk more ++ r, refl)
first_of_walk (nested o body more) r = ((walk body ++ walk more) ++ r, refl)
first_of_walk (turn o more) r = (walk more ++ r, refl)

same_form : (k : FrameKind) (c d : Code) (r s : List Op) → IsIn k c → IsIn k d → walk c ++ r ≡ walk d ++ s → code_form c ≡ code_form d
same_form k c d r s i h e =
    let f = first_of_walk c r in
    let g = first_of_walk d s in
    let same : first d ≡ first c = same_first (first c) (first d) f.0 g.0 (sym f.1 ∙ e ∙ g.1) in
    sym (first_form k c i) ∙ ap (λ (o : Op). form (does o k)) (sym same) ∙ first_form k d h

-- trees for frames of one kind, whose operators begin one list, are the same, and so is what follows
pub one_tree : (k : FrameKind) (c d : Code) (r s : List Op) → IsIn k c → IsIn k d → walk c ++ r ≡ walk d ++ s → (c ≡ d) × (r ≡ s)
one_tree k (close o) (close p) r s i h e =
    (ap close (sym (same_first o p r s e)), same_rest o p r s e)
one_tree k (plain o c) (plain p d) r s i h e =
    let more = one_tree k c d r s i.1 h.1 (same_rest o p (walk c ++ r) (walk d ++ s) e) in
    (rw (same_first o p (walk c ++ r) (walk d ++ s) e, more.0) refl, more.1)
one_tree k (nested o b c) (nested p a d) r s i h e =
    let same = same_first o p ((walk b ++ walk c) ++ r) ((walk a ++ walk d) ++ s) e in
    let rest = sym (append_assoc (walk b) (walk c) r) ∙ same_rest o p ((walk b ++ walk c) ++ r) ((walk a ++ walk d) ++ s) e ∙ append_assoc (walk a) (walk d) s in
    let j = same_nested (does o k) i.0 h.0 i.1 (subst (λ (q : Op). does q k ≡ Some (effects.Nests h.0)) same h.1) in
    let body = one_tree i.0 b a (walk c ++ r) (walk d ++ s) i.2 (subst (λ (j : FrameKind). IsIn j a) j h.2) rest in
    let more = one_tree k c d r s i.3 h.3 body.1 in
    (rw (same, body.0, more.0) refl, more.1)
one_tree k (turn o c) (turn p d) r s i h e =
    let same = same_first o p (walk c ++ r) (walk d ++ s) e in
    let j = same_turned (does o k) i.0 h.0 i.1 (subst (λ (q : Op). does q k ≡ Some (effects.Turns h.0)) same h.1) in
    let more = one_tree i.0 c d r s i.2 (subst (λ (j : FrameKind). IsIn j d) j h.2) (same_rest o p (walk c ++ r) (walk d ++ s) e) in
    (rw (same, more.0) refl, more.1)
one_tree k c d r s i h e = let f = same_form k c d r s i h e in absurd cc
