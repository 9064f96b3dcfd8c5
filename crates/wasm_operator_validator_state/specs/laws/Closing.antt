-- What an operator does in a frame, by its role.
use Rattle.std.proofs.Common.{◌≡◌, ◌↔◌, ◌∙◌, List, [], ◌∷◌, ◌++◌, Option, Some, refl, sym, ap, subst}
use Rattle.wasm_operators_immediates.specs.declared.frames.FrameKind.{FrameKind}
use Rattle.wasm_operators_immediates.specs.declared.frames.FrameKind.TheVariants as frames
use Rattle.wasm_operators_enums.specs.declared.control.ControlOperator.TheVariants as control
use Rattle.wasm_operators_enums.specs.Op as op
use Rattle.wasm_operators_enums.specs.Op.{Op}
use Rattle.wasm_operators_enums.specs.declared.role.Role.{Role}
use Rattle.wasm_operators_enums.specs.declared.role.Role.TheVariants as role
use Rattle.wasm_operators_enums.specs.declared.role.Effect.{Effect}
use Rattle.wasm_operators_enums.specs.declared.role.Effect.TheVariants as effects
use Rattle.wasm_operators_enums.specs.Roles.{role_of, effect}
use Rattle.wasm_operators_encoding.specs.expressions.Code.{Code, close, plain, nested, turn, walk, IsIn}
use Rattle.wasm_operator_validator_rules.specs.Operands.{ValueType, Operand, AllBelow, stack}
use Rattle.wasm_operator_validator_state.specs.laws.Operands.{all_below_trans}
use Rattle.wasm_operator_validator_rules.specs.Context.{Context, Initialised, Signature, Frame, inside, label_of}
use Rattle.wasm_operator_validator_rules.specs.Row.{after}
use Rattle.wasm_operator_validator_rules.specs.Typed.{Steps, OpensFrame, entry_of, MayClose, Turns, other_part, in_part, Typed}
use Rattle.wasm_operator_validator_state.specs.State.{InFrame}

-- code that takes operands takes those below them
pub typed_below : (g : Context) (f : Frame) (set : Initialised) (c : Code) (s t : List Operand) → AllBelow s t → Typed g f set c t → Typed g f set c s
typed_below g f set (close o) s t b (y, z, w) = (all_below_trans s t _ b y, z, w)
typed_below g f set (plain o more) s t b (m, (popped, pushed, rest, row, c, e), y) = (m, (popped, pushed, rest, row, all_below_trans _ _ _ b c, e), y)
typed_below g f set (nested o body more) s t b (k, bl, rest, p, c, y, z) = (k, bl, rest, p, all_below_trans _ _ _ b c, y, z)
typed_below g f set (turn o more) s t b (ts, u, y, z) = (ts, u, all_below_trans s t _ b y, z)

abbrev pub Next : Type 1
Next = List Op → Type 0

-- the effect of an operator that is known by its role
role_is : (o q : Op) (r : Role) → role_of o ≡ r → q ≡ o → role_of q ≡ r
role_is o q r e h = ap role_of h ∙ e

effect_is : (o q : Op) (k : FrameKind) (r : Role) (e : Option Effect) → role_of o ≡ r → effect (role_of q) k ≡ e → q ≡ o → effect r k ≡ e
effect_is o q k r e p i h = sym (ap (λ (x : Role). effect x k) (role_is o q r p h)) ∙ i

-- ---- an operator that neither opens nor ends a frame

abbrev pub AfterPlain : Context → Initialised → Op → List Operand → (Initialised → List Operand → Type 0) → Type 0
AfterPlain g set o s Left = (m : List Operand) × Steps g set o s m × Left (after o set) m

pub in_plain : (g : Context) (f : Frame) (set : Initialised) (s : List Operand) (o : Op) (os : List Op) (K : Next) → role_of o ≡ role.Plain
    → InFrame g f set s (o ∷ os) K ↔ AfterPlain g set o s (λ l m. InFrame g f l m os K)
in_plain g f set s o os K p = (ahead, back)
  where
    ahead : InFrame g f set s (o ∷ os) K → AfterPlain g set o s (λ l m. InFrame g f l m os K)
    ahead (close q, rest, i, e, y, k) = let x : ◌≡◌ {A = Option Effect} (Some effects.Stays) (Some effects.Closes) = effect_is o q f.kind role.Plain _ p i cc in cc
    ahead (plain q more, rest, i, e, (m, st, y), k) =
        let h : q ≡ o = cc in
        (m, subst (λ (x : Op). Steps g set x s m) h st, (more, rest, i.1, cc, subst (λ (x : Op). Typed g f (after x set) more m) h y, k))
    ahead (nested q body more, rest, (j, i, w, v), e, y, k) =
        let x : ◌≡◌ {A = Option Effect} (Some effects.Stays) (Some (effects.Nests j)) = effect_is o q f.kind role.Plain _ p i cc in cc
    ahead (turn q more, rest, (j, i, w), e, y, k) =
        let x : ◌≡◌ {A = Option Effect} (Some effects.Stays) (Some (effects.Turns j)) = effect_is o q f.kind role.Plain _ p i cc in cc

    back : AfterPlain g set o s (λ l m. InFrame g f l m os K) → InFrame g f set s (o ∷ os) K
    back (m, st, (c, rest, i, e, y, k)) = (plain o c, rest, (ap (λ (x : Role). effect x f.kind) p, i), ap (λ (xs : List Op). o ∷ xs) e, (m, st, y), k)

-- ---- one that opens a frame

abbrev pub opened_frame : FrameKind → Signature → Initialised → Frame
opened_frame k b set = record { kind = k; block = b; before = set }

abbrev pub AfterOpen : Context → Initialised → Op → FrameKind → List Operand → List Op → (Signature → List Operand → Next) → Type 0
AfterOpen g set o k s os More =
    (b : Signature) × (rest : List Operand) × OpensFrame g o k b × AllBelow s (stack (entry_of k b) ++ rest)
    × InFrame (inside k (label_of k b) g) (opened_frame k b set) set (stack b.params) os (More b (stack b.results ++ rest))

append_assoc : (xs ys zs : List Op) → (xs ++ ys) ++ zs ≡ xs ++ (ys ++ zs)
append_assoc [] ys zs = refl
append_assoc (x ∷ xs) ys zs = ap (λ (l : List Op). x ∷ l) (append_assoc xs ys zs)

pub in_open : (g : Context) (f : Frame) (set : Initialised) (s : List Operand) (o : Op) (k : FrameKind) (os : List Op) (K : Next) → role_of o ≡ role.Opens k
    → InFrame g f set s (o ∷ os) K ↔ AfterOpen g set o k s os (λ b m later. InFrame g f set m later K)
in_open g f set s o k os K p = (ahead, back)
  where
    ahead : InFrame g f set s (o ∷ os) K → AfterOpen g set o k s os (λ b m later. InFrame g f set m later K)
    ahead (close q, rest, i, e, y, n) =
        let x : ◌≡◌ {A = Option Effect} (Some (effects.Nests k)) (Some effects.Closes) = effect_is o q f.kind (role.Opens k) _ p i cc in cc
    ahead (plain q more, rest, i, e, y, n) =
        let x : ◌≡◌ {A = Option Effect} (Some (effects.Nests k)) (Some effects.Stays) = effect_is o q f.kind (role.Opens k) _ p i.0 cc in cc
    ahead (nested q body more, rest, (j, i, w, v), e, (l, b, under, (r, t, asked), c, y, z), n) =
        let h : q ≡ o = cc in
        let a : ◌≡◌ {A = Option Effect} (Some (effects.Nests k)) (Some (effects.Nests j)) = effect_is o q f.kind (role.Opens k) _ p i h in
        let a' : j ≡ k = cc in
        let d : role.Opens k ≡ role.Opens l = sym (role_is o q _ p h) ∙ r in
        let d' : l ≡ k = cc in
        let u : os ≡ walk body ++ (walk more ++ rest) = (let x : os ≡ (walk body ++ walk more) ++ rest = cc in x ∙ append_assoc (walk body) (walk more) rest) in (
          b,
          under,
          subst (λ (x : Op). OpensFrame g x k b) h (r ∙ ap role.Opens d', t, asked),
          subst (λ (x : FrameKind). AllBelow s (stack (entry_of x b) ++ under)) d' c,
          (
            body,
            walk more ++ rest,
            subst (λ (x : FrameKind). IsIn x body) a' w,
            u,
            subst (λ (x : FrameKind). Typed (inside x (label_of x b) g) (opened_frame x b set) set body (stack b.params)) d' y,
            (more, rest, v, refl, z, n),
          ),
        )
    ahead (turn q more, rest, (j, i, w), e, y, n) =
        let x : ◌≡◌ {A = Option Effect} (Some (effects.Nests k)) (Some (effects.Turns j)) = effect_is o q f.kind (role.Opens k) _ p i cc in cc

    back : AfterOpen g set o k s os (λ b m later. InFrame g f set m later K) → InFrame g f set s (o ∷ os) K
    back (b, under, op, c, (body, later, w, u, y, (more, rest, v, e, z, n))) = (
      nested o body more,
      rest,
      (k, ap (λ (x : Role). effect x f.kind) p, w, v),
      ap (λ (xs : List Op). o ∷ xs) (u ∙ ap (λ (xs : List Op). walk body ++ xs) e ∙ sym (append_assoc (walk body) (walk more) rest)),
      (k, b, under, op, c, y, z),
      n,
    )

-- ---- the end

abbrev pub end : Op
end = op.Control control.End

abbrev pub else : Op
else = op.Control control.Else

pub in_end : (g : Context) (f : Frame) (set : Initialised) (s : List Operand) (os : List Op) (K : Next)
    → InFrame g f set s (end ∷ os) K ↔ (AllBelow s (stack f.block.results) × MayClose f.kind f.block × K os)
in_end g f set s os K = (ahead, λ (b, m, k). (close end, os, refl, refl, (b, m, tt), k))
  where
    ahead : InFrame g f set s (end ∷ os) K → AllBelow s (stack f.block.results) × MayClose f.kind f.block × K os
    ahead (close q, rest, i, e, (b, m, asked), k) = let h : rest ≡ os = cc in (b, m, subst K h k)
    ahead (plain q more, rest, i, e, y, k) =
        let x : ◌≡◌ {A = Option Effect} (Some effects.Closes) (Some effects.Stays) = effect_is end q f.kind role.End _ refl i.0 cc in cc
    ahead (nested q body more, rest, (j, i, w, v), e, y, k) =
        let x : ◌≡◌ {A = Option Effect} (Some effects.Closes) (Some (effects.Nests j)) = effect_is end q f.kind role.End _ refl i cc in cc
    ahead (turn q more, rest, (j, i, w), e, y, k) =
        let x : ◌≡◌ {A = Option Effect} (Some effects.Closes) (Some (effects.Turns j)) = effect_is end q f.kind role.End _ refl i cc in cc

-- ---- else

else_turns : (k : FrameKind) (e : Effect) → effect role.Else k ≡ Some e → (k ≡ frames.If) × (e ≡ effects.Turns frames.Else)
else_turns frames.Block e h = cc
else_turns frames.If e h = (refl, cc)
else_turns frames.Else e h = cc
else_turns frames.Loop e h = cc
else_turns frames.TryTable e h = cc
else_turns frames.LegacyTry e h = cc
else_turns frames.LegacyCatch e h = cc
else_turns frames.LegacyCatchAll e h = cc

pub in_else : (g : Context) (f : Frame) (set : Initialised) (s : List Operand) (os : List Op) (K : Next)
    → InFrame g f set s (else ∷ os) K ↔ ((f.kind ≡ frames.If) × AllBelow s (stack f.block.results) × InFrame g (other_part else f) f.before (stack f.block.params) os K)
in_else g f set s os K = (ahead, back)
  where
    ahead : InFrame g f set s (else ∷ os) K → (f.kind ≡ frames.If) × AllBelow s (stack f.block.results) × InFrame g (other_part else f) f.before (stack f.block.params) os K
    ahead (close q, rest, i, e, y, k) =
        let x : effects.Closes ≡ effects.Turns frames.Else = (else_turns f.kind _ (effect_is else q f.kind role.Else _ refl i cc)).1 in cc
    ahead (plain q more, rest, i, e, y, k) =
        let x : effects.Stays ≡ effects.Turns frames.Else = (else_turns f.kind _ (effect_is else q f.kind role.Else _ refl i.0 cc)).1 in cc
    ahead (nested q body more, rest, (j, i, w, v), e, y, k) =
        let x : effects.Nests j ≡ effects.Turns frames.Else = (else_turns f.kind _ (effect_is else q f.kind role.Else _ refl i cc)).1 in cc
    ahead (turn q more, rest, (j, i, w), e, (ts, begins, b, y), k) =
        let t = else_turns f.kind _ (effect_is else q f.kind role.Else _ refl i cc) in
        let u : j ≡ frames.Else = let x = t.1 in cc in
        let h : q ≡ else = cc in
        let v : ts ≡ f.block.params = subst (λ (x : Op). Turns g f.block x ts) h begins in
        let y' = subst (λ (x : Op). Typed (in_part x g) (other_part x f) f.before more (stack ts)) h y in
        let y'' = subst (λ (us : List ValueType). Typed g (other_part else f) f.before more (stack us)) v y' in
        (t.0, b, (more, rest, subst (λ (x : FrameKind). IsIn x more) u w, cc, y'', k))

    back : (f.kind ≡ frames.If) × AllBelow s (stack f.block.results) × InFrame g (other_part else f) f.before (stack f.block.params) os K → InFrame g f set s (else ∷ os) K
    back (h, b, (c, rest, i, e, y, k)) =
        (turn else c, rest, (frames.Else, ap (effect role.Else) h, i), ap (λ (xs : List Op). else ∷ xs) e, (f.block.params, refl, b, y), k)

-- ---- beside operators

pub in_below : (g : Context) (f : Frame) (set : Initialised) (s t : List Operand) (os : List Op) (K : Next) → AllBelow s t → InFrame g f set t os K → InFrame g f set s os K
in_below g f set s t os K b (c, rest, i, e, y, k) = (c, rest, i, e, typed_below g f set c s t b y, k)

-- what goes on may be said otherwise
pub in_next : (g : Context) (f : Frame) (set : Initialised) (s : List Operand) (os : List Op) (K Q : Next) → ((rest : List Op) → K rest → Q rest) → InFrame g f set s os K → InFrame g f set s os Q
in_next g f set s os K Q q (c, rest, i, e, y, k) = (c, rest, i, e, y, q rest k)

-- code has at least what ends it
pub in_nothing : (g : Context) (f : Frame) (set : Initialised) (s : List Operand) (K : Next) → InFrame g f set s [] K → ⊥
in_nothing g f set s K (close q, rest, i, e, y, k) = cc
in_nothing g f set s K (plain q more, rest, i, e, y, k) = cc
in_nothing g f set s K (nested q body more, rest, i, e, y, k) = cc
in_nothing g f set s K (turn q more, rest, i, e, y, k) = cc
