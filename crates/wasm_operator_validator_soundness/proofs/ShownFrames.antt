-- Frames that stay, and what is left of them after their end.
use Rattle.std.proofs.Common.{◌≡◌, ◌↔◌, ◌∙◌, ℕ, List, [], ◌∷◌, ◌++◌, Bool, true, false, Option, Some, None, ◌⊎◌, inl, inr, refl, sym, ap, subst, map}
use Rattle.wasm_operators_immediates.specs.declared.block.BlockType.{BlockType}
use Rattle.wasm_operators_immediates.specs.declared.frames.FrameKind.{FrameKind}
use Rattle.wasm_operators_immediates.specs.declared.frames.FrameKind.TheVariants as frames
use Rattle.wasm_operators_enums.specs.Op.{Op}
use Rattle.wasm_operators_enums.specs.declared.role.Effect.{Effect}
use Rattle.wasm_operators_enums.specs.declared.role.Effect.TheVariants as effects
use Rattle.wasm_operators_enums.specs.Roles.{role_of, effect}
use Rattle.wasm_operators_encoding.specs.expressions.Code.{Code, close, plain, nested, turn, IsIn}
use Rattle.wasm_operator_validator_rules.specs.Operands.{ValueType, Operand, bottom, known, AllBelow, stack}
use Rattle.wasm_operator_validator_rules.specs.Context.{Context, Initialised, Signature, Frame, label_of, inside, is_catch}
use Rattle.wasm_operator_validator_state.specs.resources.Meaning.{Meaning, type_in}
use Rattle.wasm_operator_validator_state.specs.declared.operand.MaybeType.{MaybeType}
use Rattle.wasm_operator_validator_state.specs.declared.operand.MaybeType.TheVariants as maybe
use Rattle.wasm_operator_validator_state.specs.State.{Given, Open, State, Covers, signature_of, initialised, results, context}
use Rattle.wasm_operator_validator_state.specs.Steps.{StacksOf, Stacks, SameFrames, begun}
use Rattle.wasm_operator_validator_state.specs.laws.Operands.{operand_refl, all_below_refl}
use Rattle.wasm_operator_validator_state.specs.laws.Frames.{context_by}
use Rattle.wasm_operator_validator_soundness.specs.shown.Leading.{PutOn, Leads, LeadsBy, LeadsFrom, Walks, Nested, Turned, Closed}
use Rattle.wasm_operator_validator_soundness.specs.shown.Shown.{operand_of, operands_of, AllKnown, IsKnown, operands_in}

-- ---- frames that stay

-- the frame is the same but for its operands
pub record IsLike (p q : Open) : Type 0 where
  pub kind : q.kind ≡ p.kind
  pub block : q.block ≡ p.block
  pub before : q.before ≡ p.before

pub like_trans : (p q r : Open) → IsLike p q → IsLike q r → IsLike p r
like_trans p q r a b = record { kind = b.kind ∙ a.kind; block = b.block ∙ a.block; before = b.before ∙ a.before }

-- the innermost of some frames, and those around it
pub record Innermost (p : Open) (outer : List Open) (os : List Open) : Type 0 where
  pub top : Open
  pub opens : os ≡ top ∷ outer
  pub like : IsLike p top

pub same_innermost : (p : Open) (outer ps : List Open) → SameFrames (p ∷ outer) ps → Innermost p outer ps
same_innermost p outer [] s = absurd s
same_innermost p outer (q ∷ others) s = record {
  top = q;
  opens = ap (λ (x : List Open). q ∷ x) s.3;
  like = record { kind = s.0; block = s.1; before = s.2 };
}

pub innermost : (os ps : List Open) (p : Open) (outer : List Open) → os ≡ p ∷ outer → SameFrames os ps → Innermost p outer ps
innermost os ps p outer e s = same_innermost p outer ps (subst (λ (x : List Open). SameFrames x ps) e s)

same_by : (P : BlockType → List Open → FrameKind → Context) (b c : BlockType) (os : List Open) (k l : FrameKind) → c ≡ b → l ≡ k → P b os k ≡ P c os l
same_by P b c os k l e f = rw (e, f) refl

pub like_context : (m : Meaning) (w : Given) (p q : Open) (outer : List Open) → IsLike p q → context m w (p ∷ outer) ≡ context m w (q ∷ outer)
like_context m w p q outer l = same_by (context_by m w) p.block q.block outer p.kind q.kind l.block l.kind

-- the same frames at the same things given
pub kept_context : (m : Meaning) (w v : Given) (os ps : List Open) (p : Open) (outer : List Open) → os ≡ p ∷ outer → v ≡ w → Innermost p outer ps
    → context m w os ≡ context m v ps
kept_context m w v os ps p outer e g i =
    ap (context m w) e ∙ like_context m w p i.top outer i.like ∙ sym (ap (context m w) i.opens) ∙ sym (ap (λ (x : Given). context m x ps) g)

-- ---- what is shown of operands

pub known_covers : (m : Meaning) (ks : List MaybeType) → AllKnown ks → Covers m false ks (operands_of m ks)
known_covers m [] k = tt
known_covers m (maybe.Known v ∷ ks) k = (operand_refl (known (type_in m v)), known_covers m ks k)
known_covers m (maybe.Bottom ∷ ks) k = absurd k
known_covers m (maybe.UnknownRef a ∷ ks) k = absurd k

pub known_least : (m : Meaning) (ks : List MaybeType) (s : List Operand) → AllKnown ks → Covers m false ks s → AllBelow (operands_of m ks) s
known_least m [] [] k c = tt
known_least m [] (t ∷ s) k c = absurd c
known_least m (maybe.Known v ∷ ks) [] k c = absurd c
known_least m (maybe.Known v ∷ ks) (t ∷ s) k c = (c.0, known_least m ks s k c.1)
known_least m (maybe.Bottom ∷ ks) s k c = absurd k
known_least m (maybe.UnknownRef a ∷ ks) s k c = absurd k

pub known_stacks : (m : Meaning) (os : List Open) → IsKnown os → StacksOf m os (operands_in m os)
known_stacks m [] k = absurd k
known_stacks m (p ∷ outer) k = subst (λ (u : Bool). Covers m u p.operands (operands_of m p.operands)) (sym k.0) (known_covers m p.operands k.1)

known_or_not : (ks : List MaybeType) → AllKnown ks ⊎ (AllKnown ks → ⊥)
known_or_not [] = inl tt
known_or_not (maybe.Known v ∷ ks) = known_or_not ks
known_or_not (maybe.Bottom ∷ ks) = inr (λ k. k)
known_or_not (maybe.UnknownRef a ∷ ks) = inr (λ k. k)

-- a stack below one that operands stand for, and below what is shown of them, if all are shown
pub record IsLowest (m : Meaning) (os : List Open) (s : List Operand) : Type 0 where
  pub operands : List Operand
  pub stands : StacksOf m os operands
  pub below : AllBelow operands s
  pub shown : IsKnown os → AllBelow operands (operands_in m os)

lowest_unknown : (m : Meaning) (os : List Open) (s : List Operand) → StacksOf m os s → (IsKnown os → ⊥) → IsLowest m os s
lowest_unknown m os s c n = record { operands = s; stands = c; below = all_below_refl s; shown = λ k. absurd (n k) }

lowest_known : (m : Meaning) (os : List Open) (s : List Operand) → StacksOf m os s → IsKnown os → IsLowest m os s
lowest_known m [] s c k = absurd k
lowest_known m (p ∷ outer) s c k = record {
  operands = operands_of m p.operands;
  stands = known_stacks m (p ∷ outer) k;
  below = known_least m p.operands s k.1 (subst (λ (u : Bool). Covers m u p.operands s) k.0 c);
  shown = λ j. all_below_refl (operands_of m p.operands);
}

not_both : (b : Bool) → b ≡ true → b ≡ false → ⊥
not_both b e f = let x : true ≡ false = sym e ∙ f in cc

lowest_by : (m : Meaning) (p : Open) (outer : List Open) (s : List Operand) → StacksOf m (p ∷ outer) s → (u : Bool) → p.unreachable ≡ u
    → AllKnown p.operands ⊎ (AllKnown p.operands → ⊥) → IsLowest m (p ∷ outer) s
lowest_by m p outer s c true e k = lowest_unknown m (p ∷ outer) s c (λ j. not_both p.unreachable e j.0)
lowest_by m p outer s c false e (inl k) = lowest_known m (p ∷ outer) s c (e, k)
lowest_by m p outer s c false e (inr n) = lowest_unknown m (p ∷ outer) s c (λ j. n j.1)

pub lowest : (m : Meaning) (os : List Open) (s : List Operand) → StacksOf m os s → IsLowest m os s
lowest m [] s c = absurd c
lowest m (p ∷ outer) s c = lowest_by m p outer s c p.unreachable refl (known_or_not p.operands)

-- ---- what an operator leads to, by its effect

pub led : (m : Meaning) (σ : State) (o : Op) (τ : State) (p : Open) (outer : List Open) (e : Effect) → σ.opens ≡ p ∷ outer
    → effect (role_of o) p.kind ≡ Some e → Leads m σ o τ → LeadsBy m σ o τ p outer (Some e)
led m σ o τ p outer e q i h =
    let by : LeadsFrom m σ o τ (p ∷ outer) = subst (LeadsFrom m σ o τ) q h in
    subst (LeadsBy m σ o τ p outer) i by

-- ---- after the end of a frame

-- the frame was left, and its results are on the one around it
pub record Left (m : Meaning) (w : Given) (p : Open) (outer : List Open) (τ : State) : Type 0 where
  pub given : τ.given ≡ w
  pub inits : τ.inits ≡ p.before
  pub left : PutOn m (stack (results m p)) outer τ.opens

pub like_left : (m : Meaning) (w v : Given) (p q : Open) (outer : List Open) (τ : State) → v ≡ w → IsLike p q → Left m v q outer τ → Left m w p outer τ
like_left m w v p q outer τ g l x = record {
  given = x.given ∙ g;
  inits = x.inits ∙ l.before;
  left = subst (λ (b : BlockType). PutOn m (stack (signature_of m b).results) outer τ.opens) l.block x.left;
}

-- the frames around a frame that was opened, after its end: the innermost of these has the results on it
pub record Around (m : Meaning) (σ : State) (p : Open) (outer : List Open) (xs : List Operand) (below : List Open) (κ : State) : Type 0 where
  pub given : κ.given ≡ σ.given
  pub inits : κ.inits ≡ σ.inits
  pub innermost : Innermost p outer κ.opens
  pub stacks : (n : List Operand) → Stacks m κ n ↔ (rest : List Operand) × StacksOf m below rest × AllBelow (xs ++ rest) n

put_around : (m : Meaning) (xs : List Operand) (p : Open) (outer below os : List Open) → Innermost p outer below → PutOn m xs below os
    → Innermost p outer os × ((n : List Operand) → StacksOf m os n ↔ (rest : List Operand) × StacksOf m below rest × AllBelow (xs ++ rest) n)
put_around m xs p outer below os i put =
    let at : PutOn m xs (i.top ∷ outer) os = subst (λ (x : List Open). PutOn m xs x os) i.opens put in
    let found = same_innermost i.top outer os at.0 in (
      record { top = found.top; opens = found.opens; like = like_trans p i.top found.top i.like found.like },
      subst (λ (x : List Open). (n : List Operand) → StacksOf m os n ↔ (rest : List Operand) × StacksOf m x rest × AllBelow (xs ++ rest) n) (sym i.opens) at.1,
    )

-- what an opener has begun: the frame is the innermost, and the frames around it are those that were, without what was taken off
pub record Begun (m : Meaning) (σ : State) (p : Open) (outer : List Open) (k : FrameKind) (b : BlockType) (ρ : State) (below : List Open) : Type 0 where
  pub inner : Open
  pub opens : ρ.opens ≡ inner ∷ below
  pub like : IsLike (begun k b σ.inits) inner
  pub around : Innermost p outer below

pub begun_in : (m : Meaning) (σ : State) (o : Op) (k : FrameKind) (ρ : State) (p : Open) (outer : List Open) → σ.opens ≡ p ∷ outer → (n : Nested m σ o k ρ)
    → Begun m σ p outer k n.block ρ n.left
begun_in m σ o k ρ p outer e n =
    let i = same_innermost (begun k n.block σ.inits) n.left ρ.opens n.frames in
    record { inner = i.top; opens = i.opens; like = i.like; around = innermost σ.opens n.left p outer e n.around }

pub around_it : (m : Meaning) (σ : State) (o : Op) (k : FrameKind) (ρ κ : State) (p : Open) (outer : List Open) (n : Nested m σ o k ρ)
    → (b : Begun m σ p outer k n.block ρ n.left) → Left m ρ.given b.inner n.left κ
    → Around m σ p outer (stack (signature_of m n.block).results) n.left κ
around_it m σ o k ρ κ p outer n b l =
    let put : PutOn m (stack (signature_of m n.block).results) n.left κ.opens
    = subst (λ (x : BlockType). PutOn m (stack (signature_of m x).results) n.left κ.opens) b.like.block l.left in
    let both = put_around m (stack (signature_of m n.block).results) p outer n.left κ.opens b.around put in
    record {
      given = l.given ∙ n.given;
      inits = l.inits ∙ b.like.before;
      innermost = both.0;
      stacks = both.1;
    }

-- code of a frame leads to its end
pub code_left : (m : Meaning) (c : Code) (σ τ : State) (p : Open) (outer : List Open) → σ.opens ≡ p ∷ outer → IsIn p.kind c → Walks m c σ τ → Left m σ.given p outer τ
code_left m (close o) σ τ p outer e i w =
    let d : Closed m σ o p outer τ = led m σ o τ p outer effects.Closes e i w in
    record { given = d.given; inits = d.inits; left = d.left }
code_left m (plain o more) σ τ p outer e i (ρ, h, w) =
    let d = led m σ o ρ p outer effects.Stays e i.0 h in
    let at = innermost σ.opens ρ.opens p outer e d.frames in
    let k : IsIn at.top.kind more = subst (λ (x : FrameKind). IsIn x more) (sym at.like.kind) i.1 in
    like_left m σ.given ρ.given p at.top outer τ d.given at.like (code_left m more ρ τ at.top outer at.opens k w)
code_left m (nested o body more) σ τ p outer e (j, i, inner, rest) (ρ, κ, h, v, w) =
    let d : Nested m σ o j ρ = led m σ o ρ p outer (effects.Nests j) e i h in
    let b = begun_in m σ o j ρ p outer e d in
    let k : IsIn b.inner.kind body = subst (λ (x : FrameKind). IsIn x body) (sym b.like.kind) inner in
    let l = code_left m body ρ κ b.inner d.left b.opens k v in
    let at = around_it m σ o j ρ κ p outer d b l in
    let k' : IsIn at.innermost.top.kind more = subst (λ (x : FrameKind). IsIn x more) (sym at.innermost.like.kind) rest in
    like_left m σ.given κ.given p at.innermost.top outer τ at.given at.innermost.like (code_left m more κ τ at.innermost.top outer at.innermost.opens k' w)
code_left m (turn o more) σ τ p outer e (j, i, rest) (ρ, h, w) =
    let d : Turned m σ o j p outer ρ = led m σ o ρ p outer (effects.Turns j) e i h in
    let at = same_innermost (begun j p.block p.before) outer ρ.opens d.frames in
    let k : IsIn at.top.kind more = subst (λ (x : FrameKind). IsIn x more) (sym at.like.kind) rest in
    let l = code_left m more ρ τ at.top outer at.opens k w in
    record {
      given = l.given ∙ d.given;
      inits = l.inits ∙ at.like.before;
      left = subst (λ (x : BlockType). PutOn m (stack (signature_of m x).results) outer τ.opens) at.like.block l.left;
    }
