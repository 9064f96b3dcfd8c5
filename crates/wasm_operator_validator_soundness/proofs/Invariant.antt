-- What holds of each configuration that typed code reaches: each label awaits values of some types, and its instructions are
-- typed over these and the values that are there.
use Rattle.std.proofs.Common.{◌≡◌, ℕ, zero, suc, List, [], ◌∷◌, ◌++◌, map, Option, Some, None, Bool, false, IsTrue, refl, sym, subst, slice_get, slice_set}
use Rattle.wasm_operators_immediates.specs.declared.frames.FrameKind.{FrameKind}
use Rattle.wasm_operators_immediates.specs.declared.frames.FrameKind.TheVariants as frames
use Rattle.wasm_operators_encoding.specs.expressions.Code.{IsIn}
use Rattle.wasm_operator_validator_rules.specs.Operands.{ValueType, Operand, AllBelow, all_known, stack}
use Rattle.wasm_operator_validator_rules.specs.Context.{Context, Initialised, Signature, Frame}
use Rattle.wasm_operator_validator_rules.specs.Typed.{Typed}
use Rattle.wasm_operator_validator_soundness.specs.Values.{Value, Fits, AllFit}
use Rattle.wasm_operator_validator_soundness.specs.States.{Continuation, behind, again, Handlers, no_handlers, exits, clauses, Label, Configuration, branch_type, is_clause, context_in}
use Rattle.wasm_operator_validator_soundness.specs.States.{Outcome, next, returned, replaced, trapped, stuck, Reduction}
use Rattle.wasm_operator_validator_soundness.specs.Soundness.{LocalFits, LocalsFit, EndsWell}

pub none_is_some : {A : Type 0} (x : A) → None ≡ Some x → ⊥
none_is_some x e = absurd cc

pub some_same : {A : Type 0} (x y : A) → Some x ≡ Some y → x ≡ y
some_same x y e = cc

-- ---- locals

abbrev pub AreSet : Initialised → List (Option Value) → Type 0
AreSet set locals = (x : ℕ) → IsTrue (set x) → (v : Value) × (slice_get locals x ≡ Some (Some v))

pub local_fits : (locals : List (Option Value)) (types : List ValueType) (x : ℕ) (v : Value) (t : ValueType)
    → LocalsFit locals types → slice_get locals x ≡ Some (Some v) → slice_get types x ≡ Some t → Fits v t
local_fits [] [] x v t f e h = absurd (none_is_some (Some v) e)
local_fits [] (u ∷ us) x v t f e h = absurd f
local_fits (o ∷ os) [] x v t f e h = absurd f
local_fits (o ∷ os) (u ∷ us) zero v t f e h = subst (λ (w : ValueType). Fits v w) (some_same u t h) (subst (λ (p : Option Value). LocalFits p u) (some_same o (Some v) e) f.0)
local_fits (o ∷ os) (u ∷ us) (suc x) v t f e h = local_fits os us x v t f.1 e h

pub local_written : (locals : List (Option Value)) (types : List ValueType) (x : ℕ) (v : Value) (t : ValueType)
    → LocalsFit locals types → slice_get types x ≡ Some t → Fits v t → LocalsFit (slice_set locals x (Some v)) types
local_written [] [] x v t f e h = tt
local_written [] (u ∷ us) x v t f e h = absurd f
local_written (o ∷ os) [] x v t f e h = absurd f
local_written (o ∷ os) (u ∷ us) zero v t f e h = (subst (λ (w : ValueType). Fits v w) (sym (some_same u t e)) h, f.1)
local_written (o ∷ os) (u ∷ us) (suc x) v t f e h = (f.0, local_written os us x v t f.1 e h)

still_set : (locals : List (Option Value)) (x y : ℕ) (v w : Value) → slice_get locals y ≡ Some (Some w)
    → (u : Value) × (slice_get (slice_set locals x (Some v)) y ≡ Some (Some u))
still_set [] x y v w e = absurd (none_is_some (Some w) e)
still_set (o ∷ os) zero zero v w e = (v, refl)
still_set (o ∷ os) zero (suc y) v w e = (w, e)
still_set (o ∷ os) (suc x) zero v w e = (w, e)
still_set (o ∷ os) (suc x) (suc y) v w e = still_set os x y v w e

pub are_still_set : (locals : List (Option Value)) (x : ℕ) (v : Value) (set : Initialised) → AreSet set locals → AreSet set (slice_set locals x (Some v))
are_still_set locals x v set s y i = let r = s y i in still_set locals x y v r.0 r.1

pub now_set : (locals : List (Option Value)) (types : List ValueType) (x : ℕ) (v : Value) (t : ValueType)
    → LocalsFit locals types → slice_get types x ≡ Some t → slice_get (slice_set locals x (Some v)) x ≡ Some (Some v)
now_set [] [] x v t f e = absurd (none_is_some t e)
now_set [] (u ∷ us) x v t f e = absurd f
now_set (o ∷ os) [] x v t f e = absurd f
now_set (o ∷ os) (u ∷ us) zero v t f e = refl
now_set (o ∷ os) (u ∷ us) (suc x) v t f e = now_set os us x v t f.1 e

-- ---- the invariant

abbrev pub frame_of : FrameKind → Signature → Initialised → Frame
frame_of kind b before = record { kind = kind; block = b; before = before }

module _ (g : Context) where
  abbrev pub at : List (List ValueType) → List Bool → Context
  at labels catches = record g { labels = labels; catches = catches }

  -- a loop's instructions are typed from its parameters
  abbrev pub LoopsBack : List (Option Value) → Continuation → Signature → Bool → List Label → Type 0
  LoopsBack locals behind b c ls = Unit {0}
  LoopsBack locals (again body) b c ls = (kind : FrameKind) × (before set : Initialised) × AreSet set locals × IsIn kind body
      × Typed (at (b.params ∷ map branch_type ls) (c ∷ map is_clause ls)) (frame_of kind b before) set body (stack b.params)

  -- the clauses of an older `try` are those of typed code
  abbrev pub HandlersFit : List (Option Value) → Handlers → Signature → List Label → Type 0
  HandlersFit locals no_handlers b ls = Unit {0}
  HandlersFit locals (exits ns) b ls = Unit {0}
  HandlersFit locals (clauses c) b ls = (before set : Initialised) × (s : List Operand) × AreSet before locals × IsIn frames.LegacyTry c
      × Typed (at (b.results ∷ map branch_type ls) (false ∷ map is_clause ls)) (frame_of frames.LegacyTry b before) set c s

  -- a label, with these around it, awaits values for these operands
  pub record Awaits (locals : List (Option Value)) (l : Label) (ls : List Label) (given : List Operand) : Type 0 where
    pub kind : FrameKind
    pub before : Initialised
    pub set : Initialised
    pub are_set : AreSet set locals
    pub operands : List Operand
    pub fit : AllFit l.values operands
    pub inside : IsIn kind l.code
    pub typed : Typed (context_in g (l ∷ ls)) (frame_of kind l.block before) set l.code (given ++ operands)
    pub loops : LoopsBack locals l.continuation l.block l.clause ls
    pub handlers : HandlersFit locals l.handlers l.block ls

  -- each awaits what the one within it gives, and the caller what the function does
  abbrev pub LabelsAwait : List (Option Value) → List Label → List Operand → Type 0
  LabelsAwait locals [] given = (vs : List Value) → AllFit vs given → AllFit vs (stack g.results)
  LabelsAwait locals (l ∷ ls) given = Awaits locals l ls given × LabelsAwait locals ls (stack l.block.results)

  pub record IsFine (k : Configuration) : Type 0 where
    pub locals : LocalsFit k.locals g.locals
    pub labels : LabelsAwait k.locals (k.innermost ∷ k.around) []

  abbrev pub IsGood : Outcome → Type 0
  IsGood (next k) = IsFine k
  IsGood (returned vs) = AllFit vs (stack g.results)
  IsGood (replaced b vs) = AllFit vs (stack b.params) × AllBelow (all_known b.results) (all_known g.results)
  IsGood trapped = Unit {0}
  IsGood stuck = ⊥

  pub good_ends_well : (o : Outcome) → IsGood o → EndsWell g o
  good_ends_well (next k) i = tt
  good_ends_well (returned vs) i = i
  good_ends_well (replaced b vs) i = i
  good_ends_well trapped i = tt
  good_ends_well stuck i = i

  -- a reduction whose answer fits has what it asks for, and leads to such a configuration or ends well
  abbrev pub IsOkay : Reduction → Type 0
  IsOkay r = r.answered → r.asked × IsGood r.outcome

  -- ---- a local that is written leaves all labels as they are

  module _ (locals : List (Option Value)) (x : ℕ) (v : Value) where
    abbrev now : List (Option Value)
    now = slice_set locals x (Some v)

    pub loops_still : (c : Continuation) (b : Signature) (m : Bool) (ls : List Label) → LoopsBack locals c b m ls → LoopsBack (slice_set locals x (Some v)) c b m ls
    loops_still behind b m ls t = tt
    loops_still (again body) b m ls t = (t.0, t.1, t.2, are_still_set locals x v t.2 t.3, t.4, t.5)

    pub handlers_still : (h : Handlers) (b : Signature) (ls : List Label) → HandlersFit locals h b ls → HandlersFit (slice_set locals x (Some v)) h b ls
    handlers_still no_handlers b ls t = tt
    handlers_still (exits ns) b ls t = tt
    handlers_still (clauses c) b ls t = (t.0, t.1, t.2, are_still_set locals x v t.0 t.3, t.4, t.5)

    pub still_await : (ls : List Label) (given : List Operand) → LabelsAwait locals ls given → LabelsAwait (slice_set locals x (Some v)) ls given
    still_await [] given w = w
    still_await (l ∷ ls) given w = (
      record {
        kind = w.0.kind;
        before = w.0.before;
        set = w.0.set;
        are_set = are_still_set locals x v w.0.set w.0.are_set;
        operands = w.0.operands;
        fit = w.0.fit;
        inside = w.0.inside;
        typed = w.0.typed;
        loops = loops_still l.continuation l.block l.clause ls w.0.loops;
        handlers = handlers_still l.handlers l.block ls w.0.handlers;
      },
      still_await ls (stack l.block.results) w.1,
    )
