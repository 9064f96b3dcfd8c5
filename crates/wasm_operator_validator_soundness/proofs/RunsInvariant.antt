-- What is shown of each step, and what stays of a state where a local is written.
use Rattle.std.proofs.Common.{◌≡◌, ℕ, zero, suc, List, [], ◌∷◌, Option, Some, None, refl, sym, ap, subst, slice_get, slice_set, unwrap_or, map}
use Rattle.wasm_operator_validator_rules.specs.Operands.{ValueType, Operand, stack}
use Rattle.wasm_operator_validator_rules.specs.Context.{Context, Initialised, Signature}
use Rattle.wasm_operator_validator_soundness.specs.runs.Notes.{Notes, Stride, stride, IsAlong}
use Rattle.wasm_operator_validator_soundness.specs.runs.Values.{Program, Value, Fits}
use Rattle.wasm_operator_validator_soundness.specs.runs.ValidStates.{AreSet, LocalFits, LocalsFit, Around, LoopsBack, HandlersFit, LabelsAwait, IsValidOutcomeBy}
use Rattle.wasm_operator_validator_soundness.specs.runs.States.{Continuation, behind, again, Handlers, no_handlers, table, clauses, Label, Activation, Answer, branch_type, is_clause}
use Rattle.wasm_operator_validator_soundness.specs.runs.States.{Move}

IsNothing : {A : Type 0} → Option A → Type 0
IsNothing None = Unit {0}
IsNothing (Some y) = ⊥

pub none_is_some : {A : Type 0} (x : A) → None ≡ Some x → ⊥
unfolding IsNothing
none_is_some {A} x e = subst (λ (o : Option A). IsNothing o) e tt

pub some_same : {A : Type 0} (x y : A) → Some x ≡ Some y → x ≡ y
some_same x y e = ap (λ o. unwrap_or o x) e

-- What a step asks holds, and what comes of it is good, where the answer is accepted. It is a record, so that what a step is put
-- together of can be found from its type.
pub record IsOkay (N : Notes) (p : Program) (final : List ValueType) (m : Move) : Type 0 where
  pub okay : m.is_answer → m.needs × IsValidOutcomeBy N p final m.outcome

-- one stride further
pub further : (N : Notes) (root n : N.Note) (m : Stride) → IsAlong N root n → IsAlong N root (stride N m n)
further N root n m k = (m ∷ k.0, ap (stride N m) k.1)

-- what the rules know at the innermost instructions
abbrev pub here : Program → Answer → Activation → List Activation → Context
here p a act acts = record {
  bits = p.bits;
  «module» = p.«module»;
  locals = act.types;
  labels = map branch_type (act.innermost ∷ act.around);
  catches = map is_clause (act.innermost ∷ act.around);
  results = act.results;
  shared = act.shared;
}

-- ---- a local that is written

module _ (p : Program) where
  pub local_fits : (locals : List (Option Value)) (types : List ValueType) (x : ℕ) (v : Value) (t : ValueType)
      → LocalsFit p locals types → slice_get locals x ≡ Some (Some v) → slice_get types x ≡ Some t → Fits p v t
  local_fits [] [] x v t f e h = absurd (none_is_some (Some v) e)
  local_fits [] (u ∷ us) x v t f e h = absurd f
  local_fits (o ∷ os) [] x v t f e h = absurd f
  local_fits (o ∷ os) (u ∷ us) zero v t f e h = subst (λ (w : ValueType). Fits p v w) (some_same u t h) (subst (λ (q : Option Value). LocalFits p q u) (some_same o (Some v) e) f.0)
  local_fits (o ∷ os) (u ∷ us) (suc x) v t f e h = local_fits os us x v t f.1 e h

  pub local_written : (locals : List (Option Value)) (types : List ValueType) (x : ℕ) (v : Value) (t : ValueType)
      → LocalsFit p locals types → slice_get types x ≡ Some t → Fits p v t → LocalsFit p (slice_set locals x (Some v)) types
  local_written [] [] x v t f e h = tt
  local_written [] (u ∷ us) x v t f e h = absurd f
  local_written (o ∷ os) [] x v t f e h = absurd f
  local_written (o ∷ os) (u ∷ us) zero v t f e h = (subst (λ (w : ValueType). Fits p v w) (sym (some_same u t e)) h, f.1)
  local_written (o ∷ os) (u ∷ us) (suc x) v t f e h = (f.0, local_written os us x v t f.1 e h)

  pub now_set : (locals : List (Option Value)) (types : List ValueType) (x : ℕ) (v : Value) (t : ValueType)
      → LocalsFit p locals types → slice_get types x ≡ Some t → slice_get (slice_set locals x (Some v)) x ≡ Some (Some v)
  now_set [] [] x v t f e = absurd (none_is_some t e)
  now_set [] (u ∷ us) x v t f e = absurd f
  now_set (o ∷ os) [] x v t f e = absurd f
  now_set (o ∷ os) (u ∷ us) zero v t f e = refl
  now_set (o ∷ os) (u ∷ us) (suc x) v t f e = now_set os us x v t f.1 e

still_set : (locals : List (Option Value)) (x y : ℕ) (v w : Value) → slice_get locals y ≡ Some (Some w)
    → (u : Value) × (slice_get (slice_set locals x (Some v)) y ≡ Some (Some u))
still_set [] x y v w e = absurd (none_is_some (Some w) e)
still_set (o ∷ os) zero zero v w e = (v, refl)
still_set (o ∷ os) zero (suc y) v w e = (w, e)
still_set (o ∷ os) (suc x) zero v w e = (w, e)
still_set (o ∷ os) (suc x) (suc y) v w e = still_set os x y v w e

pub are_still_set : (locals : List (Option Value)) (x : ℕ) (v : Value) (set : Initialised) → AreSet set locals → AreSet set (slice_set locals x (Some v))
are_still_set locals x v set s y i = let r = s y i in still_set locals x y v r.0 r.1

module _ (N : Notes) (p : Program) (w : Around) (locals : List (Option Value)) (x : ℕ) (v : Value) where
  abbrev now : List (Option Value)
  now = slice_set locals x (Some v)

  pub loops_still : (root : N.Note) (c : Continuation) (b : Signature) (ls : List Label) → LoopsBack N p w locals root c b ls → LoopsBack N p w (slice_set locals x (Some v)) root c b ls
  loops_still root behind b ls t = tt
  loops_still root (again body) b ls t = (t.0, t.1, t.2, t.3, are_still_set locals x v t.3 t.4, t.5)

  pub handlers_still : (root : N.Note) (h : Handlers) (b : Signature) (ls : List Label) → HandlersFit N p w locals root h b ls → HandlersFit N p w (slice_set locals x (Some v)) root h b ls
  handlers_still root no_handlers b ls t = tt
  handlers_still root (table cs) b ls t = t
  handlers_still root (clauses c) b ls t = (t.0, t.1, are_still_set locals x v t.0 t.2, t.3, t.4, t.5)

  pub still_await : (owed : List ValueType) (ls : List Label) (given : List Operand) (inner : Option N.Note) → LabelsAwait N p w locals owed ls given inner
      → LabelsAwait N p w (slice_set locals x (Some v)) owed ls given inner
  still_await owed [] given inner k = k
  still_await owed (l ∷ ls) given inner k = (
    record {
      root = k.0.root;
      place = k.0.place;
      along = k.0.along;
      around = k.0.around;
      kind = k.0.kind;
      inside = k.0.inside;
      before = k.0.before;
      set = k.0.set;
      are_set = are_still_set locals x v k.0.set k.0.are_set;
      operands = k.0.operands;
      fit = k.0.fit;
      typed = k.0.typed;
      loops = loops_still k.0.root l.continuation l.block ls k.0.loops;
      handlers = handlers_still k.0.root l.handlers l.block ls k.0.handlers;
      caught = k.0.caught;
    },
    still_await owed ls (stack l.block.results) (Some k.0.root) k.1,
  )
