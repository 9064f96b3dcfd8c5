-- Values, branches and exceptions that leave labels.
use Rattle.std.proofs.Common.{◌≡◌, ℕ, zero, suc, List, [], ◌∷◌, ◌++◌, map, Option, Some, None, Bool, true, false, refl, sym, subst, slice_get}
use Rattle.wasm_operators_immediates.specs.declared.frames.FrameKind.{FrameKind}
use Rattle.wasm_operators_immediates.specs.declared.frames.FrameKind.TheVariants as frames
use Rattle.wasm_operators_enums.specs.declared.control.ControlOperator.TheVariants as control
use Rattle.wasm_operators_enums.specs.declared.role.Effect.TheVariants as effects
use Rattle.wasm_operators_enums.specs.Roles.{role_of, effect}
use Rattle.wasm_operators_enums.specs.Op as op
use Rattle.wasm_operators_encoding.specs.expressions.Code.{Code, close, plain, nested, turn, IsIn}
use Rattle.wasm_operator_validator_rules.specs.Operands.{ValueType, Operand, stack}
use Rattle.wasm_operator_validator_rules.specs.Context.{Context, Initialised, Signature}
use Rattle.wasm_operator_validator_rules.specs.Row.{after}
use Rattle.wasm_operator_validator_rules.specs.Typed.{Turns, Typed}
use Rattle.wasm_operator_validator_soundness.specs.Values.{Value, AllFit}
use Rattle.wasm_operator_validator_soundness.specs.States.{Continuation, behind, again, Handlers, no_handlers, exits, clauses, Label, Configuration, all_labels, taken_by, branch_type, is_clause}
use Rattle.wasm_operator_validator_soundness.specs.States.{Way, on, branches, traps, throws, Answer, Reduction}
use Rattle.wasm_operator_validator_soundness.specs.Machine.{Clause, clause_at, come_out, land, jump, goes_to, goes_by, turns_to, caught_by, caught_after, unless_fails, unless_traps}
use Rattle.wasm_operator_validator_soundness.specs.Soundness.{LocalsFit}
use Rattle.wasm_operator_validator_soundness.proofs.Fitting.{fits_joined}
use Rattle.wasm_operator_validator_soundness.proofs.Invariant.{none_is_some, some_same, frame_of, at, LoopsBack, HandlersFit, LabelsAwait, IsGood, IsOkay}

-- ---- the clauses of an older `try` are typed

pub record ClauseTyped (g : Context) (labels : List (List ValueType)) (catches : List Bool) (b : Signature) (before : Initialised) (c : Clause) : Type 0 where
  pub kind : FrameKind
  pub carries : List ValueType
  pub turns : Turns c.context b c.operator carries
  pub inside : IsIn kind c.code
  pub typed : Typed (at g labels (true ∷ catches)) (frame_of kind b before) before c.code (stack carries)

-- a frame whose parts are clauses
abbrev IsTrying : FrameKind → Type 0
IsTrying frames.LegacyTry = Unit {0}
IsTrying frames.LegacyCatch = Unit {0}
IsTrying frames.LegacyCatchAll = Unit {0}
IsTrying k = ⊥

turned_same : (j k : FrameKind) → Some (effects.Turns j) ≡ Some (effects.Turns k) → j ≡ k
turned_same j k e = cc

no_else : (k j : FrameKind) → IsTrying k → effect (role_of (op.Control control.Else)) k ≡ Some (effects.Turns j) → ⊥
no_else frames.LegacyTry j i e = none_is_some (effects.Turns j) e
no_else frames.LegacyCatch j i e = none_is_some (effects.Turns j) e
no_else frames.LegacyCatchAll j i e = none_is_some (effects.Turns j) e
no_else k j i e = absurd i

to_catch : (x : ℕ) (k j : FrameKind) → effect (role_of (op.Exception (op.Catch x))) k ≡ Some (effects.Turns j) → frames.LegacyCatch ≡ j
to_catch x frames.LegacyTry j e = turned_same frames.LegacyCatch j e
to_catch x frames.LegacyCatch j e = turned_same frames.LegacyCatch j e
to_catch x k j e = absurd (none_is_some (effects.Turns j) e)

to_catch_all : (k j : FrameKind) → effect (role_of (op.Exception op.CatchAll)) k ≡ Some (effects.Turns j) → frames.LegacyCatchAll ≡ j
to_catch_all frames.LegacyTry j e = turned_same frames.LegacyCatchAll j e
to_catch_all frames.LegacyCatch j e = turned_same frames.LegacyCatchAll j e
to_catch_all k j e = absurd (none_is_some (effects.Turns j) e)

module _ (g : Context) (labels : List (List ValueType)) (catches : List Bool) (b : Signature) (before : Initialised) where
  abbrev ClauseIs : Clause → Type 0
  ClauseIs c = ClauseTyped g labels catches b before c

  pub clause_typed : (m : Bool) (k : FrameKind) → IsTrying k → (set : Initialised) (c : Code) (s : List Operand) (n : ℕ) (cl : Clause)
      → IsIn k c → Typed (at g labels (m ∷ catches)) (frame_of k b before) set c s → clause_at (at g labels (m ∷ catches)) c n ≡ Some cl → ClauseIs cl
  clause_typed m k i set (close o) s n cl q t e = absurd (none_is_some cl e)
  clause_typed m k i set (plain o more) s n cl q t e = clause_typed m k i (after o set) more t.0 n cl q.1 t.2 e
  clause_typed m k i set (nested o body more) s n cl q t e = clause_typed m k i set more (stack (t.1).results ++ t.2) n cl q.3 t.6 e
  clause_typed m k i set (turn (op.Control control.Else) more) s n cl q t e = absurd (no_else k q.0 i q.1)
  clause_typed m k i set (turn (op.Exception (op.Catch x)) more) s zero cl q t e =
      subst (λ (d : Clause). ClauseIs d) (some_same (record { operator = op.Exception (op.Catch x); context = at g labels (m ∷ catches); code = more }) cl e)
      (record { kind = frames.LegacyCatch; carries = t.0; turns = t.1; inside = subst (λ (j : FrameKind). IsIn j more) (sym (to_catch x k q.0 q.1)) q.2; typed = t.3 })
  clause_typed m k i set (turn (op.Exception op.CatchAll) more) s zero cl q t e =
      subst (λ (d : Clause). ClauseIs d) (some_same (record { operator = op.Exception op.CatchAll; context = at g labels (m ∷ catches); code = more }) cl e)
      (record { kind = frames.LegacyCatchAll; carries = t.0; turns = t.1; inside = subst (λ (j : FrameKind). IsIn j more) (sym (to_catch_all k q.0 q.1)) q.2; typed = t.3 })
  clause_typed m k i set (turn (op.Exception (op.Catch x)) more) s (suc n) cl q t e =
      clause_typed true frames.LegacyCatch tt before more (stack t.0) n cl (subst (λ (j : FrameKind). IsIn j more) (sym (to_catch x k q.0 q.1)) q.2) t.3 e
  clause_typed m k i set (turn (op.Exception op.CatchAll) more) s (suc n) cl q t e =
      clause_typed true frames.LegacyCatchAll tt before more (stack t.0) n cl (subst (λ (j : FrameKind). IsIn j more) (sym (to_catch_all k q.0 q.1)) q.2) t.3 e
  clause_typed m k i set (turn o more) s n cl q t e = absurd t.1

-- ---- leaving labels

module _ (g : Context) (k : Configuration) (locals : LocalsFit k.locals g.locals) where
  abbrev Wait : List Label → List Operand → Type 0
  Wait ls given = LabelsAwait g k.locals ls given

  pub come_out_good : (ls : List Label) (vs : List Value) (given : List Operand) → AllFit vs given → Wait ls given → IsGood g (come_out k ls vs)
  come_out_good [] vs given f w = w vs f
  come_out_good (l ∷ ls) vs given f w = record {
    locals = locals;
    labels = (
      record {
        kind = w.0.kind;
        before = w.0.before;
        set = w.0.set;
        are_set = w.0.are_set;
        operands = given ++ w.0.operands;
        fit = fits_joined vs l.values given w.0.operands f w.0.fit;
        inside = w.0.inside;
        typed = w.0.typed;
        loops = w.0.loops;
        handlers = w.0.handlers;
      },
      w.1,
    );
  }

  land_good : (c : Continuation) (l : Label) (ls : List Label) (vs : List Value) → l.continuation ≡ c → AllFit vs (stack (taken_by c l.block))
      → LoopsBack g k.locals c l.block l.clause ls → HandlersFit g k.locals l.handlers l.block ls → Wait ls (stack l.block.results) → IsGood g (land k c l ls vs)
  land_good behind l ls vs e f t h w = come_out_good ls vs (stack l.block.results) f w
  land_good (again body) l ls vs e f t h w = record {
    locals = locals;
    labels = (
      record {
        kind = t.0;
        before = t.1;
        set = t.2;
        are_set = t.3;
        operands = stack l.block.params;
        fit = f;
        inside = t.4;
        typed = subst (λ (c : Continuation). Typed (at g (taken_by c l.block ∷ map branch_type ls) (l.clause ∷ map is_clause ls))
            (frame_of t.0 l.block t.1) t.2 body (stack l.block.params)) (sym e) t.5;
        loops = subst (λ (c : Continuation). LoopsBack g k.locals c l.block l.clause ls) (sym e) t;
        handlers = h;
      },
      w,
    );
  }

  pub jump_good : (n : ℕ) (ls : List Label) (ts : List ValueType) (vs : List Value) (given : List Operand) → slice_get (map branch_type ls) n ≡ Some ts → AllFit vs (stack ts)
      → Wait ls given → IsGood g (jump k n ls vs)
  jump_good n [] ts vs given e f w = absurd (none_is_some ts e)
  jump_good zero (l ∷ ls) ts vs given e f w =
      land_good l.continuation l ls vs refl (subst (λ (us : List ValueType). AllFit vs (stack us)) (sym (some_same (branch_type l) ts e)) f) w.0.loops w.0.handlers w.1
  jump_good (suc n) (l ∷ ls) ts vs given e f w = jump_good n ls ts vs (stack l.block.results) e f w.1

  -- ---- labels that the answer goes to

  module _ (a : Answer) where
    abbrev Okay : Reduction → Type 0
    Okay r = IsOkay g r

    goes_to_okay : (n : ℕ) (ls : List Label) (given : List Operand) (o : Option (List ValueType)) → slice_get (map branch_type ls) n ≡ o → Wait ls given → Okay (goes_to g a k n ls o)
    goes_to_okay n ls given None e w r = absurd r
    goes_to_okay n ls given (Some ts) e w r = (tt, jump_good n ls ts a.values given e r w)

    pub goes_by_okay : (o : Option ℕ) (ls : List Label) (given : List Operand) → Wait ls given → Okay (goes_by g a k o ls)
    goes_by_okay None ls given w r = absurd r
    goes_by_okay (Some n) ls given w r = goes_to_okay n ls given (slice_get (map branch_type ls) n) refl w r

    turns_to_okay : (c : Code) (n : ℕ) (o : Option Clause) (l : Label) (ls : List Label) → clause_at (at g (l.block.results ∷ map branch_type ls) (false ∷ map is_clause ls)) c n ≡ o
        → HandlersFit g k.locals (clauses c) l.block ls → Wait ls (stack l.block.results) → Okay (turns_to g a k o l ls)
    turns_to_okay c n None l ls e h w r = absurd r
    turns_to_okay c n (Some cl) l ls e h w r =
        let t = clause_typed g (l.block.results ∷ map branch_type ls) (map is_clause ls) l.block h.0 false frames.LegacyTry tt h.1 c h.2 n cl h.4 h.5 e in (
          (t.carries, t.turns),
          record {
            locals = locals;
            labels = (
              record {
                kind = t.kind;
                before = h.0;
                set = h.0;
                are_set = h.3;
                operands = stack t.carries;
                fit = r t.carries t.turns;
                inside = t.inside;
                typed = t.typed;
                loops = tt;
                handlers = tt;
              },
              w,
            );
          },
        )

    caught_by_okay : (h : Handlers) (l : Label) (ls : List Label) → HandlersFit g k.locals h l.block ls → Wait ls (stack l.block.results) → Okay (caught_by g a k h l ls)
    caught_by_okay no_handlers l ls h w = λ r. absurd r
    caught_by_okay (exits ns) l ls h w = goes_by_okay (slice_get ns a.index) ls (stack l.block.results) w
    caught_by_okay (clauses c) l ls h w =
        turns_to_okay c a.index (clause_at (at g (l.block.results ∷ map branch_type ls) (false ∷ map is_clause ls)) c a.index) l ls refl h w

    caught_after_okay : (n : ℕ) (ls : List Label) (given : List Operand) → Wait ls given → Okay (caught_after g a k n ls)
    caught_after_okay n [] given w = λ r. absurd r
    caught_after_okay zero (l ∷ ls) given w = caught_by_okay l.handlers l ls w.0.handlers w.1
    caught_after_okay (suc n) (l ∷ ls) given w = caught_after_okay n ls (stack l.block.results) w.1

    pub unless_fails_okay : (w : Way) (r : Reduction) → Wait (all_labels k) [] → Okay r → Okay (unless_fails g a k w r)
    unless_fails_okay traps r w i = λ given. (tt, tt)
    unless_fails_okay (throws n) r w i = caught_after_okay n (all_labels k) [] w
    unless_fails_okay on r w i = i
    unless_fails_okay branches r w i = i

    pub unless_traps_okay : (w : Way) (r : Reduction) → Okay r → Okay (unless_traps g a k w r)
    unless_traps_okay traps r i = λ given. (tt, tt)
    unless_traps_okay (throws n) r i = i
    unless_traps_okay on r i = i
    unless_traps_okay branches r i = i
