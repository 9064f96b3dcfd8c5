-- Calls over a store: of a function of the module, of the host, by a reference, and through a table.
use Rattle.std.proofs.Common.{◌≡◌, ℕ, Bool, true, false, IsTrue, List, [], ◌∷◌, Option, Some, None, refl, sym, ap, subst, ◌∙◌, get_or, slice_get, drop, true≢false}
use Rattle.std.specs.Prelude.{◌↔◌, if◌then◌else◌}
use mathlib.Core.Logic.{⊎_elim}
use Rattle.wasm_types.specs.trees.Types.{concrete, ref}
use Rattle.wasm_types.specs.trees.Trees.{TypeTree}
use Rattle.wasm_operators_enums.specs.declared.control.ControlOperator.{ControlOperator}
use Rattle.wasm_operators_enums.specs.declared.control.ControlOperator.TheVariants as control
use Rattle.wasm_operators_enums.specs.Op as op
use Rattle.wasm_operators_enums.specs.Op.{Op}
use Rattle.wasm_operators_encoding.specs.expressions.Code.{Code, plain}
use Rattle.wasm_operator_validator_rules.specs.Operands.{ValueType}
use Rattle.wasm_operator_validator_rules.specs.Context.{Table, Signature}
use Rattle.wasm_operator_validator_soundness.specs.runs.Values.{Body, Function, Program, Value, number_value, ref_null, ref_function, ref_object, ref_i31, ref_host, ref_extern, ref_exn, is_null, Fits}
use Rattle.wasm_operator_validator_soundness.specs.runs.States.{Activation, Answer, Move, choose, done, trapped, asks, allows}
use Rattle.wasm_operator_validator_soundness.specs.runs.Machine.{function_type, body_of, named, takes, begin, going, goes, invoke, call, call_reference, call_indirect, IsCallable, execute}
use Rattle.wasm_operator_validator_soundness.specs.runs.Soundness.{IsValidProgram}
use Rattle.wasm_operator_validator_store.specs.Stores.{Store, nothing, bits_of, table_in}
use Rattle.wasm_operator_validator_store.specs.ValidStores.{Each, Knows, Has, ThrownFits, StoreFits}
use Rattle.wasm_operator_validator_store.specs.Giving.{Stays, Either, HostEnds, Begins, Calls, CallsIndirect, GivesControl}
use Rattle.wasm_operator_validator_store.specs.Soundness.{AreValid}
use Rattle.wasm_operator_validator_store.proofs.Lists.{none_some, same_some, each_get}
use Rattle.wasm_operator_validator_store.proofs.Operating.{OnTop, HostNew, CallsNew, CodeNew}
use Rattle.wasm_operator_validator_store.proofs.Answering.{IsDone, found_answer, no_trap, a_trap}
use Rattle.wasm_operator_validator_store.proofs.Storing.{table_holds}
use Rattle.wasm_operator_validator_store.proofs.Objects.{there_some, or_traps}
use Rattle.wasm_operator_validator_store.proofs.Throwing.{back_any}
use Rattle.wasm_operator_validator_store.proofs.Casting.{choose_any, pops_top}
use Rattle.wasm_operator_validator_store.proofs.Control.{silent, branches_any, branch_if_any, popped_any}

pub on_top : (F : Value → Type 0) (ws : List Value) → F (get_or ws 0 nothing) → OnTop F ws
on_top F [] h = tt
on_top F (w ∷ ws) h = h

module _ (p : Program) (valid : IsValidProgram p) (results : List ValueType) (act : Activation) (acts : List Activation) (s : Store) (v : AreValid p results (act ∷ acts) s) (more : Code) (a : Answer) (u : Store) where
  abbrev Done : Op → Type 0
  Done o = IsDone p act acts (plain o more) s a u

  abbrev Next : Op → Type 0
  Next o = act.innermost.code ≡ plain o more

  abbrev vs : List Value
  vs = act.innermost.values

  still : (o : Op) → (execute p a act acts (plain o more)).is_answer → CodeNew (Knows s) p a act acts (plain o more) → Stays p (act ∷ acts) s a u → Done o
  still o answer new h = silent p valid results act acts s v more a u o answer new h

  -- ---- what begins

  -- what a host returns or throws is in the store that it leaves
  host_values : (tail : Bool) (o : Option TypeTree) → StoreFits p u → HostEnds p (act ∷ acts) s a u tail o → Each (Knows u) a.values
  host_values tail None f h = h
  host_values tail (Some t) f h = subst (Each (Knows u)) (sym h.3) (each_get (ThrownFits p u) u.exceptions a.made h.0 f.exceptions h.1).3

  host_new : (tail : Bool) → HostEnds p (act ∷ acts) s a u tail a.throws → HostNew (Knows u) p a act acts
  host_new tail h t e = let k = subst (λ (o : Option TypeTree). HostEnds p (act ∷ acts) s a u tail o) e h in (k.0, k.1, k.2)

  begins_done : (o : Op) (tail : Bool) (q : Option Body) → Next o → Begins p (act ∷ acts) s a u tail q → ((f : Body) → q ≡ Some f → (execute p a act acts (plain o more)).is_answer)
      → ((w : Store) → (q ≡ None → HostNew (Knows w) p a act acts) → CodeNew (Knows w) p a act acts (plain o more)) → Done o
  begins_done o tail None c h answer new = record {
    answer = subst (λ (k : Code). (execute p a act acts k).is_answer) c h.0;
    store = h.2;
    evolves = h.1;
    values = host_values tail a.throws h.2 h.3;
    new = new u (λ e. host_new tail h.3);
  }
  begins_done o tail (Some f) c h answer new = still o (answer f refl) (new s (λ e. absurd (none_some f (sym e)))) h.1

  begin_some : (q : Option Body) (f : Body) (t : TypeTree) (b : Signature) (args : List Value) (owed : List ValueType) (rest : List Activation) → q ≡ Some f → (begin p a q t b args owed rest).is_answer
  begin_some q f t b args owed rest e = subst (λ (o : Option Body). (begin p a o t b args owed rest).is_answer) (sym e) tt

  invoke_some : (tail : Bool) (i : Option ℕ) (t : TypeTree) (ws : List Value) (f : Body) → body_of (named p a i) ≡ Some f → (invoke p a act acts tail (ref_function i t) ws more).is_answer
  invoke_some tail i t ws f e = found_answer {A = Signature} (function_type t)
      (λ b. takes p a b.params ws (λ args us. begin p a (body_of (named p a i)) t b args (if tail then act.owed else b.results) (if tail then acts else going p a act acts us more ∷ acts)))
      (λ (b : Signature) d. begin_some (body_of (named p a i)) f t b _ _ _ e)

  call_some : (tail : Bool) (x : ℕ) (f : Body) → body_of (slice_get p.functions x) ≡ Some f → (call p a act acts tail x more).is_answer
  call_some tail x f e = found_answer {A = Function} (slice_get p.functions x) (λ g. invoke p a act acts tail (ref_function (Some x) g.type) vs more) (λ (g : Function) d. invoke_some tail (Some x) g.type vs f e)

  -- ---- what a reference names

  calls_done : (o : Op) (tail : Bool) (w : Value) → Next o → Calls p (act ∷ acts) s a u tail w
      → (((ws : List Value) → (invoke p a act acts tail w ws more).is_answer) → (execute p a act acts (plain o more)).is_answer)
      → ((y : Store) → CallsNew (Knows y) p a act acts w → CodeNew (Knows y) p a act acts (plain o more)) → Done o
  calls_done o tail (ref_function i t) c h answer new = begins_done o tail (body_of (named p a i)) c h (λ f e. answer (λ ws. invoke_some tail i t ws f e)) (λ y k. new y k)
  calls_done o tail (number_value n b) c h answer new = still o (answer (λ ws. tt)) (new s tt) h
  calls_done o tail (ref_null k q) c h answer new = still o (answer (λ ws. tt)) (new s tt) h
  calls_done o tail (ref_object k t) c h answer new = still o (answer (λ ws. tt)) (new s tt) h
  calls_done o tail (ref_i31 b) c h answer new = still o (answer (λ ws. tt)) (new s tt) h
  calls_done o tail (ref_host k) c h answer new = still o (answer (λ ws. tt)) (new s tt) h
  calls_done o tail (ref_extern k) c h answer new = still o (answer (λ ws. tt)) (new s tt) h
  calls_done o tail (ref_exn k t) c h answer new = still o (answer (λ ws. tt)) (new s tt) h

  abbrev top : Value
  top = get_or act.innermost.values 0 nothing

  reference_answer : (tail : Bool) (x : ℕ) → ((ws : List Value) → (invoke p a act acts tail top ws more).is_answer) → (call_reference p a act acts tail x more).is_answer
  reference_answer tail x g = found_answer {A = TypeTree} (slice_get p.«module».types x) _ (λ (t : TypeTree) d. pops_top vs _ (λ y ys e.
      subst (λ z. (invoke p a act acts tail z ys more).is_answer) (ap (λ l. get_or l 0 nothing) e) (g ys)))

  -- ---- through a table

  abbrev tested : Bool → TypeTree → List Value → Bool → Move
  tested tail t ws b = choose b (allows (Fits p a.held (ref false (concrete t))) (invoke p a act acts tail a.held ws more)) (done trapped)

  abbrev through : Bool → Table → TypeTree → List Value → Move
  through tail t q ws = allows (Fits p a.held t.element) (asks (IsCallable a.held) (tested tail q ws a.condition))

  through_answer : (tail : Bool) (y x i : ℕ) (w : Value) → slice_get (table_in s x) i ≡ Some w → a.held ≡ w → a.traps ≡ false
      → ((q : TypeTree) (ws : List Value) → slice_get p.«module».types y ≡ Some q → (tested tail q ws a.condition).is_answer) → (call_indirect p a act acts tail y x more).is_answer
  through_answer tail y x i w e held traps g = found_answer {A = Table} (slice_get p.«module».tables x) _ (λ (t : Table) d. found_answer {A = TypeTree} (slice_get p.«module».types y) _ (λ (q : TypeTree) c.
      no_trap p a (through tail t q (drop 1 vs)) traps (subst (λ z. Fits p z t.element) (sym held) (each_get (Has p s t.element) (table_in s x) i w (table_holds p s v.store x t d) e).0, g q (drop 1 vs) c)))

  through_traps : (tail : Bool) (y x : ℕ) → IsTrue a.traps → (call_indirect p a act acts tail y x more).is_answer
  through_traps tail y x e = found_answer {A = Table} (slice_get p.«module».tables x) _ (λ (t : Table) d. found_answer {A = TypeTree} (slice_get p.«module».types y) _ (λ (q : TypeTree) c. a_trap p a (through tail t q (drop 1 vs)) e))

  -- it traps, or goes on with what is there
  through_any : (tail : Bool) (y x i : ℕ) (w : Value) → slice_get (table_in s x) i ≡ Some w → a.held ≡ w
      → ((q : TypeTree) (ws : List Value) → slice_get p.«module».types y ≡ Some q → (tested tail q ws a.condition).is_answer) → (call_indirect p a act acts tail y x more).is_answer
  through_any tail y x i w e held g = by_trap a.traps refl
    where
      by_trap : (b : Bool) → a.traps ≡ b → (call_indirect p a act acts tail y x more).is_answer
      by_trap true t = through_traps tail y x t
      by_trap false t = through_answer tail y x i w e held t g

  indirect_done : (tail : Bool) (o : Op) (y x : ℕ) → Next o → ((call_indirect p a act acts tail y x more).is_answer → (execute p a act acts (plain o more)).is_answer)
      → ((w : Store) → (a.traps ≡ false → a.condition ≡ true → CallsNew (Knows w) p a act acts a.held) → CodeNew (Knows w) p a act acts (plain o more))
      → CallsIndirect p (act ∷ acts) s a u act tail y x → Done o
  indirect_done tail o y x c answer new h = ⊎_elim
      (λ t. still o (answer (through_traps tail y x t.0)) (new s (λ n q. absurd (true≢false (sym t.0 ∙ n)))) t.1)
      (λ r.
      let t = there_some p (act ∷ acts) s a u (slice_get p.«module».types y) _ r.2 in
      by_test r.0 r.1 t.0 t.1 t.2.0 t.2.1 a.condition refl t.2.2)
      (or_traps p (act ∷ acts) s a u (slice_get (table_in s x) (bits_of top)) _ h)
    where
      by_test : (w : Value) → slice_get (table_in s x) (bits_of top) ≡ Some w → (t : TypeTree) → slice_get p.«module».types y ≡ Some t → a.held ≡ w
          → (IsTrue a.condition ↔ Fits p w (ref false (concrete t))) → (b : Bool) → a.condition ≡ b → Either b (Calls p (act ∷ acts) s a u tail w) (Stays p (act ∷ acts) s a u) → Done o
      by_test w e t d held test true b k = calls_done o tail w c k
          (λ g. answer (through_any tail y x (bits_of top) w e held (λ q ws f. subst (λ z. (tested tail q ws z).is_answer) (sym b) (
            subst (λ z. Fits p z (ref false (concrete q))) (sym held) (subst (λ (z : TypeTree). Fits p w (ref false (concrete z))) (same_some t q (sym d ∙ f)) (test.0 b)),
            subst (λ z. (invoke p a act acts tail z ws more).is_answer) (sym held) (g ws),
          ))))
          (λ y n. new y (λ q r. subst (CallsNew (Knows y) p a act acts) (sym held) n))
      by_test w e t d held test false b k = still o
          (answer (through_any tail y x (bits_of top) w e held (λ q ws f. subst (λ z. (tested tail q ws z).is_answer) (sym b) tt)))
          (new s (λ q r. absurd (true≢false (sym r ∙ b)))) k

  -- ---- control

  pub control_done : (o : ControlOperator) → Next (op.Control o) → GivesControl p (act ∷ acts) s a u act o → Done (op.Control o)
  control_done control.Unreachable c h = still (op.Control control.Unreachable) tt tt h
  control_done control.Nop c h = still (op.Control control.Nop) tt tt h
  control_done (control.Br n) c h = still (op.Control (control.Br n)) (branches_any p valid results act acts s v more a u n vs) tt h
  control_done (control.BrIf n) c h = still (op.Control (control.BrIf n)) (popped_any p valid results act acts s v more a u vs _ (λ w ws. branch_if_any p valid results act acts s v more a u a.condition n ws ws)) tt h.1
  control_done (control.BrTable t) c h = still (op.Control (control.BrTable t)) (popped_any p valid results act acts s v more a u vs _ (λ w ws. branches_any p valid results act acts s v more a u (get_or t.targets a.index t.default) ws)) tt h.1
  control_done control.Return c h = still (op.Control control.Return) (back_any p a act.owed _ acts) tt h
  control_done control.RefAsNonNull c h = still (op.Control control.RefAsNonNull) (popped_any p valid results act acts s v more a u vs _ (λ w ws. choose_any (is_null w) (done trapped) (goes p a act acts (w ∷ ws) more) tt tt)) tt h
  control_done (control.BrOnNull n) c h = still (op.Control (control.BrOnNull n)) (popped_any p valid results act acts s v more a u vs _ (λ w ws. branch_if_any p valid results act acts s v more a u (is_null w) n ws (w ∷ ws))) tt h
  control_done (control.BrOnNonNull n) c h = still (op.Control (control.BrOnNonNull n)) (popped_any p valid results act acts s v more a u vs _ (λ w ws. choose_any (is_null w) (goes p a act acts ws more) _ tt (branches_any p valid results act acts s v more a u n (w ∷ ws)))) tt h
  control_done (control.Call x) c h = begins_done (op.Control (control.Call x)) false (body_of (slice_get p.functions x)) c h (λ f e. call_some false x f e) (λ w k. k)
  control_done (control.ReturnCall x) c h = begins_done (op.Control (control.ReturnCall x)) true (body_of (slice_get p.functions x)) c h (λ f e. call_some true x f e) (λ w k. k)
  control_done (control.CallRef x) c h = calls_done (op.Control (control.CallRef x)) false top c h (reference_answer false x) (λ y k. on_top (CallsNew (Knows y) p a act acts) vs k)
  control_done (control.ReturnCallRef x) c h = calls_done (op.Control (control.ReturnCallRef x)) true top c h (reference_answer true x) (λ y k. on_top (CallsNew (Knows y) p a act acts) vs k)
  control_done (control.CallIndirect y x) c h = indirect_done false (op.Control (control.CallIndirect y x)) y x c (λ k. k) (λ w k. k) h
  control_done (control.ReturnCallIndirect y x) c h = indirect_done true (op.Control (control.ReturnCallIndirect y x)) y x c (λ k. k) (λ w k. k) h
  control_done o c h = still (op.Control o) tt tt h
