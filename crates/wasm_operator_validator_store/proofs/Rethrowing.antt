-- Exceptions that are thrown again over a store: by a reference, and from the clause that caught one.
use Rattle.std.proofs.Common.{◌≡◌, ℕ, zero, suc, List, [], ◌∷◌, Option, Some, refl, sym, ap, subst, ◌∙◌, get_or, slice_get}
use Rattle.wasm_types.specs.trees.Trees.{TypeTree}
use Rattle.wasm_types.specs.trees.Below.{expanded}
use Rattle.wasm_operators_enums.specs.Op as op
use Rattle.wasm_operators_enums.specs.Op.{Op, ExceptionTree}
use Rattle.wasm_operators_encoding.specs.expressions.Code.{Code, plain}
use Rattle.wasm_operator_validator_rules.specs.Operands.{ValueType, stack}
use Rattle.wasm_operator_validator_rules.specs.Context.{Signature, IsFunctionType}
use Rattle.wasm_operator_validator_soundness.specs.runs.Values.{Program, Value, number_value, ref_null, ref_function, ref_object, ref_i31, ref_host, ref_extern, ref_exn, AllFit}
use Rattle.wasm_operator_validator_soundness.specs.runs.States.{Exception, Label, Activation, Answer}
use Rattle.wasm_operator_validator_soundness.specs.runs.Machine.{function_type, gives, unwind, throw_again, throw_reference, caught_at, execute}
use Rattle.wasm_operator_validator_soundness.specs.runs.Soundness.{IsValidProgram}
use Rattle.wasm_operator_validator_soundness.proofs.Options.{as_function_is}
use Rattle.wasm_operator_validator_store.specs.Stores.{ExceptionInstance, Store, nothing}
use Rattle.wasm_operator_validator_store.specs.ValidStores.{Each, Knows, HasCaught, HasLabel, ThrownFits}
use Rattle.wasm_operator_validator_store.specs.Giving.{Stays, ThrowsAgain, ThrowsReference, GivesException}
use Rattle.wasm_operator_validator_store.specs.Soundness.{AreValid}
use Rattle.wasm_operator_validator_store.proofs.Lists.{none_some, same_some, each_get}
use Rattle.wasm_operator_validator_store.proofs.Operating.{ThrownNew, CodeNew}
use Rattle.wasm_operator_validator_store.proofs.Answering.{IsDone, found_answer, top_known}
use Rattle.wasm_operator_validator_store.proofs.Accessing.{unchanged}
use Rattle.wasm_operator_validator_store.proofs.Objects.{there_some}
use Rattle.wasm_operator_validator_store.proofs.Throwing.{unwind_answer, throw_done}
use Rattle.wasm_operator_validator_store.proofs.Casting.{pops_top}
use Rattle.wasm_operator_validator_store.proofs.Control.{silent}
use Rattle.wasm_operator_validator_store.proofs.Calls.{on_top}

module _ (p : Program) (valid : IsValidProgram p) (results : List ValueType) (act : Activation) (acts : List Activation) (s : Store) (v : AreValid p results (act ∷ acts) s) (more : Code) (a : Answer) (u : Store) where
  abbrev Done : Op → Type 0
  Done o = IsDone p act acts (plain o more) s a u

  abbrev Next : Op → Type 0
  Next o = act.innermost.code ≡ plain o more

  abbrev vs : List Value
  vs = act.innermost.values

  -- the exception at an address goes to the clause that the store finds
  again_done : (o : Op) (k : ℕ) (t : TypeTree) → Knows s (ref_exn k t) → ThrowsAgain p (act ∷ acts) s a u k → ((throw_again p a t (act ∷ acts)).is_answer → (execute p a act acts (plain o more)).is_answer)
      → (Knows s (ref_exn a.made t) → CodeNew (Knows s) p a act acts (plain o more)) → Done o
  again_done o k t there h answer new =
      let r = there_some p (act ∷ acts) s a u (slice_get s.exceptions k) _ h in
      let same : r.0 ≡ there.0 = same_some r.0 there.0 (sym r.1 ∙ there.1) in
      let fit : ThrownFits p s r.0 = each_get (ThrownFits p s) s.exceptions k r.0 v.store.exceptions r.1 in
      let tag : slice_get s.tags (r.0).tag ≡ Some t = subst (λ (x : ExceptionInstance). slice_get s.tags x.tag ≡ Some t) (sym same) there.2 in
      let one : fit.0 ≡ t = same_some fit.0 t (sym fit.1 ∙ tag) in
      let is : (throw_again p a t (act ∷ acts)).is_answer = found_answer {A = Signature} (function_type t) (λ b. gives p a b.params (λ us. unwind p a t us (act ∷ acts) a.leaves)) (λ (b : Signature) d. (
        subst (λ ws. AllFit p ws (stack b.params)) (sym r.2.1) (fit.2 b (subst (λ (q : TypeTree). IsFunctionType q b) (sym one) (as_function_is (expanded t) b d))),
        unwind_answer p a s v.store (r.0).tag t tag a.values (act ∷ acts) 0 a.leaves r.2.3,
      )) in
      unchanged p valid results act acts s v (plain o more) a u r.2.2 (answer is) (subst (Each (Knows s)) (sym r.2.1) fit.3) (new (subst (λ n. Knows s (ref_exn n t)) (sym r.2.0) there))

  -- ---- by a reference

  abbrev top : Value
  top = get_or act.innermost.values 0 nothing

  reference_answer : (w : Value) → top ≡ w → (throw_reference p a act acts w).is_answer → (execute p a act acts (plain (op.Exception op.ThrowRef) more)).is_answer
  reference_answer w e h = pops_top vs _ (λ y ys d. subst (λ z. (throw_reference p a act acts z).is_answer) (sym e ∙ ap (λ l. get_or l 0 nothing) d) h)

  reference_new : (w : Value) → top ≡ w → ThrownNew (Knows s) p a act acts w → CodeNew (Knows s) p a act acts (plain (op.Exception op.ThrowRef) more)
  reference_new w e h = on_top (ThrownNew (Knows s) p a act acts) vs (subst (ThrownNew (Knows s) p a act acts) (sym e) h)

  reference_stays : (w : Value) → top ≡ w → (throw_reference p a act acts w).is_answer → ThrownNew (Knows s) p a act acts w → Stays p (act ∷ acts) s a u → Done (op.Exception op.ThrowRef)
  reference_stays w e h n k = silent p valid results act acts s v more a u (op.Exception op.ThrowRef) (reference_answer w e h) (reference_new w e n) k

  reference_done : (w : Value) → top ≡ w → ThrowsReference p (act ∷ acts) s a u act w → Done (op.Exception op.ThrowRef)
  reference_done (ref_exn k t) e h = again_done (op.Exception op.ThrowRef) k t (subst (Knows s) e (top_known p valid results act acts s v 0)) h (reference_answer (ref_exn k t) e) (λ n. reference_new (ref_exn k t) e n)
  reference_done (number_value n b) e h = reference_stays (number_value n b) e tt tt h
  reference_done (ref_null c q) e h = reference_stays (ref_null c q) e tt tt h
  reference_done (ref_function i t) e h = reference_stays (ref_function i t) e tt tt h
  reference_done (ref_object k t) e h = reference_stays (ref_object k t) e tt tt h
  reference_done (ref_i31 b) e h = reference_stays (ref_i31 b) e tt tt h
  reference_done (ref_host k) e h = reference_stays (ref_host k) e tt tt h
  reference_done (ref_extern k) e h = reference_stays (ref_extern k) e tt tt h

  -- ---- from a clause of an older `try`

  pub caught_known : (n : ℕ) (ls : List Label) (x : Exception) → Each (HasLabel (Knows s)) ls → caught_at p a act acts n ls ≡ Some x → Knows s (ref_exn x.address x.type)
  caught_known zero [] x h e = absurd (none_some x e)
  caught_known (suc n) [] x h e = absurd (none_some x e)
  caught_known zero (l ∷ ls) x h e = subst (λ (o : Option Exception). HasCaught (Knows s) o) e h.0.caught
  caught_known (suc n) (l ∷ ls) x h e = caught_known n ls x h.1 e

  pub exception_done : (o : ExceptionTree) → Next (op.Exception o) → GivesException p (act ∷ acts) s a u act o → Done (op.Exception o)
  exception_done (op.Throw x) c h = throw_done p valid results act acts s v more a u x c h
  exception_done op.ThrowRef c h = reference_done top refl h
  exception_done (op.Rethrow n) c h =
      let r = there_some p (act ∷ acts) s a u (caught_at p a act acts n (act.innermost ∷ act.around)) _ h in
      let known = caught_known n (act.innermost ∷ act.around) r.0 (v.known.0.innermost, v.known.0.around) r.1 in
      again_done (op.Exception (op.Rethrow n)) (r.0).address (r.0).type known r.2
      (λ g. found_answer {A = Exception} (caught_at p a act acts n (act.innermost ∷ act.around)) (λ (x : Exception). throw_again p a x.type (act ∷ acts)) (λ (x : Exception) e.
      subst (λ (y : Exception). (throw_again p a y.type (act ∷ acts)).is_answer) (same_some r.0 x (sym r.1 ∙ e)) g))
      (λ k x e. subst (λ (y : Exception). Knows s (ref_exn a.made y.type)) (same_some r.0 x (sym r.1 ∙ e)) k)
  exception_done o c h = silent p valid results act acts s v more a u (op.Exception o) tt tt h
