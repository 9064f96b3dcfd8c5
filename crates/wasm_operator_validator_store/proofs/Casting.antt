-- Casts, tests and equality over a store.
use Rattle.std.proofs.Common.{◌≡◌, ℕ, Bool, true, false, IsTrue, List, [], ◌∷◌, Some, refl, sym, ap, subst, ◌∙◌, length, map, take, get_or, slice_get}
use Rattle.std.specs.Prelude.{◌&&◌, ◌↔◌}
use mathlib.Core.Logic.{⊎_elim}
use Rattle.wasm_types.specs.trees.Types.{HeapOf, i32, ref}
use Rattle.wasm_types.specs.trees.Trees.{TypeTree}
use Rattle.wasm_types.specs.values.Reference.{Reference}
use Rattle.wasm_types.specs.values.declared.heap.HeapType.{HeapType}
use Rattle.wasm_operators_enums.specs.declared.gc.GcOperator.TheVariants as gc
use Rattle.wasm_operators_enums.specs.Op as op
use Rattle.wasm_operators_enums.specs.Op.{Op}
use Rattle.wasm_operators_encoding.specs.expressions.Code.{Code, plain}
use Rattle.wasm_operator_validator_rules.specs.Operands.{ValueType}
use Rattle.wasm_operator_validator_soundness.specs.runs.Values.{Program, Value, number_value, Fits}
use Rattle.wasm_operator_validator_soundness.specs.runs.States.{Activation, Answer, branch_type}
use Rattle.wasm_operator_validator_soundness.specs.runs.States.{Move, pops, choose, done, trapped}
use Rattle.wasm_operator_validator_soundness.specs.runs.Machine.{meant_heap, cast_top, cast_from, branch, goes, execute}
use Rattle.wasm_operator_validator_soundness.specs.runs.Soundness.{IsValidProgram}
use Rattle.wasm_operator_validator_store.specs.Stores.{Store, nothing}
use Rattle.wasm_operator_validator_store.specs.ValidStores.{Knows}
use Rattle.wasm_operator_validator_store.specs.Giving.{There, GivesOperator}
use Rattle.wasm_operator_validator_store.specs.Soundness.{AreValid}
use Rattle.wasm_operator_validator_store.proofs.Lists.{same_some}
use Rattle.wasm_operator_validator_store.proofs.Operating.{CodeNew}
use Rattle.wasm_operator_validator_store.proofs.Answering.{IsDone, found_answer}
use Rattle.wasm_operator_validator_store.proofs.Accessing.{unchanged, values_known}
use Rattle.wasm_operator_validator_store.proofs.Objects.{there_some, of_object}
use Rattle.wasm_operator_validator_store.proofs.Throwing.{jump_any}

both_left : (b c : Bool) → IsTrue (b && c) → IsTrue b
both_left true c h = refl
both_left false c h = h

pub choose_any : (b : Bool) (m n : Move) → m.is_answer → n.is_answer → (choose b m n).is_answer
choose_any true m n h k = h
choose_any false m n h k = k

pub pops_top : (vs : List Value) (f : Value → List Value → Move) → ((w : Value) (ws : List Value) → vs ≡ w ∷ ws → (f w ws).is_answer) → (pops vs f).is_answer
pops_top [] f g = tt
pops_top (w ∷ ws) f g = g w ws refl

module _ (p : Program) (valid : IsValidProgram p) (results : List ValueType) (act : Activation) (acts : List Activation) (s : Store) (v : AreValid p results (act ∷ acts) s) (more : Code) (a : Answer) (u : Store) where
  abbrev Done : Op → Type 0
  Done o = IsDone p act acts (plain o more) s a u

  abbrev Given : Op → Type 0
  Given o = GivesOperator p (act ∷ acts) s a u act o

  abbrev vs : List Value
  vs = act.innermost.values

  -- nothing changes, and nothing comes
  pub silent_done : (o : Op) → (execute p a act acts (plain o more)).is_answer → CodeNew (Knows s) p a act acts (plain o more) → (a.values ≡ []) → u ≡ s → Done o
  silent_done o answer new e d = unchanged p valid results act acts s v (plain o more) a u d answer (values_known p valid results act acts s v s a [] e tt) new

  abbrev Passes : HeapType → Type 0
  Passes q = There p (act ∷ acts) s a u (meant_heap p.«module» q) (λ k. IsTrue a.condition ↔ Fits p (get_or act.innermost.values 0 nothing) (ref false k))

  -- the value on top is of the type, if the answer says so
  pub is_of : (q : HeapType) (k : HeapOf TypeTree) (w : Value) (ws : List Value) → Passes q → meant_heap p.«module» q ≡ Some k → act.innermost.values ≡ w ∷ ws → (c : Bool) → IsTrue (a.condition && c) → Fits p w (ref false k)
  is_of q k w ws h e d c b =
      let r = there_some p (act ∷ acts) s a u (meant_heap p.«module» q) _ h in
      subst (λ z. Fits p z (ref false k)) (ap (λ l. get_or l 0 nothing) d)
      (subst (λ y. Fits p (get_or act.innermost.values 0 nothing) (ref false y)) (same_some r.0 k (sym r.1 ∙ e)) (r.2.0 (both_left a.condition c b)))

  pub top_answer : (n : Bool) (q : HeapType) (f : Bool → Value → List Value → Move) → Passes q → ((b : Bool) (w : Value) (ws : List Value) → (f b w ws).is_answer) → (cast_top p a act acts n q f).is_answer
  top_answer n q f h g = found_answer (meant_heap p.«module» q) _ (λ k e. pops_top act.innermost.values _ (λ w ws d. ((λ b. is_of q k w ws h e d _ b), g _ w ws)))

  pub from_answer : (from to : Reference) (f : Bool → Value → List Value → Move) → Passes to.heap → ((b : Bool) (w : Value) (ws : List Value) → (f b w ws).is_answer) → (cast_from p a act acts from to f).is_answer
  from_answer from to f h g = found_answer (meant_heap p.«module» from.heap) _ (λ y c. found_answer (meant_heap p.«module» to.heap) _ (λ k e. pops_top act.innermost.values _ (λ w ws d. ((λ b. is_of to.heap k w ws h e d _ b), g _ w ws))))

  pub branch_any : (n : ℕ) (ws : List Value) → (branch p a act acts n ws).is_answer
  branch_any n ws = found_answer (slice_get (map branch_type (act.innermost ∷ act.around)) n) _ (λ ts e. jump_any p a n act (act.innermost ∷ act.around) (take (length ts) ws) acts)

  pub test_done : (q : HeapType) → Given (op.Gc (gc.RefTestNonNull q)) → Done (op.Gc (gc.RefTestNonNull q))
  test_done q h = silent_done (op.Gc (gc.RefTestNonNull q)) (top_answer false q (λ b w ws. goes p a act acts (number_value i32 a.made ∷ ws) more) h.0 (λ b w ws. tt)) tt h.1.1.0 h.1.1.2

  pub test_null_done : (q : HeapType) → Given (op.Gc (gc.RefTestNullable q)) → Done (op.Gc (gc.RefTestNullable q))
  test_null_done q h = silent_done (op.Gc (gc.RefTestNullable q)) (top_answer true q (λ b w ws. goes p a act acts (number_value i32 a.made ∷ ws) more) h.0 (λ b w ws. tt)) tt h.1.1.0 h.1.1.2

  pub cast_done : (q : HeapType) → Given (op.Gc (gc.RefCastNonNull q)) → Done (op.Gc (gc.RefCastNonNull q))
  cast_done q h = silent_done (op.Gc (gc.RefCastNonNull q)) (top_answer false q (λ b w ws. choose b (goes p a act acts (w ∷ ws) more) (done trapped)) h.0 (λ b w ws. choose_any b (goes p a act acts (w ∷ ws) more) (done trapped) tt tt)) tt h.1.0 h.1.1

  pub cast_null_done : (q : HeapType) → Given (op.Gc (gc.RefCastNullable q)) → Done (op.Gc (gc.RefCastNullable q))
  cast_null_done q h = silent_done (op.Gc (gc.RefCastNullable q)) (top_answer true q (λ b w ws. choose b (goes p a act acts (w ∷ ws) more) (done trapped)) h.0 (λ b w ws. choose_any b (goes p a act acts (w ∷ ws) more) (done trapped) tt tt)) tt h.1.0 h.1.1

  pub branch_on_cast_done : (n : ℕ) (from to : Reference) → Given (op.Gc (gc.BrOnCast n from to)) → Done (op.Gc (gc.BrOnCast n from to))
  branch_on_cast_done n from to h = silent_done (op.Gc (gc.BrOnCast n from to))
      (from_answer from to (λ b w ws. choose b (branch p a act acts n (w ∷ ws)) (goes p a act acts (w ∷ ws) more)) h.0 (λ b w ws. choose_any b (branch p a act acts n (w ∷ ws)) (goes p a act acts (w ∷ ws) more) (branch_any n (w ∷ ws)) tt)) tt h.1.0 h.1.1

  pub branch_on_cast_fail_done : (n : ℕ) (from to : Reference) → Given (op.Gc (gc.BrOnCastFail n from to)) → Done (op.Gc (gc.BrOnCastFail n from to))
  branch_on_cast_fail_done n from to h = silent_done (op.Gc (gc.BrOnCastFail n from to))
      (from_answer from to (λ b w ws. choose b (goes p a act acts (w ∷ ws) more) (branch p a act acts n (w ∷ ws))) h.0 (λ b w ws. choose_any b (goes p a act acts (w ∷ ws) more) (branch p a act acts n (w ∷ ws)) tt (branch_any n (w ∷ ws)))) tt h.1.0 h.1.1

  pub equal_done : Given (op.Gc gc.RefEq) → Done (op.Gc gc.RefEq)
  equal_done h = silent_done (op.Gc gc.RefEq) (pops_top act.innermost.values _ (λ w ws d. pops_top ws _ (λ y ys e. tt))) tt h.1.0 h.1.2

  -- an object is measured
  pub length_done : Given (op.Gc gc.ArrayLen) → Done (op.Gc gc.ArrayLen)
  length_done h =
      let answer : (execute p a act acts (plain (op.Gc gc.ArrayLen) more)).is_answer = pops_top act.innermost.values _ (λ w ws d. choose_any a.traps (done trapped) (goes p a act acts (number_value i32 a.made ∷ ws) more) tt tt) in
      ⊎_elim (λ t. silent_done (op.Gc gc.ArrayLen) answer (λ e. tt) t.1.0 t.1.1) (λ r. silent_done (op.Gc gc.ArrayLen) answer (λ e. tt) r.5.1.0 r.5.1.2)
      (of_object p (act ∷ acts) s a u (get_or act.innermost.values 0 nothing) _ h)
