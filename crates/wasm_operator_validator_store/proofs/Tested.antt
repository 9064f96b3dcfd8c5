-- That casts and calls through tables trap exactly where a test of a type fails.
use Rattle.std.proofs.Common.{◌≡◌, ℕ, Bool, true, false, not, ◌&&◌, IsTrue, List, [], ◌∷◌, length, take, drop, get_or, Option, Some, None, if◌then◌else◌, slice_get, refl, sym, ap, subst, ◌∙◌, true≢false, inl, inr}
use Rattle.std.specs.Prelude.{◌↔◌, ◌⊎◌}
use Rattle.wasm_types.specs.trees.Types.{HeapOf, ref, concrete}
use Rattle.wasm_types.specs.trees.Trees.{TypeTree}
use Rattle.wasm_types.specs.values.declared.heap.HeapType.{HeapType}
use Rattle.wasm_operators_enums.specs.declared.control.ControlOperator.TheVariants as control
use Rattle.wasm_operators_enums.specs.declared.gc.GcOperator.TheVariants as gc
use Rattle.wasm_operators_enums.specs.Op as op
use Rattle.wasm_operators_enums.specs.Op.{Op}
use Rattle.wasm_operators_encoding.specs.expressions.Code.{Code, plain}
use Rattle.wasm_operator_validator_rules.specs.Operands.{ValueType}
use Rattle.wasm_operator_validator_rules.specs.Context.{Table, Signature}
use Rattle.wasm_operator_validator_soundness.specs.runs.Values.{Body, Program, Value, number_value, ref_null, ref_function, ref_object, ref_i31, ref_host, ref_extern, ref_exn, least_type, is_null, IsMade, IsAkin, Fits}
use Rattle.wasm_operator_validator_soundness.specs.runs.States.{Activation, State, Answer, Outcome, trapped, stuck, Move, done, asks, allows, choose, found, pops}
use Rattle.wasm_operator_validator_soundness.specs.runs.Machine.{address, IsCallable, meant_heap, body_of, may_trap, takes, invoke, goes, cast, call_indirect, execute}
use Rattle.wasm_operator_validator_soundness.specs.runs.Soundness.{step, IsValidProgram}
use Rattle.wasm_operator_validator_soundness.proofs.Progress.{no_trap}
use Rattle.wasm_operator_validator_store.specs.Stores.{Store, nothing, bits_of, table_in}
use Rattle.wasm_operator_validator_store.specs.Giving.{Either, Stays, Traps, OrTraps, There, Begins, Calls, CallsIndirect, Passes, GivesCode, GivesStep}
use Rattle.wasm_operator_validator_store.specs.Soundness.{AreValid}
use Rattle.wasm_operator_validator_store.specs.Determined.{is_own, is_own_at}
use Rattle.wasm_operator_validator_store.specs.Tested.{indirect, Stands, CastIsExact, NullableCastIsExact, Holds, CallPasses, CallFails, CallPastFails, TestsAreExact}
use Rattle.wasm_operator_validator_store.proofs.Lists.{none_some, same_some}
use Rattle.wasm_operator_validator_store.proofs.Ending.{Ends, done_ends, asks_ends, allows_ends, found_ends}
use Rattle.wasm_operator_validator_store.proofs.Exact.{Falls, found_falls, asks_falls, ends_trapped}
use Rattle.wasm_operator_validator_store.proofs.Traps.{own_invoked}
use Rattle.wasm_operator_validator_store.proofs.Operators.{store_steps_sound}

null_unfit : (p : Program) (v : Value) (k : HeapOf TypeTree) → is_null v ≡ true → Fits p v (ref false k) → ⊥
null_unfit p (ref_null c h) k e f = f.1.0
null_unfit p (number_value n b) k e f = absurd (true≢false (sym e))
null_unfit p (ref_function i t) k e f = absurd (true≢false (sym e))
null_unfit p (ref_object i t) k e f = absurd (true≢false (sym e))
null_unfit p (ref_i31 b) k e f = absurd (true≢false (sym e))
null_unfit p (ref_host i) k e f = absurd (true≢false (sym e))
null_unfit p (ref_extern i) k e f = absurd (true≢false (sym e))
null_unfit p (ref_exn i t) k e f = absurd (true≢false (sym e))

-- a condition that is not true is false
untrue : (c : Bool) → (IsTrue c → ⊥) → c ≡ false
untrue true n = absurd (n refl)
untrue false n = refl

some_of : {A : Type 0} (o : Option A) (y : A) (F : A → Type 0) (p : Program) (x : State) (s : Store) (a : Answer) (u : Store) → o ≡ Some y → There p x s a u o F → F y
some_of None y F p x s a u e h = absurd h
some_of (Some z) y F p x s a u e h = subst F (same_some z y e) h

module _ (p : Program) (act : Activation) (acts : List Activation) (s : Store) (a : Answer) (u : Store) (more : Code) (v : Value) (ws : List Value) where
  abbrev x : State
  x = act ∷ acts

  given_code : (c : Code) → act.innermost.code ≡ c → GivesStep p x s a u → GivesCode p x s a u act c
  given_code c e g = subst (λ (d : Code). GivesCode p x s a u act d) e g

  outcome_code : (c : Code) → act.innermost.code ≡ c → (step p x a).outcome ≡ (execute p a act acts c).outcome
  outcome_code c e = ap (λ (d : Code). (execute p a act acts d).outcome) e

  -- ---- casts

  abbrev tried : Bool → HeapOf TypeTree → Value → List Value → Move
  tried n k w us = asks (IsMade p w × IsAkin (least_type w) k) (cast p a act acts n k w (λ b. choose b (goes p a act acts (w ∷ us) more) (done trapped)))

  cast_comes : (n : Bool) (o : Option (HeapOf TypeTree)) (k : HeapOf TypeTree) (vs : List Value) → o ≡ Some k → vs ≡ v ∷ ws
      → (found o (λ (q : HeapOf TypeTree). pops vs (tried n q))).outcome ≡ (choose (if is_null v then n else a.condition) (goes p a act acts (v ∷ ws) more) (done trapped)).outcome
  cast_comes n o k vs e d = ap (λ (q : Option (HeapOf TypeTree)). (found q (λ (r : HeapOf TypeTree). pops vs (tried n r))).outcome) e ∙ ap (λ us. (pops us (tried n k)).outcome) d

  passed_not : (b : Bool) (m : Move) → Ends m → (choose b m (done trapped)).outcome ≡ trapped → b ≡ false
  passed_not true m k e = absurd (k.never e)
  passed_not false m k e = refl

  failed_so : (b : Bool) (m : Move) → b ≡ false → (choose b m (done trapped)).outcome ≡ trapped
  failed_so true m e = absurd (true≢false e)
  failed_so false m e = refl

  on : Ends (goes p a act acts (v ∷ ws) more)
  on = record { never = λ e. no_trap _ tt e }

  -- the condition is whether the value on top is of the type
  on_top : act.innermost.values ≡ v ∷ ws → get_or act.innermost.values 0 nothing ≡ v
  on_top e = ap (λ us. get_or us 0 nothing) e

  decides : (h : HeapType) (k : HeapOf TypeTree) → act.innermost.values ≡ v ∷ ws → meant_heap p.«module» h ≡ Some k → Passes p x s a u act h → IsTrue a.condition ↔ Fits p v (ref false k)
  decides h k e d g = subst (λ w. IsTrue a.condition ↔ Fits p w (ref false k)) (on_top e) (some_of {A = HeapOf TypeTree} (meant_heap p.«module» h) k (λ q. IsTrue a.condition ↔ Fits p (get_or act.innermost.values 0 nothing) (ref false q)) p x s a u d g)

  -- whether a cast passes
  unfit_then : (k : HeapOf TypeTree) → IsTrue a.condition ↔ Fits p v (ref false k) → (n : Bool) → is_null v ≡ n → (if n then false else a.condition) ≡ false → Fits p v (ref false k) → ⊥
  unfit_then k c true e d f = null_unfit p v k e f
  unfit_then k c false e d f = true≢false (sym (c.1 f) ∙ d)

  then_unfit : (k : HeapOf TypeTree) → IsTrue a.condition ↔ Fits p v (ref false k) → (n : Bool) → (Fits p v (ref false k) → ⊥) → (if n then false else a.condition) ≡ false
  then_unfit k c true f = refl
  then_unfit k c false f = untrue a.condition (λ t. f (c.0 t))

  cast_exact : CastIsExact p act acts s a u more v ws
  cast_exact h k stands meant g =
      let given = given_code (plain (op.Gc (gc.RefCastNonNull h)) more) stands.code g in
      let c = decides h k stands.values meant given.0 in
      let comes = outcome_code (plain (op.Gc (gc.RefCastNonNull h)) more) stands.code ∙ cast_comes false (meant_heap p.«module» h) k act.innermost.values meant stands.values in (
        (λ t. unfit_then k c (is_null v) refl (passed_not (if is_null v then false else a.condition) (goes p a act acts (v ∷ ws) more) on (sym comes ∙ t))),
        (λ f. comes ∙ failed_so (if is_null v then false else a.condition) (goes p a act acts (v ∷ ws) more) (then_unfit k c (is_null v) f)),
      )

  nullable_then : (k : HeapOf TypeTree) → IsTrue a.condition ↔ Fits p v (ref false k) → (n : Bool) → is_null v ≡ n → (if n then true else a.condition) ≡ false → (is_null v ≡ false) × (Fits p v (ref false k) → ⊥)
  nullable_then k c true e d = absurd (true≢false d)
  nullable_then k c false e d = (e, λ f. true≢false (sym (c.1 f) ∙ d))

  then_nullable : (k : HeapOf TypeTree) → IsTrue a.condition ↔ Fits p v (ref false k) → (n : Bool) → n ≡ false → (Fits p v (ref false k) → ⊥) → (if n then true else a.condition) ≡ false
  then_nullable k c true e f = absurd (true≢false e)
  then_nullable k c false e f = untrue a.condition (λ t. f (c.0 t))

  nullable_exact : NullableCastIsExact p act acts s a u more v ws
  nullable_exact h k stands meant g =
      let given = given_code (plain (op.Gc (gc.RefCastNullable h)) more) stands.code g in
      let c = decides h k stands.values meant given.0 in
      let comes = outcome_code (plain (op.Gc (gc.RefCastNullable h)) more) stands.code ∙ cast_comes true (meant_heap p.«module» h) k act.innermost.values meant stands.values in (
        (λ t. nullable_then k c (is_null v) refl (passed_not (if is_null v then true else a.condition) (goes p a act acts (v ∷ ws) more) on (sym comes ∙ t))),
        (λ f. comes ∙ failed_so (if is_null v then true else a.condition) (goes p a act acts (v ∷ ws) more) (then_nullable k c (is_null v) f.0 f.1)),
      )

  -- ---- calls through a table
  module _ (tail : Bool) where
    abbrev tested : ValueType → TypeTree → Bool → Value → List Value → Move
    tested e t c w us = allows (Fits p w e) (asks (IsCallable w) (choose c (allows (Fits p w (ref false (concrete t))) (invoke p a act acts tail w us more)) (done trapped)))

    -- what is said of what is there
    abbrev Says : Value → ℕ → Type 0
    Says w y = There p x s a u {A = TypeTree} (slice_get p.«module».types y) (λ (t : TypeTree). (a.held ≡ w) × (IsTrue a.condition ↔ Fits p w (ref false (concrete t))) × Either a.condition (Calls p x s a u tail w) (Stays p x s a u))

    at_index : (y n : ℕ) (o : Option Value) → act.innermost.values ≡ v ∷ ws → slice_get (table_in s n) (bits_of v) ≡ o → CallsIndirect p x s a u act tail y n → OrTraps p x s a u o (λ w. Says w y)
    at_index y n o e d g = subst (λ q. OrTraps p x s a u q (λ w. Says w y)) (ap (λ w. slice_get (table_in s n) (bits_of w)) (on_top e) ∙ d) g

    through_ends : (y n : ℕ) → a.traps ≡ false → ((e : ValueType) (t : TypeTree) (us : List Value) → Ends (tested e t a.condition a.held us)) → Ends (call_indirect p a act acts tail y n more)
    through_ends y n calm k = found_ends {A = Table} (slice_get p.«module».tables n) _ (λ t. found_ends {A = TypeTree} (slice_get p.«module».types y) _ (λ q. asks_ends _ _
        (subst (λ b. Ends (choose b (done trapped) (tested t.element q a.condition a.held (drop (length (address t.table64 ∷ [])) act.innermost.values)))) (sym calm) (k t.element q (drop (length (address t.table64 ∷ [])) act.innermost.values)))))

    tested_ends : (e : ValueType) (t : TypeTree) (c : Bool) (w r : Value) (us : List Value) → c ≡ true → w ≡ r → ((us : List Value) → Ends (invoke p a act acts tail r us more)) → Ends (tested e t c w us)
    tested_ends e t false w r us d q k = absurd (true≢false (sym d))
    tested_ends e t true w r us d q k = allows_ends _ _ (asks_ends _ _ (allows_ends _ _ (subst (λ i. Ends (invoke p a act acts tail i us more)) (sym q) (k us))))

    own_begins : (o : Option Body) → IsTrue (is_own o) → Begins p x s a u tail o → a.traps ≡ false
    own_begins None own g = absurd (true≢false (sym own))
    own_begins (Some f) own g = g.0

    chosen_calls : (c : Bool) (w : Value) → c ≡ true → Either c (Calls p x s a u tail w) (Stays p x s a u) → Calls p x s a u tail w
    chosen_calls true w e g = g
    chosen_calls false w e g = absurd (true≢false (sym e))

    -- it falls, if the test fails or the answer traps
    tested_falls : (e : ValueType) (t : TypeTree) (b c : Bool) (w : Value) (us : List Value) → (b ≡ true) ⊎ (c ≡ false) → Falls (choose b (done trapped) (tested e t c w us))
    tested_falls e t true c w us h = record { falls = inl refl }
    tested_falls e t false false w us h = record { falls = inl refl }
    tested_falls e t false true w us (inl d) = absurd (true≢false (sym d))
    tested_falls e t false true w us (inr d) = absurd (true≢false d)

    through_falls : (y n : ℕ) → (a.traps ≡ true) ⊎ (a.condition ≡ false) → Falls (call_indirect p a act acts tail y n more)
    through_falls y n h = found_falls {A = Table} (slice_get p.«module».tables n) _ (λ t. found_falls {A = TypeTree} (slice_get p.«module».types y) _ (λ q. asks_falls _ _ (tested_falls t.element q a.traps a.condition a.held (drop (length (address t.table64 ∷ [])) act.innermost.values) h)))

  -- what is given to a call is given to a call through the table, and both come to the same
  gives_indirect : (tail : Bool) (y n : ℕ) → act.innermost.code ≡ plain (indirect tail y n) more → GivesStep p x s a u → CallsIndirect p x s a u act tail y n
  gives_indirect false y n e g = given_code (plain (op.Control (control.CallIndirect y n)) more) e g
  gives_indirect true y n e g = given_code (plain (op.Control (control.ReturnCallIndirect y n)) more) e g

  comes_indirect : (tail : Bool) (y n : ℕ) → act.innermost.code ≡ plain (indirect tail y n) more → (step p x a).outcome ≡ (call_indirect p a act acts tail y n more).outcome
  comes_indirect false y n e = outcome_code (plain (op.Control (control.CallIndirect y n)) more) e
  comes_indirect true y n e = outcome_code (plain (op.Control (control.ReturnCallIndirect y n)) more) e

  call_passes : CallPasses p act acts s a u more v ws
  call_passes tail y n i q t stands holds own g d =
      let given = at_index tail y n (Some (ref_function (Some i) q)) stands.values holds.held (gives_indirect tail y n stands.code g) in
      let k = some_of {A = TypeTree} (slice_get p.«module».types y) t _ p x s a u holds.type given in
      let passes : a.condition ≡ true = k.1.1 holds.fits in
      let calm : a.traps ≡ false = own_begins tail (body_of (slice_get p.functions i)) own (chosen_calls tail a.condition (ref_function (Some i) q) passes k.2) in
      (through_ends tail y n calm (λ e r us. tested_ends tail e r a.condition a.held (ref_function (Some i) q) us passes k.0 (λ ts. own_invoked p act acts s a u more tail i q ts own))).never (sym (comes_indirect tail y n stands.code) ∙ d)

  falls_trapped : (results : List ValueType) (tail : Bool) (y n : ℕ) → IsValidProgram p → AreValid p results (act ∷ acts) s → act.innermost.code ≡ plain (indirect tail y n) more → GivesStep p x s a u
      → (a.traps ≡ true) ⊎ (a.condition ≡ false) → (step p x a).outcome ≡ trapped
  falls_trapped results tail y n valid w e g h = ends_trapped p results (step p x a).outcome (store_steps_sound p results x s a u valid w g).outcome
      (subst (λ (o : Outcome). (o ≡ trapped) ⊎ (o ≡ stuck)) (sym (comes_indirect tail y n e)) (through_falls tail y n h).falls)

  call_fails : CallFails p act acts s a u more v ws
  call_fails results tail y n w t valid fit stands held type unfit g =
      let given = at_index tail y n (Some w) stands.values held (gives_indirect tail y n stands.code g) in
      let k = some_of {A = TypeTree} (slice_get p.«module».types y) t _ p x s a u type given in
      falls_trapped results tail y n valid fit stands.code g (inr (untrue a.condition (λ c. unfit (k.1.0 c))))

  call_past : CallPastFails p act acts s a u more v ws
  call_past results tail y n valid fit stands missing g =
      let given = at_index tail y n None stands.values missing (gives_indirect tail y n stands.code g) in
      falls_trapped results tail y n valid fit stands.code g (inl given.0)

pub tests_exact : TestsAreExact
tests_exact p act acts s a u more v ws = record {
  cast = cast_exact p act acts s a u more v ws;
  nullable = nullable_exact p act acts s a u more v ws;
  call = call_passes p act acts s a u more v ws;
  other = call_fails p act acts s a u more v ws;
  past = call_past p act acts s a u more v ws;
}
