-- Runs over a store, from steps.
use Rattle.std.proofs.Common.{◌≡◌, ℕ, false, List, [], ◌∷◌, Some, sym, ap, subst, ◌∙◌, inl, inr, length, slice_get, arith}
use mathlib.Core.Logic.{⊎_elim}
use Rattle.wasm_types.specs.trees.Trees.{TypeTree}
use Rattle.wasm_types.specs.trees.Below.{expanded}
use Rattle.wasm_operator_validator_rules.specs.Operands.{ValueType, stack}
use Rattle.wasm_operator_validator_rules.specs.Context.{Global}
use Rattle.wasm_operator_validator_soundness.specs.runs.Values.{Program, Value, AllFit}
use Rattle.wasm_operator_validator_soundness.specs.runs.States.{State, Answer, Outcome}
use Rattle.wasm_operator_validator_soundness.specs.runs.ValidStates.{IsValidOutcome}
use Rattle.wasm_operator_validator_soundness.specs.runs.Soundness.{Runs, IsValidProgram, evaluated}
use Rattle.wasm_operator_validator_soundness.proofs.RunsSteps.{starts_valid, constants_valid}
use Rattle.wasm_operator_validator_store.specs.Stores.{GlobalInstance, TableInstance, MemoryInstance, ObjectInstance, Addresses, Store, field_at, value_held, global_in}
use Rattle.wasm_operator_validator_store.specs.ValidStores.{Each, Knows, HasOutcome, IsGlobalAt, StoreFits, GlobalIsLater, TableIsLater, MemoryIsLater, SegmentIsLater, DataIsLater, IsLater, Evolves}
use Rattle.wasm_operator_validator_store.specs.Soundness.{StoreRuns, AreValid, StoreRunsAreSound, StoreConstantsAreSound, ImmutableIsKept}
use Rattle.wasm_operator_validator_store.proofs.Lists.{pairs_get, get_or_there}
use Rattle.wasm_operator_validator_store.proofs.Storing.{stays}
use Rattle.wasm_operator_validator_store.proofs.Operators.{store_steps_sound}
use Rattle.wasm_operator_validator_store.proofs.Progress.{store_answers_exist}
use Rattle.wasm_operator_validator_store.specs.Pinned.{StoreRunsArePinned}
use Rattle.wasm_operator_validator_store.proofs.Determined.{store_steps_determined}
use Rattle.wasm_operator_validator_store.proofs.Traps.{only_these_trap}
use Rattle.wasm_operator_validator_store.proofs.Exact.{traps_exactly}
use Rattle.wasm_operator_validator_store.proofs.Tested.{tests_exact}
use Rattle.wasm_operator_validator_store.proofs.Widths.{widths_kept}

-- ---- one store after another

later_again : (o q r : ObjectInstance) → IsLater o q → IsLater q r → IsLater o r
later_again o q r e d = record {
  type = d.type ∙ e.type;
  size = d.size ∙ e.size;
  kept = λ i f c m. d.kept i f (subst (λ (t : TypeTree). field_at (expanded t) i ≡ Some f) (sym e.type) c) m ∙ e.kept i f c m;
}

global_again : (g k i : GlobalInstance) → GlobalIsLater g k → GlobalIsLater k i → GlobalIsLater g i
global_again g k i e d = record { type = d.type ∙ e.type; kept = λ m. d.kept (ap (λ (t : Global). t.mutable) e.type ∙ m) ∙ e.kept m }

table_again : (t q r : TableInstance) → TableIsLater t q → TableIsLater q r → TableIsLater t r
table_again t q r e d = record { type = d.type ∙ e.type; size = omega (arith, e.size, d.size) }

memory_again : (m n i : MemoryInstance) → MemoryIsLater m n → MemoryIsLater n i → MemoryIsLater m i
memory_again m n i e d = record { type = d.type ∙ e.type; size = omega (arith, e.size, d.size) }

data_again : (bs cs ds : List ℕ) → DataIsLater bs cs → DataIsLater cs ds → DataIsLater bs ds
data_again bs cs ds e d = ⊎_elim (λ i. ⊎_elim (λ k. inl (i ∙ k)) (λ k. inr (i ∙ k)) e) (λ i. inr i) d

segment_again : (vs us ws : List Value) → SegmentIsLater vs us → SegmentIsLater us ws → SegmentIsLater vs ws
segment_again vs us ws e d = ⊎_elim (λ i. ⊎_elim (λ k. inl (i ∙ k)) (λ k. inr (i ∙ k)) e) (λ i. inr i) d

pub evolves_again : (s w u : Store) → Evolves s w → Evolves w u → Evolves s u
evolves_again s w u e d = record {
  globals = λ k g c. let q = e.globals k g c in let r = d.globals k q.0 q.1 in (r.0, r.1, global_again g q.0 r.0 q.2 r.2);
  tables = λ k t c. let q = e.tables k t c in let r = d.tables k q.0 q.1 in (r.0, r.1, table_again t q.0 r.0 q.2 r.2);
  memories = λ k m c. let q = e.memories k m c in let r = d.memories k q.0 q.1 in (r.0, r.1, memory_again m q.0 r.0 q.2 r.2);
  data_segments = λ i bs c. let q = e.data_segments i bs c in let r = d.data_segments i q.0 q.1 in (r.0, r.1, data_again bs q.0 r.0 q.2 r.2);
  segments = λ i vs c. let q = e.segments i vs c in let r = d.segments i q.0 q.1 in (r.0, r.1, segment_again vs q.0 r.0 q.2 r.2);
  objects = λ k o c. let q = e.objects k o c in let r = d.objects k q.0 q.1 in (r.0, r.1, later_again o q.0 r.0 q.2 r.2);
  exceptions = λ k x c. d.exceptions k x (e.exceptions k x c);
  tags = λ k t c. d.tags k t (e.tags k t c);
  externs = λ k v c. d.externs k v (e.externs k v c);
  addresses = d.addresses ∙ e.addresses;
}

-- a global of the module is at the same address
global_kept : (p : Program) (s u : Store) → StoreFits p s → Evolves s u → (x : ℕ) (g : Global) → slice_get p.«module».globals x ≡ Some g → g.mutable ≡ false → global_in u x ≡ global_in s x
global_kept p s u f e x g d m =
    let r = pairs_get (IsGlobalAt s) p.«module».globals s.addresses.globals x g f.global_addresses d in
    let there : slice_get u.addresses.globals x ≡ Some r.0 = ap (λ (a : Addresses). slice_get a.globals x) e.addresses ∙ r.1 in
    let q = e.globals r.0 r.2.0 r.2.1 in
    ap (λ k. value_held (slice_get u.globals k)) (get_or_there u.addresses.globals x r.0 (length u.globals) there)
    ∙ ap value_held q.1 ∙ q.2.kept (r.2.2.0 ∙ m) ∙ sym (ap value_held r.2.1)
    ∙ sym (ap (λ k. value_held (slice_get s.globals k)) (get_or_there s.addresses.globals x r.0 (length s.globals) r.1))

pub kept : ImmutableIsKept
kept p s u f e = (global_kept p s u f e, λ k i o h a b c. let r = e.objects k o a in (r.0, r.1, r.2.kept i h b c))

-- ---- runs

module _ (p : Program) (valid : IsValidProgram p) (results : List ValueType) where
  stays_valid : (answers : List Answer) (x : State) (s : Store) (y : State) (u : Store) → AreValid p results x s → StoreRuns p s x answers u y → AreValid p results y u × Evolves s u × Runs p x answers y
  stays_valid [] x s y u v r = (subst (λ z. AreValid p results z u) r.1 (subst (λ w. AreValid p results x w) r.0 v), subst (λ w. Evolves s w) r.0 (stays s), r.1)
  stays_valid (a ∷ answers) x s y u v r =
      let k = store_steps_sound p results x s a r.0 valid v r.2 in
      let n : AreValid p results r.1 r.0 = record {
        state = subst (λ (o : Outcome). IsValidOutcome p results o) r.3 k.outcome;
        store = k.store;
        known = subst (λ (o : Outcome). HasOutcome (Knows r.0) o) r.3 k.known;
      } in
      let m = stays_valid answers r.1 r.0 y u n r.4 in
      (m.0, evolves_again s r.0 u k.evolves m.1, (r.1, k.answer, r.3, m.2))

pub store_runs_sound : StoreRunsAreSound
store_runs_sound p x results s valid started fits known answers u y r =
    let n = stays_valid p valid results answers x s y u (record { state = starts_valid p x results valid started; store = fits; known = known }) r in
    record {
      runs = n.2;
      valid = n.0;
      evolves = n.1;
      goes_on = λ a w h. store_steps_sound p results y u a w valid n.0 h;
      answered = store_answers_exist p results y u valid n.0;
    }

-- what is promised of each step, at the end of such a run
pub store_runs_pinned : StoreRunsArePinned
store_runs_pinned p x results s valid started fits known answers u y r =
    let n = (store_runs_sound p x results s valid started fits known answers u y r).valid in
    record {
      determined = λ a b w k. store_steps_determined p y u a b w k;
      traps = λ a w g t. only_these_trap p y u a w g t;
      exact = λ a w g e t. traps_exactly p results y u a w valid n g e t;
      widths = λ a w g i j k. widths_kept p y u a w g i j k;
      tests = λ act acts a w more v ws e. tests_exact p act acts u a w more v ws;
    }

-- ---- constants

pub store_constants_sound : StoreConstantsAreSound
store_constants_sound p t c s v u valid typed fits e =
    let start : AreValid p (t ∷ []) (evaluated t c) s = record {
      state = constants_valid p t c valid typed;
      store = fits;
      known = (record { locals = tt; innermost = record { values = tt; caught = tt }; around = tt }, tt);
    } in
    let n = stays_valid p valid (t ∷ []) e.answers (evaluated t c) s e.state e.between start e.runs in
    let k = store_steps_sound p (t ∷ []) e.state e.between e.last u valid n.0 e.gives in
    let fit : AllFit p (v ∷ []) (stack (t ∷ [])) = subst (λ (o : Outcome). IsValidOutcome p (t ∷ []) o) e.ends k.outcome in
    let there : Each (Knows u) (v ∷ []) = subst (λ (o : Outcome). HasOutcome (Knows u) o) e.ends k.known in
    ((fit.0, there.0), k.store, evolves_again s e.between u n.1 k.evolves)
