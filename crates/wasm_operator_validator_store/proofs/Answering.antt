-- From what is shown of an operator to what is shown of its step.
use Rattle.std.proofs.Common.{◌≡◌, ℕ, suc, false, IsTrue, List, [], ◌∷◌, Option, Some, None, refl, sym, subst, take, get_or}
use Rattle.wasm_operators_encoding.specs.expressions.Code.{Code}
use Rattle.wasm_operator_validator_rules.specs.Operands.{ValueType, Operand}
use Rattle.wasm_operator_validator_soundness.specs.runs.Values.{Program, Value, FitsOperand, AllFit}
use Rattle.wasm_operator_validator_soundness.specs.runs.States.{Activation, Answer}
use Rattle.wasm_operator_validator_soundness.specs.runs.States.{trapped, Move, done, choose, found}
use Rattle.wasm_operator_validator_soundness.specs.runs.ValidStates.{IsValidOutcome}
use Rattle.wasm_operator_validator_soundness.specs.runs.Machine.{may_trap, execute}
use Rattle.wasm_operator_validator_soundness.specs.runs.Soundness.{IsValidProgram}
use Rattle.wasm_operator_validator_soundness.proofs.RunsSteps.{steps_sound}
use Rattle.wasm_operator_validator_store.specs.Stores.{Store, nothing}
use Rattle.wasm_operator_validator_store.specs.ValidStores.{Each, Knows, StoreFits, Evolves}
use Rattle.wasm_operator_validator_store.specs.Soundness.{AreValid, StepIsSound}
use Rattle.wasm_operator_validator_store.proofs.Lists.{each_get_or}
use Rattle.wasm_operator_validator_store.proofs.Operating.{CodeNew, execute_keeps}
use Rattle.wasm_operator_validator_store.proofs.Storing.{knows_plain, activation_later, state_later}

-- what is shown of the instruction that is next
pub record IsDone (p : Program) (act : Activation) (acts : List Activation) (c : Code) (s : Store) (a : Answer) (u : Store) : Type 0 where
  pub answer : (execute p a act acts c).is_answer
  pub store : StoreFits p u
  pub evolves : Evolves s u
  pub values : Each (Knows u) a.values
  pub new : CodeNew (Knows u) p a act acts c

-- ---- parts of a step

-- what is asked of what is there, which is there
pub found_needs : {A : Type 0} (p : Program) (results : List ValueType) (o : Option A) (f : A → Move) → (found o f).needs → IsValidOutcome p results (found o f).outcome
    → (x : A) × (o ≡ Some x) × (f x).needs × IsValidOutcome p results (f x).outcome
found_needs p results None f n i = absurd i
found_needs p results (Some x) f n i = (x, refl, n, i)

pub found_answer : {A : Type 0} (o : Option A) (f : A → Move) → ((x : A) → o ≡ Some x → (f x).is_answer) → (found o f).is_answer
found_answer None f h = tt
found_answer (Some x) f h = h x refl

pub no_trap : (p : Program) (a : Answer) (m : Move) → a.traps ≡ false → m.is_answer → (may_trap p a m).is_answer
no_trap p a m e h = subst (λ b. (choose b (done trapped) m).is_answer) (sym e) h

pub a_trap : (p : Program) (a : Answer) (m : Move) → IsTrue a.traps → (may_trap p a m).is_answer
a_trap p a m e = subst (λ b. (choose b (done trapped) m).is_answer) (sym e) tt

pub no_trap_needs : (p : Program) (a : Answer) (results : List ValueType) (m : Move) → a.traps ≡ false → (may_trap p a m).needs → IsValidOutcome p results (may_trap p a m).outcome → m.needs × IsValidOutcome p results m.outcome
no_trap_needs p a results m e n i = (subst (λ b. (choose b (done trapped) m).needs) e n, subst (λ b. IsValidOutcome p results (choose b (done trapped) m).outcome) e i)

-- operands on top
pub first_fits : (p : Program) (vs : List Value) (t : Operand) (ts : List Operand) (n : ℕ) → AllFit p (take (suc n) vs) (t ∷ ts) → FitsOperand p (get_or vs 0 nothing) t
first_fits p [] t ts n h = absurd h
first_fits p (v ∷ vs) t ts n h = h.0

pub second_fits : (p : Program) (vs : List Value) (t q : Operand) (ts : List Operand) (n : ℕ) → AllFit p (take (suc (suc n)) vs) (t ∷ q ∷ ts) → FitsOperand p (get_or vs 1 nothing) q
second_fits p [] t q ts n h = absurd h
second_fits p (v ∷ []) t q ts n h = absurd h.1
second_fits p (v ∷ w ∷ vs) t q ts n h = h.1.0

module _ (p : Program) (valid : IsValidProgram p) (results : List ValueType) (act : Activation) (acts : List Activation) (s : Store) (v : AreValid p results (act ∷ acts) s) where
  -- what the present machine says of a step under any answer
  pub told : (a : Answer) (c : Code) → act.innermost.code ≡ c → (execute p a act acts c).is_answer → (execute p a act acts c).needs × IsValidOutcome p results (execute p a act acts c).outcome
  told a c e = subst (λ (k : Code). (execute p a act acts k).is_answer → (execute p a act acts k).needs × IsValidOutcome p results (execute p a act acts k).outcome) e
      (λ i. steps_sound p results (act ∷ acts) a valid v.state i)

  pub top_known : (n : ℕ) → Knows s (get_or act.innermost.values n nothing)
  top_known n = each_get_or (Knows s) act.innermost.values n nothing v.known.0.innermost.values tt

  pub assembled : (a : Answer) (u : Store) → IsDone p act acts act.innermost.code s a u → StepIsSound p results (act ∷ acts) s a u
  assembled a u d =
      let r = steps_sound p results (act ∷ acts) a valid v.state d.answer in
      record {
        answer = d.answer;
        needs = r.0;
        outcome = r.1;
        store = d.store;
        evolves = d.evolves;
        known = (execute_keeps (Knows u) p a act acts (knows_plain u) d.values (activation_later s u d.evolves act v.known.0) (state_later s u d.evolves acts v.known.1) act.innermost.code d.new).keeps;
      }
