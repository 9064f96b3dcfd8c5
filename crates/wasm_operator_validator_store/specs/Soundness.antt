-- That no run of a valid program over a store is stuck, and that all fits in the store (WebAssembly 3.0, appendix, soundness).
use Rattle.std.specs.Prelude.{◌≡◌, ℕ, false, IsTrue, List, [], ◌∷◌, Some, slice_get}
use Rattle.wasm_types.specs.trees.Types.{FieldOf}
use Rattle.wasm_types.specs.trees.Trees.{TypeTree}
use Rattle.wasm_types.specs.trees.Below.{expanded}
use Rattle.wasm_operator_validator_rules.specs.Operands.{ValueType}
use Rattle.wasm_operators_encoding.specs.expressions.Code.{Code}
use Rattle.wasm_operator_validator_rules.specs.Context.{Global}
use Rattle.wasm_operator_validator_rules.specs.Typed.{IsBody}
use Rattle.wasm_operator_validator_rules.specs.constants.Constants.{constant_context}
use Rattle.wasm_operator_validator_soundness.specs.runs.Values.{Program, Value}
use Rattle.wasm_operator_validator_soundness.specs.runs.States.{State, Answer, next, returned, trapped}
use Rattle.wasm_operator_validator_soundness.specs.runs.ValidStates.{IsValidState, IsValidOutcome}
use Rattle.wasm_operator_validator_soundness.specs.runs.Soundness.{step, Runs, IsValidProgram, IsStarted, evaluated}
use Rattle.wasm_operator_validator_soundness.specs.runs.Progress.{next_can_trap}
use Rattle.wasm_operator_validator_store.specs.Stores.{ObjectInstance, Store, field_at, global_in}
use Rattle.wasm_operator_validator_store.specs.ValidStores.{Knows, Has, HasState, HasOutcome, StoreFits, Evolves}
use Rattle.wasm_operator_validator_store.specs.Giving.{GivesStep}

-- ---- runs over a store

-- These answers, each of which the store of that moment gives, lead from a store and a state to others.
abbrev pub StoreRuns : Program → Store → State → List Answer → Store → State → Type 0
StoreRuns p s x [] u y = (s ≡ u) × (x ≡ y)
StoreRuns p s x (a ∷ answers) u y = (w : Store) × (z : State) × GivesStep p x s a w × ((step p x a).outcome ≡ next z)
    × StoreRuns p w z answers u y

-- a state and a store in which all fits
pub record AreValid (p : Program) (results : List ValueType) (x : State) (s : Store) : Type 0 where
  pub state : IsValidState p results x
  pub store : StoreFits p s
  pub known : HasState (Knows s) x

-- What a store gives is an answer of the machine that has none; what the step needs is there; and all fits again.
pub record StepIsSound (p : Program) (results : List ValueType) (x : State) (s : Store) (a : Answer) (u : Store)
    : Type 0 where
  pub answer : (step p x a).is_answer
  pub needs : (step p x a).needs
  pub outcome : IsValidOutcome p results (step p x a).outcome
  pub store : StoreFits p u
  pub evolves : Evolves s u
  pub known : HasOutcome (Knows u) (step p x a).outcome

-- Something is given. If the run traps under it, the operator is one that may trap.
abbrev pub IsAnsweredOver : Program → State → Store → Type 0
IsAnsweredOver p x s = (a : Answer) × (u : Store) × GivesStep p x s a u
    × ((step p x a).outcome ≡ trapped → IsTrue (next_can_trap x))

-- ---- the theorem

abbrev pub StoreStepsAreSound : Type 0
StoreStepsAreSound = (p : Program) (results : List ValueType) (x : State) (s : Store) (a : Answer) (u : Store)
    → IsValidProgram p → AreValid p results x s → GivesStep p x s a u → StepIsSound p results x s a u

-- A run that begins with what the store knows is a run of the machine without a store, is never stuck, can go on until it ends, and all
-- fits on the way and after its last step.
pub record StoreRunIsSound (p : Program) (results : List ValueType) (s : Store) (x : State) (answers : List Answer)
    (u : Store) (y : State) : Type 0 where
  pub runs : Runs p x answers y
  pub valid : AreValid p results y u
  pub evolves : Evolves s u
  pub goes_on : (a : Answer) (w : Store) → GivesStep p y u a w → StepIsSound p results y u a w
  pub answered : IsAnsweredOver p y u

-- whatever the store of each moment gives
abbrev pub IsSoundOver : Program → List ValueType → Store → State → Type 0
IsSoundOver p results s x = (answers : List Answer) (u : Store) (y : State) → StoreRuns p s x answers u y
    → StoreRunIsSound p results s x answers u y

abbrev pub StoreRunsAreSound : Type 0
StoreRunsAreSound = (p : Program) (x : State) (results : List ValueType) (s : Store) → IsValidProgram p
    → IsStarted p x results → StoreFits p s → HasState (Knows s) x → IsSoundOver p results s x

-- Each state and store in which all fits is answered, those of a constant too.
abbrev pub StoreAnswersExist : Type 0
StoreAnswersExist = (p : Program) (results : List ValueType) (x : State) (s : Store) → IsValidProgram p
    → AreValid p results x s → IsAnsweredOver p x s

-- ---- constants

-- A constant of this type, run over a store, gives a value and leaves a store.
pub record Evaluates (p : Program) (t : ValueType) (c : Code) (s : Store) (v : Value) (u : Store) : Type 0 where
  pub answers : List Answer
  pub between : Store
  pub state : State
  pub last : Answer
  pub runs : StoreRuns p s (evaluated t c) answers between state
  pub gives : GivesStep p state between last u
  pub ends : (step p state last).outcome ≡ returned (v ∷ [])

-- Typed as a constant, it leaves a store in which all fits, and in which its value is, of that type.
abbrev pub StoreConstantsAreSound : Type 0
StoreConstantsAreSound = (p : Program) (t : ValueType) (c : Code) (s : Store) (v : Value) (u : Store)
    → IsValidProgram p → IsBody (constant_context p.bits p.«module» t) 0 c → StoreFits p s → Evaluates p t c s v u
    → Has p u t v × StoreFits p u × Evolves s u

-- ---- what stays

-- What does not change: an immutable global, and an immutable field or element, along a run.
abbrev pub ImmutableIsKept : Type 0
ImmutableIsKept = (p : Program) (s u : Store) → StoreFits p s → Evolves s u
    → ((x : ℕ) (g : Global) → slice_get p.«module».globals x ≡ Some g → g.mutable ≡ false
    → global_in u x ≡ global_in s x)
    × ((k i : ℕ) (o : ObjectInstance) (f : FieldOf TypeTree) → slice_get s.objects k ≡ Some o
    → field_at (expanded o.type) i ≡ Some f → f.mutable ≡ false
    → (q : ObjectInstance) × (slice_get u.objects k ≡ Some q) × (slice_get q.fields i ≡ slice_get o.fields i))
