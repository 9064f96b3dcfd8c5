-- What the next step of a run over a store comes to, as a compiler may rely on it: at each state and store that a run reaches.
use Rattle.std.specs.Prelude.{◌≡◌, IsTrue, List, ◌∷◌}
use Rattle.wasm_operators_encoding.specs.expressions.Code.{Code}
use Rattle.wasm_operator_validator_rules.specs.Operands.{ValueType}
use Rattle.wasm_operator_validator_soundness.specs.runs.Values.{Program, Value}
use Rattle.wasm_operator_validator_soundness.specs.runs.States.{Activation, State, Answer, trapped}
use Rattle.wasm_operator_validator_soundness.specs.runs.Soundness.{step, IsValidProgram, IsStarted}
use Rattle.wasm_operator_validator_store.specs.Stores.{Store}
use Rattle.wasm_operator_validator_store.specs.ValidStores.{Knows, InWidth, StoreInWidth, HasState, HasOutcome, StoreFits}
use Rattle.wasm_operator_validator_store.specs.Giving.{GivesStep}
use Rattle.wasm_operator_validator_store.specs.Soundness.{StoreRuns}
use Rattle.wasm_operator_validator_store.specs.Determined.{step_is_determined}
use Rattle.wasm_operator_validator_store.specs.Traps.{step_traps}
use Rattle.wasm_operator_validator_store.specs.Exact.{step_is_exact}
use Rattle.wasm_operator_validator_store.specs.Tested.{TestIsExact}
use Rattle.wasm_operator_validator_store.specs.Widths.{SizesInWidth}

pub record StepIsPinned (p : Program) (x : State) (s : Store) : Type 0 where
  -- one state and one store come of it, unless the operator is one that leaves something open
  pub determined : (a b : Answer) (u w : Store) → IsTrue (step_is_determined p x s) → GivesStep p x s a u
      → GivesStep p x s b w → ((step p x a).outcome ≡ (step p x b).outcome) × (u ≡ w)
  -- it traps only if `step_traps` says so, and always then, if the operator is one of which that is exact
  pub traps : (a : Answer) (u : Store) → GivesStep p x s a u → (step p x a).outcome ≡ trapped
      → IsTrue (step_traps p x s)
  pub exact : (a : Answer) (u : Store) → GivesStep p x s a u → IsTrue (step_is_exact p x) → IsTrue (step_traps p x s)
      → (step p x a).outcome ≡ trapped
  -- casts, and calls through a table, trap by the type of what is there
  pub tests : (act : Activation) (acts : List Activation) (a : Answer) (u : Store) (more : Code) (v : Value)
      (ws : List Value) → x ≡ act ∷ acts → TestIsExact p act acts s a u more v ws
  -- numbers stay within their widths, as long as no array, table or memory has too many elements
  pub widths : (a : Answer) (u : Store) → GivesStep p x s a u → HasState InWidth x → StoreInWidth s → SizesInWidth p s
      → HasOutcome InWidth (step p x a).outcome × StoreInWidth u

-- whatever the store of each moment gives
abbrev pub IsPinnedOver : Program → Store → State → Type 0
IsPinnedOver p s x = (answers : List Answer) (u : Store) (y : State) → StoreRuns p s x answers u y → StepIsPinned p y u

-- So it is at each state and store to which a run comes that begins with what the store knows.
abbrev pub StoreRunsArePinned : Type 0
StoreRunsArePinned = (p : Program) (x : State) (results : List ValueType) (s : Store) → IsValidProgram p
    → IsStarted p x results → StoreFits p s → HasState (Knows s) x → IsPinnedOver p s x
