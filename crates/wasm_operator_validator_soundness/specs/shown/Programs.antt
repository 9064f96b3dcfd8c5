-- That the values of a run fit what a validator shows at the places of the bodies.
use Rattle.std.specs.Prelude.{◌≡◌, ◌⊎◌, ℕ, List, [], ◌∷◌, length, Option, Some, None, slice_get}
use Rattle.wasm_types.specs.trees.Trees.{TypeTree}
use Rattle.wasm_operators_immediates.specs.declared.block.BlockType.{BlockType}
use Rattle.wasm_operators_enums.specs.Op.{Op}
use Rattle.wasm_operators_encoding.specs.expressions.Code.{close}
use Rattle.wasm_operator_validator_rules.specs.Operands.{ValueType}
use Rattle.wasm_operator_validator_rules.specs.Context.{Signature, IsFunctionType}
use Rattle.wasm_operator_validator_state.specs.resources.Meaning.{Meaning}
use Rattle.wasm_operator_validator_state.specs.State.{Given, Saved, State, initialised}
use Rattle.wasm_operator_validator_state.specs.Bodies as bodies
use Rattle.wasm_operator_validator_state.specs.Bodies.{fresh}
use Rattle.wasm_operator_validator_soundness.specs.runs.Values.{Body, Function, Program, AllFit}
use Rattle.wasm_operator_validator_soundness.specs.runs.States as runs
use Rattle.wasm_operator_validator_soundness.specs.runs.States.{Activation, Answer}
use Rattle.wasm_operator_validator_soundness.specs.runs.ValidStates.{AreSet}
use Rattle.wasm_operator_validator_soundness.specs.runs.Soundness.{body_context, Runs, IsValidProgram, IsStarted}
use Rattle.wasm_operator_validator_soundness.specs.runs.Places.{Place, places, IsValidBy}
use Rattle.wasm_operator_validator_soundness.specs.shown.Leading.{Walks}
use Rattle.wasm_operator_validator_soundness.specs.shown.Shown.{IsKnown, operands_in, ShownBy}

-- ---- programs whose bodies were validated operator by operator

-- the operators of a body lead a validator from its beginning to its end
pub record IsWalked (p : Program) (t : TypeTree) (f : Body) : Type 0 where
  pub signature : Signature
  pub function : IsFunctionType t signature
  pub meaning : Meaning
  pub given : Given
  pub block : BlockType
  pub saved : Saved
  pub last : State
  pub within : bodies.body_context meaning given block ≡ body_context p t signature f
  pub params : given.params ≡ length signature.params
  pub walks : Walks meaning f.code (fresh given block saved) last

-- each body of the program
abbrev pub AreWalked : Program → Type 0
AreWalked p = (x : ℕ) (f : Function) (b : Body) → slice_get p.functions x ≡ Some f → f.body ≡ Some b → IsWalked p f.type b

-- ---- their derivations

-- what a derivation says at its beginning and at each place after it is what a validator knows there
pub record IsShown (l : Place) : Type 0 where
  pub meaning : Meaning
  pub first : State
  pub last : State
  pub walks : Walks meaning l.code first last
  pub shown : ShownBy meaning l.code first last walks l.context l.frame l.set l.operands l.typed

-- The bodies have derivations that say at each place what a validator knows there.
abbrev pub ShownDerivationsAreGiven : Type 0
ShownDerivationsAreGiven = (p : Program) → IsValidProgram p → AreWalked p
    → (D : ℕ → Option Place) × IsValidBy (places D) p × ((x : ℕ) (l : Place) → D x ≡ Some l → IsShown l)

-- ---- the theorem

-- At the place at which an activation is, a validator knows this: the locals that it takes for set have values, and if it shows the
-- types of all operands of a frame that may be reached, the values fit them.
pub record FitsShown (p : Program) (act : Activation) : Type 0 where
  pub meaning : Meaning
  pub here : State
  pub locals : AreSet (initialised meaning here.given here.inits) act.locals
  pub values : IsKnown here.opens → AllFit p act.innermost.values (operands_in meaning here.opens)

-- nothing is left but the end of an `if` whose second part is not written
abbrev pub OnlyEnds : Activation → Type 0
OnlyEnds act = (o : Op) × (act.innermost.code ≡ close o)

abbrev pub InnermostFits : Program → runs.State → Type 0
InnermostFits p [] = ⊥
InnermostFits p (act ∷ acts) = FitsShown p act ⊎ OnlyEnds act

-- In each state of a run the values of the innermost activation fit what a validator shows at its place.
abbrev pub RunsFitWhatIsShown : Type 0
RunsFitWhatIsShown = (p : Program) (s : runs.State) (results : List ValueType) → IsValidProgram p → AreWalked p → IsStarted p s results
    → (answers : List Answer) (t : runs.State) → Runs p s answers t → InnermostFits p t
