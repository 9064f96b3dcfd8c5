-- What steps of a validator do to its state, by the stacks that it stands for.
use Rattle.std.specs.Prelude.{◌≡◌, ◌↔◌, ℕ, List, [], ◌∷◌, ◌++◌, false, if◌then◌else◌}
use Rattle.wasm_operators_immediates.specs.declared.block.BlockType.{BlockType}
use Rattle.wasm_operators_immediates.specs.declared.frames.FrameKind.{FrameKind}
use Rattle.wasm_operator_validator_rules.specs.Operands.{ValueType, Operand, AllBelow, stack}
use Rattle.wasm_operator_validator_resources.specs.Meaning.{Meaning}
use Rattle.wasm_operator_validator_state.specs.declared.frame.Frame.{Frame as OpenFrame}
use Rattle.wasm_operator_validator_state.specs.declared.operand.MaybeType.{MaybeType}
use Rattle.wasm_operator_validator_state.specs.State.{Open, State, Stands, Covers, signature_of, initialised}

-- the stacks that the innermost frame's operands stand for
abbrev pub StacksOf : Meaning → List Open → List Operand → Type 0
StacksOf m [] s = ⊥
StacksOf m (o ∷ outer) s = Covers m o.unreachable o.operands s

abbrev pub Stacks : Meaning → State → List Operand → Type 0
Stacks m σ s = StacksOf m σ.opens s

abbrev pub IsOpen : List Open → Type 0
IsOpen [] = ⊥
IsOpen (o ∷ outer) = Unit {0}

-- only the innermost frame's operands may differ
abbrev pub SameFrames : List Open → List Open → Type 0
SameFrames [] ps = ⊥
SameFrames (o ∷ outer) [] = ⊥
SameFrames (o ∷ outer) (p ∷ others) = (p.kind ≡ o.kind) × (p.block ≡ o.block) × (p.before ≡ o.before) × (others ≡ outer)

pub record Same (σ τ : State) : Type 0 where
  pub given : τ.given ≡ σ.given
  pub inits : τ.inits ≡ σ.inits
  pub frames : SameFrames σ.opens τ.opens
  pub failed : τ.failed ≡ σ.failed
  pub saved : τ.saved ≡ σ.saved

-- exactly these operands were taken off
pub record Popped (m : Meaning) (σ : State) (xs : List Operand) (τ : State) : Type 0 where
  pub same : Same σ τ
  pub stacks : (s : List Operand) → Stacks m σ (xs ++ s) ↔ Stacks m τ s

abbrev pub MayPop : Meaning → State → List Operand → Type 0
MayPop m σ xs = (s : List Operand) × Stacks m σ (xs ++ s)

-- one operand was taken off, of which this much is known
pub record PoppedAny (m : Meaning) (σ : State) (a : MaybeType) (τ : State) : Type 0 where
  pub same : Same σ τ
  pub stacks : (t : Operand) (s : List Operand) → Stacks m σ (t ∷ s) ↔ (Stands m a t × Stacks m τ s)

abbrev pub MayPopAny : Meaning → State → Type 0
MayPopAny m σ = (t : Operand) × (s : List Operand) × Stacks m σ (t ∷ s)

-- a stack with such an operand on one of these
abbrev pub Topped : Meaning → MaybeType → (List Operand → Type 0) → List Operand → Type 0
Topped m a P [] = ⊥
Topped m a P (t ∷ s) = Stands m a t × P s

-- one operand was put on, of which this much is known
pub record PushedAny (m : Meaning) (σ : State) (a : MaybeType) (τ : State) : Type 0 where
  pub same : Same σ τ
  pub stacks : (s : List Operand) → Stacks m τ s ↔ Topped m a (Stacks m σ) s

-- exactly these operands were put on
pub record Pushed (m : Meaning) (σ : State) (xs : List Operand) (τ : State) : Type 0 where
  pub same : Same σ τ
  pub stacks : (s : List Operand) → Stacks m τ s ↔ (rest : List Operand) × Stacks m σ rest × AllBelow (xs ++ rest) s

-- the operands may be any from here on
pub record Jumped (m : Meaning) (σ τ : State) : Type 0 where
  pub same : Same σ τ
  pub stacks : (s : List Operand) → Stacks m τ s

-- the row's operands were exchanged
pub record Exchanged (m : Meaning) (σ : State) (ts us : List ValueType) (τ : State) : Type 0 where
  pub same : Same σ τ
  pub stacks : (s : List Operand) → Stacks m τ s ↔ (rest : List Operand) × Stacks m σ (stack ts ++ rest) × AllBelow (stack us ++ rest) s

-- a frame as it begins, its parameters on it or not yet
abbrev pub begun : FrameKind → BlockType → List ℕ → Open
begun k b inits = record { kind = k; block = b; before = inits; operands = []; unreachable = false }

pub record Entered (m : Meaning) (σ : State) (k : FrameKind) (b : BlockType) (τ : State) : Type 0 where
  pub given : τ.given ≡ σ.given
  pub inits : τ.inits ≡ σ.inits
  pub saved : τ.saved ≡ σ.saved
  pub frames : SameFrames (begun k b σ.inits ∷ σ.opens) τ.opens
  pub stacks : (s : List Operand) → Stacks m τ s ↔ AllBelow (stack (signature_of m b).params) s

-- a local has a value from here on
abbrev pub with_init : Meaning → State → ℕ → State
with_init m σ x = record σ { inits = if initialised m σ.given σ.inits x then σ.inits else σ.inits ++ x ∷ [] }

-- the innermost frame has no operands of its own
abbrev pub IsBare : List Open → Type 0
IsBare [] = ⊥
IsBare (o ∷ outer) = o.operands ≡ []

-- the innermost frame was left, and is the one that was given; what was set in it is not set any more
abbrev pub LeavesTo : List Open → State → OpenFrame → State → Type 0
LeavesTo [] σ f τ = ⊥
LeavesTo (o ∷ outer) σ f τ = (o.operands ≡ []) × (f.kind ≡ o.kind) × (f.block_type ≡ o.block)
    × (τ ≡ record σ { opens = outer; inits = o.before })

abbrev pub Leaves : State → OpenFrame → State → Type 0
Leaves σ f τ = LeavesTo σ.opens σ f τ
