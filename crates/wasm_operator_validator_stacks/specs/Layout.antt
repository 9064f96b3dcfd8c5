-- How the open frames lie in memory.
use Rattle.std.specs.Prelude.{◌≡◌, ◌≤◌, ◌-◌, ℕ, reverse, Option, Some, None, Bool, List, [], ◌∷◌, length, take, drop, true, false, zero, suc}
use Rattle.wasm_types.specs.trees.Types.{ref, abstract}
use Rattle.wasm_types.specs.values.declared.heap.AbstractHeapType.{AbstractHeapType}
use Rattle.wasm_types.specs.values.declared.value.ValType.{ValType}
use Rattle.wasm_types.specs.values.ValueKinds.{is_defaultable_type}
use Rattle.wasm_types.specs.values.Trees.{abstract_of}
use Rattle.wasm_operator_validator_rules.specs.Operands.{known, OperandBelow}
use Rattle.wasm_operator_validator_state.specs.resources.Meaning.{Meaning, type_in}
use Rattle.wasm_operator_validator_state.specs.declared.operand.MaybeType.{MaybeType}
use Rattle.wasm_operator_validator_state.specs.State.{Given, Open, Saved, State}
use Rattle.wasm_operator_validator_state.specs.declared.frame.Frame.{Frame}

-- the frames that these stand for, the innermost first, over all operands and all locals that were set
abbrev pub opens_of : List Frame → List MaybeType → List ℕ → List Open
opens_of [] operands inits = []
opens_of (f ∷ fs) operands inits =
    let below = drop (length operands - f.height) operands in
    let earlier = take f.init_height inits in
    record { kind = f.kind; block = f.block_type; before = earlier; operands = take (length operands - f.height) operands; unreachable = f.unreachable }
    ∷ opens_of fs below earlier

-- no frame begins above what there is, the outermost at the bottom, and without a frame there is no operand
abbrev pub Layered : List Frame → ℕ → ℕ → Type 0
Layered [] height inits = height ≡ 0
Layered (f ∷ fs) height inits = (f.height ≤ height) × (f.init_height ≤ inits) × Layered fs f.height f.init_height

-- the state that frames, operands and locals that were set stand for, as they lie in memory, the last on top
abbrev pub state_of : Given → Saved → Bool → List Frame → List MaybeType → List ℕ → State
state_of w saved failed frames operands inits =
    record { given = w; inits = inits; opens = opens_of (reverse frames) (reverse operands) inits; failed = failed; saved = saved }

abbrev pub IsLayered : List Frame → List MaybeType → List ℕ → Type 0
IsLayered frames operands inits = Layered (reverse frames) (length operands) (length inits)

-- for each local, of which the first so many are parameters, whether it has a value from the start
abbrev pub first_of : ℕ → List ValType → List Bool
first_of n [] = []
first_of zero (t ∷ ts) = is_defaultable_type t ∷ first_of zero ts
first_of (suc n) (t ∷ ts) = true ∷ first_of n ts

abbrev pub AreFirst : ℕ → List ValType → List Bool → Type 0
AreFirst n locals first = (first ≡ first_of n locals) × (n ≤ length locals)

-- what an attempt has saved is in order, and it has saved all three or none
abbrev pub IsSavedLayered : Option (List Frame) → Option (List MaybeType) → Option (List ℕ) → Type 0
IsSavedLayered None None None = Unit {0}
IsSavedLayered (Some frames) (Some operands) (Some inits) = IsLayered frames operands inits
IsSavedLayered frames operands inits = ⊥

-- outside an attempt
abbrev pub none_saved : Saved
none_saved = record { operands = None; frames = None; inits = None; failed = false }

abbrev pub restored : State → Option (List Frame) → Option (List MaybeType) → Option (List ℕ) → State
restored σ (Some frames) (Some operands) (Some inits) = state_of σ.given none_saved σ.saved.failed frames operands inits
restored σ frames operands inits = record σ { saved = none_saved }

-- the state that a rollback gives: what was saved, outside an attempt, or nothing changes where nothing was
abbrev pub rolled_back : State → State
rolled_back σ = restored σ σ.saved.frames σ.saved.operands σ.saved.inits

-- an attempt has begun: what stood there is saved, all of it
pub record IsBegun (s : Saved) : Type 0 where
  pub operands : List MaybeType
  pub frames : List Frame
  pub inits : List ℕ
  pub all : s ≡ record { operands = Some operands; frames = Some frames; inits = Some inits; failed = s.failed }

-- what stands where an attempt begins, and behind its beginning: a rollback gives what stood there, outside an attempt
pub record Begins (σ τ : State) : Type 0 where
  pub same : τ ≡ record σ { saved = τ.saved }
  pub saves : rolled_back τ ≡ record σ { saved = none_saved }
  pub begun : IsBegun τ.saved

-- a reference to this abstract type may be taken for one of this type
abbrev pub IsAbstractFit : Meaning → Bool → AbstractHeapType → ValType → Type 0
IsAbstractFit m s a t = OperandBelow (known (ref false (abstract s (abstract_of a)))) (known (type_in m t))
