-- Locals that a body declares (WebAssembly 3.0, validation, locals).
use Rattle.std.specs.Prelude.{◌≡◌, ◌≤◌, ◌<◌, ◌+◌, ◌++◌, ◌⊎◌, ℕ, length, replicate}
use Rattle.wasm_types.specs.decoding.Denials.{Denies}
use Rattle.wasm_types.specs.decoding.declared.error.ErrorKind.{ErrorKind}
use Rattle.wasm_types.specs.decoding.declared.error.ErrorKind.TheVariants as kinds
use Rattle.wasm_types.specs.values.declared.value.ValType.{ValType}
use Rattle.wasm_operator_validator_rules.specs.Operands.{ValueType}
use Rattle.wasm_operator_validator_rules.specs.Context.{IsType}
use Rattle.wasm_operator_validator_state.specs.resources.Meaning.{Meaning, type_in}
use Rattle.wasm_operator_validator_state.specs.State.{State}

-- so many locals of a type stand at the end, and nothing else changes
abbrev pub with_locals : State → ℕ → ValType → State
with_locals σ count t = record σ { given = record σ.given { locals = σ.given.locals ++ replicate count t } }

-- with so many more there are at most so many
abbrev pub HasRoomFor : ℕ → State → ℕ → Type 0
HasRoomFor most σ count = length σ.given.locals + count ≤ most

-- the module may write this type under the features of the body
abbrev pub MayWrite : Meaning → State → ValType → Type 0
MayWrite m σ written = (t : ValueType) × IsType σ.given.bits m.«module» written t

-- locals of a type that the module may write stand at the end, by what it names, where a function has at most so many
pub record DefinesLocals (m : Meaning) (most : ℕ) (σ : State) (count : ℕ) (written : ValType) (τ : State) : Type 0 where
  pub named : ValType
  pub type : IsType σ.given.bits m.«module» written (type_in m named)
  pub within : HasRoomFor most σ count
  pub state : τ ≡ with_locals σ count named

-- why locals of such a type are refused
abbrev pub RefusesCount : ℕ → State → ℕ → ErrorKind → Type 0
RefusesCount most σ count (kinds.EndOfData h) = ⊥
RefusesCount most σ count (kinds.MissingFeature f) = ⊥
RefusesCount most σ count kinds.OutOfMemory = (0 < count) × HasRoomFor most σ count
RefusesCount most σ count kinds.Failed = ⊥
RefusesCount most σ count kinds.Other = most < length σ.given.locals + count

-- why they are refused: for their type, or, where that may be written, for how many they are
abbrev pub RefusesLocals : Meaning → ℕ → State → ℕ → ValType → ErrorKind → Type 0
RefusesLocals m most σ count written k = Denies k (MayWrite m σ written) ⊎ (MayWrite m σ written × RefusesCount most σ count k)
