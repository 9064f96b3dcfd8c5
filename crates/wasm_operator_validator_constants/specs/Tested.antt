-- Expressions whose operators pass a test, each before it is validated: which bytes these are, and why others are refused.
--
-- The test is any fact of an operator, and so is what is said of the kind of a refusal. Both stay the same all the way.
use Rattle.std.specs.Prelude.{◌≡◌, ◌⊎◌, ◌+◌, ℕ, List, [], ◌∷◌, true, Option, Some, None, Result, IfErr, length}
use Rattle.wasm_types.specs.decoding.Decoder.{State as Bytes}
use Rattle.wasm_types.specs.decoding.Denials.{Tells}
use Rattle.wasm_types.specs.decoding.ErrorValue.{ErrorValue}
use Rattle.wasm_types.specs.decoding.declared.error.ErrorKind.{ErrorKind}
use Rattle.wasm_types.specs.decoding.declared.error.ErrorKind.TheVariants as kinds
use Rattle.wasm_types.specs.reader.Reading.{IsNotMemory}
use Rattle.wasm_operators_enums.specs.Op.{Op}
use Rattle.wasm_operators_encoding.specs.expressions.Code.{Code, walk}
use Rattle.wasm_operators_encoding.specs.expressions.Spelling.{SpelledExpression}
use Rattle.wasm_operators_reader.specs.Standing.{Standing, at_start}
use Rattle.wasm_operators_reader.specs.Walking.{VisitsAll}
use Rattle.wasm_operators_reader.specs.walks.Whole.{TellsTo, TellsUntilAt, Stops}
use Rattle.wasm_operator_validator_state.specs.resources.Meaning.{Meaning}
use Rattle.wasm_operator_validator_state.specs.Refusals.{OfContent}
use Rattle.wasm_operator_validator_state.specs.State.{State, Accepts, Visits}

-- ---- one operator

-- it is refused with a kind of which this holds, and not for memory
abbrev pub IsRefused : (ErrorKind → Type 0) → Option ErrorKind → Type 0
IsRefused Why None = ⊥
IsRefused Why (Some k) = IsNotMemory k × Why k

-- What a visit promises of an operator that is tested first. One that passes is validated; one that does not is refused, as `Why` says,
-- and the validator has failed then.
abbrev pub VisitsTested : (Op → Type 0) → (Op → ErrorKind → Type 0) → Meaning → State → Op → Option ErrorKind → State → Type 0
VisitsTested Passes Why m σ o answer τ =
    (Passes o × Visits m σ o answer τ) ⊎ ((Passes o → ⊥) × IsRefused (Why o) answer × (τ ≡ record σ { failed = true }))

-- ---- which bytes

-- each of them passes
abbrev pub EachPasses : (Op → Type 0) → List Op → Type 0
EachPasses Passes [] = Unit {0}
EachPasses Passes (o ∷ os) = Passes o × EachPasses Passes os

-- the bytes spell one expression, whose operators may come from here on, and each passes
abbrev pub AcceptsTested : (Op → Type 0) → Meaning → State → Bytes → Type 0
AcceptsTested Passes m σ s = (c : Code) × SpelledExpression s.settings c s.rest × Accepts m σ (walk c) × EachPasses Passes (walk c)

-- ---- why others are refused, and where

-- some operators were accepted, and behind them nothing more is read
abbrev pub StopsReading : (Op → Type 0) → (Op → ErrorKind → Type 0) → Meaning → State → Bytes → ErrorValue → Type 0
StopsReading Passes Why m σ s e = (t : Standing) × (ρ : State) × TellsTo (VisitsTested Passes Why m) None (at_start s) σ t ρ
    × Stops t e

-- some operators were accepted, and the next is refused, at its offset
abbrev pub StopsAtOperator : (Op → Type 0) → (Op → ErrorKind → Type 0) → Meaning → State → Bytes → ErrorValue → Type 0
StopsAtOperator Passes Why m σ s e =
    (place : ℕ) × (τ : State) × TellsUntilAt (VisitsTested Passes Why m) None (at_start s) σ (Some e.kind) τ place × OfContent e.kind (e.offset ≡ place)

-- an expression was accepted, to the end of the bytes, and a frame is still open
abbrev pub StopsAtEnd : (Op → Type 0) → (Op → ErrorKind → Type 0) → Meaning → State → Bytes → ErrorValue → Type 0
StopsAtEnd Passes Why m σ s e =
    (c : Code) × (ρ : State) × SpelledExpression s.settings c s.rest × VisitsAll (VisitsTested Passes Why m) None σ (walk c) ρ × (ρ.opens ≡ [] → ⊥)
    × (e.kind ≡ kinds.Other) × (e.offset ≡ s.place + length s.rest)

abbrev pub StopsTested : (Op → Type 0) → (Op → ErrorKind → Type 0) → Meaning → State → Bytes → ErrorValue → Type 0
StopsTested Passes Why m σ s e = StopsReading Passes Why m σ s e ⊎ (StopsAtOperator Passes Why m σ s e ⊎ StopsAtEnd Passes Why m σ s e)

-- It is not refused exactly where the bytes spell an expression that may come and each of whose operators passes, out of memory aside;
-- a refusal comes where this says.
pub record ValidatesTested (Passes : Op → Type 0) (Why : Op → ErrorKind → Type 0) (m : Meaning) (σ : State) (s : Bytes)
    (answer : Result (Unit {0}) ErrorValue) : Type 0 where
  pub exact : Tells answer (AcceptsTested Passes m σ s)
  pub stops : IfErr answer (StopsTested Passes Why m σ s)
