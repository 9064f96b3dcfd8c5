-- Which bytes a validator accepts as an expression, and why it refuses others.
use Rattle.std.specs.Prelude.{◌≡◌, ◌↔◌, ◌⊎◌, ◌+◌, ℕ, [], true, Option, Some, None, is_some, Result, Ok, Err, IfErr, OnOk, length}
use Rattle.wasm_types.specs.decoding.Decoder.{State as Bytes}
use Rattle.wasm_types.specs.decoding.Denials.{Tells}
use Rattle.wasm_types.specs.decoding.ErrorValue.{ErrorValue}
use Rattle.wasm_types.specs.decoding.declared.error.ErrorKind.{ErrorKind}
use Rattle.wasm_types.specs.decoding.declared.error.ErrorKind.TheVariants as kinds
use Rattle.wasm_operators_immediates.specs.declared.block.BlockType.{BlockType}
use Rattle.wasm_operators_encoding.specs.expressions.Code.{Code, walk}
use Rattle.wasm_operators_encoding.specs.expressions.Spelling.{SpelledExpression}
use Rattle.wasm_operators_reader.specs.Standing.{Standing, at_start}
use Rattle.wasm_operators_reader.specs.Walking.{VisitsAll}
use Rattle.wasm_operators_reader.specs.walks.Whole.{TellsTo, TellsUntilAt, Stops}
use Rattle.wasm_operator_validator_rules.specs.Typed.{IsBody}
use Rattle.wasm_operator_validator_state.specs.resources.Meaning.{Meaning}
use Rattle.wasm_operator_validator_state.specs.declared.refusal.Refusal.{Refusal}
use Rattle.wasm_operator_validator_state.specs.Refusals.{OfContent, kind_of, refused_by}
use Rattle.wasm_operator_validator_state.specs.State.{Given, Saved, State, Accepts, Visits}
use Rattle.wasm_operator_validator_state.specs.Bodies.{fresh, body_context}
use Rattle.wasm_operator_validator_expression.specs.declared.validating.Refused.{Refused}

-- ---- answers of one bit

-- the kind of what was refused, if it was, where this is why
abbrev pub refused_for : {X : Type 0} → Refusal → Result X Refused → Option ErrorKind
refused_for r (Ok x) = None
refused_for r (Err s) = Some (kind_of r)

-- ---- which bytes

-- the bytes spell one expression, whose operators may come from here on
abbrev pub AcceptsExpression : Meaning → State → Bytes → Type 0
AcceptsExpression m σ s = (c : Code) × SpelledExpression s.settings c s.rest × Accepts m σ (walk c)

-- the bytes spell the body of a function, which is well typed (WebAssembly 3.0, validation, functions)
abbrev pub SpellsTypedBody : Meaning → Given → BlockType → Bytes → Type 0
SpellsTypedBody m w b s = (c : Code) × SpelledExpression s.settings c s.rest × IsBody (body_context m w b) w.params c

-- where a body begins these are the same
abbrev pub BodiesAreExpressions : Type 0
BodiesAreExpressions = (m : Meaning) (w : Given) (b : BlockType) (saved : Saved) (s : Bytes) → AcceptsExpression m (fresh w b saved) s
    ↔ SpellsTypedBody m w b s

-- ---- why others are refused, and where

-- an operator was refused before
abbrev pub StopsAtOnce : State → Bytes → ErrorValue → Type 0
StopsAtOnce σ s e = (σ.failed ≡ true) × (e.kind ≡ kinds.Failed) × (e.offset ≡ s.place)

-- some operators were accepted, and behind them nothing more is read
abbrev pub StopsReading : Meaning → State → Bytes → ErrorValue → Type 0
StopsReading m σ s e = (t : Standing) × (ρ : State) × TellsTo (Visits m) None (at_start s) σ t ρ × Stops t e

-- some operators were accepted, and the next is refused, at its offset
abbrev pub StopsAtOperator : Meaning → State → Bytes → ErrorValue → State → Type 0
StopsAtOperator m σ s e τ = (place : ℕ) × TellsUntilAt (Visits m) None (at_start s) σ (Some e.kind) τ place
    × OfContent e.kind (e.offset ≡ place)

-- an expression was accepted, to the end of the bytes, and a frame is still open
abbrev pub StopsAtEnd : Meaning → State → Bytes → ErrorValue → Type 0
StopsAtEnd m σ s e =
    (c : Code) × (ρ : State) × SpelledExpression s.settings c s.rest × VisitsAll (Visits m) None σ (walk c) ρ × (ρ.opens ≡ [] → ⊥)
    × (e.kind ≡ kinds.Other) × (e.offset ≡ s.place + length s.rest)

abbrev pub StopsBy : Meaning → State → Bytes → ErrorValue → State → Type 0
StopsBy m σ s e τ = StopsAtOnce σ s e ⊎ (StopsReading m σ s e ⊎ (StopsAtOperator m σ s e τ ⊎ StopsAtEnd m σ s e))

-- ---- what a validation promises

-- It is not refused exactly where the bytes spell an expression that may come, out of memory aside; where an operator was refused
-- before it is refused for that. Behind it no frame is open, or the validator has failed. What never changes, and what was saved, stay.
pub record Validates (m : Meaning) (σ : State) (s : Bytes) (answer : Result (Unit {0}) ErrorValue) (τ : State) : Type 0 where
  pub exact : Tells answer (AcceptsExpression m σ s)
  pub stopped : σ.failed ≡ true → refused_by answer ≡ Some kinds.Failed
  pub stops : IfErr answer (λ e. StopsBy m σ s e τ)
  pub ended : OnOk answer (τ.opens ≡ [])
  pub given : τ.given ≡ σ.given
  pub failed : τ.failed ≡ is_some (refused_by answer)
  pub saved : τ.saved ≡ σ.saved
