-- What a visit that answers an error promises.
use Rattle.std.specs.Prelude.{ℕ, Result}
use Rattle.wasm_types.specs.decoding.ErrorValue.{ErrorValue}
use Rattle.wasm_types.specs.decoding.Denials.{RefusedAt}
use Rattle.wasm_operators_enums.specs.Op.{Op}
use Rattle.wasm_operator_validator_arity.specs.resources.Meaning.{Meaning}
use Rattle.wasm_operator_validator_state.specs.Refusals.{refused_by}
use Rattle.wasm_operator_validator_state.specs.State.{State, Visits}

-- It decides the operator, and an error that is not for memory has the offset that was named.
pub record Tells (m : Meaning) (σ : State) (offset : ℕ) (o : Op) (answer : Result (Unit {0}) ErrorValue) (τ : State) : Type 0 where
  pub visits : Visits m σ o (refused_by answer) τ
  pub at : RefusedAt offset answer
