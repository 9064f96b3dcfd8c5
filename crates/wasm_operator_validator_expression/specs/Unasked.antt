-- Operators on vectors, while a set of features does not ask that they be judged: code that is valid then has none.
use Rattle.std.specs.Prelude.{ℕ, ◌<◌, ◌^◌, List}
use Rattle.wasm_operators_enums.specs.Op.{Op}
use Rattle.wasm_operators_encoding.specs.expressions.Code.{Code, walk}
use Rattle.wasm_operator_validator_rules.specs.Context.{Context}
use Rattle.wasm_operator_validator_rules.specs.Typed.{IsBody}
use Rattle.wasm_operator_validator_state.specs.resources.Meaning.{Meaning}
use Rattle.wasm_operator_validator_state.specs.State.{State, Accepts}
-- none of the operators is on vectors
pub use Rattle.wasm_operators_reader.specs.Walking.{HasNoVectors}

-- by features alone, the body of a function that is well typed has none
abbrev pub BodiesHaveNoVectors : Type 0
BodiesHaveNoVectors = (g : Context) (params : ℕ) (c : Code) → g.bits < 2 ^ 28 → IsBody g params c → HasNoVectors (walk c)

-- and so have operators that a validator accepts
abbrev pub AcceptedHaveNoVectors : Type 0
AcceptedHaveNoVectors = (m : Meaning) (σ : State) (os : List Op) → σ.given.bits < 2 ^ 28 → Accepts m σ os → HasNoVectors os
