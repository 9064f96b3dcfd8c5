-- What an operator does behind which nothing is reached.
use Rattle.std.specs.Prelude.{List}
use Rattle.wasm_operator_validator_rules.specs.Operands.{ValueType, Operand, stack}
use Rattle.wasm_operator_validator_state.specs.resources.Meaning.{Meaning}
use Rattle.wasm_operator_validator_state.specs.State.{State}
use Rattle.wasm_operator_validator_state.specs.Steps.{Stacks, Same, MayPop}

-- operands of these types were there, and from here on they may be any
pub record Jumps (m : Meaning) (σ : State) (ts : List ValueType) (τ : State) : Type 0 where
  pub same : Same σ τ
  pub were : MayPop m σ (stack ts)
  pub stacks : (s : List Operand) → Stacks m τ s
