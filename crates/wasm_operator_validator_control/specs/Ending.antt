-- What ending a frame does to a validator.
use Rattle.wasm_operators_immediates.specs.declared.block.BlockType.{BlockType}
use Rattle.wasm_operator_validator_rules.specs.Operands.{stack}
use Rattle.wasm_operator_validator_state.specs.resources.Meaning.{Meaning}
use Rattle.wasm_operator_validator_state.specs.declared.frame.Frame.{Frame as OpenFrame}
use Rattle.wasm_operator_validator_state.specs.State.{State, signature_of}
use Rattle.wasm_operator_validator_state.specs.Steps.{Stacks, Popped, Leaves}

-- the results were taken off, and the innermost frame was left, which had nothing else
pub record Finishes (m : Meaning) (σ : State) (bt : BlockType) (τ : State) : Type 0 where
  pub bare : State
  pub frame : OpenFrame
  pub popped : Popped m σ (stack (signature_of m bt).results) bare
  pub leaves : Leaves bare frame τ

-- the results, and nothing else, may be what the innermost frame has
abbrev pub MayFinish : Meaning → State → BlockType → Type 0
MayFinish m σ bt = Stacks m σ (stack (signature_of m bt).results)
