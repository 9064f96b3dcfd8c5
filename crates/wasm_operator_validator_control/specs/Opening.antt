-- What opening a frame does to a validator.
use Rattle.std.specs.Prelude.{◌↔◌, List}
use Rattle.wasm_operators_immediates.specs.declared.block.BlockType.{BlockType}
use Rattle.wasm_operators_immediates.specs.declared.frames.FrameKind.{FrameKind}
use Rattle.wasm_operators_enums.specs.Op.{Op}
use Rattle.wasm_operator_validator_rules.specs.Operands.{stack}
use Rattle.wasm_operator_validator_state.specs.resources.Meaning.{Meaning}
use Rattle.wasm_operator_validator_state.specs.State.{State, signature_of, Accepts}
use Rattle.wasm_operator_validator_state.specs.Steps.{Popped}
use Rattle.wasm_operator_validator_state.specs.laws.Frames.{BeginsFrame}

-- the parameters were taken off, and the frame begins over what was left
pub record Opened (m : Meaning) (σ : State) (k : FrameKind) (bt : BlockType) (τ : State) : Type 0 where
  pub left : State
  pub popped : Popped m σ (stack (signature_of m bt).params) left
  pub begins : (os : List Op) → BeginsFrame m left k bt os ↔ Accepts m τ os
