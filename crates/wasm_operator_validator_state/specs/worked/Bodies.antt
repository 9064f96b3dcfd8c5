-- Which operators may come where a body begins, and which not.
use Rattle.std.specs.Prelude.{false, List, [], ◌∷◌, None}
use Rattle.wasm_types.specs.values.declared.value.ValType.TheVariants.{I32}
use Rattle.wasm_operators_immediates.specs.declared.block.BlockType.{BlockType}
use Rattle.wasm_operators_immediates.specs.declared.block.BlockType.TheVariants as block
use Rattle.wasm_operators_enums.specs.declared.control.ControlOperator.TheVariants as control
use Rattle.wasm_operators_enums.specs.Op as op
use Rattle.wasm_operators_enums.specs.Op.{Op}
use Rattle.wasm_operator_validator_resources.specs.Meaning.{Meaning}
use Rattle.wasm_operator_validator_state.specs.State.{State, Accepts}
use Rattle.wasm_operator_validator_state.specs.Bodies.{fresh}

abbrev pub end : Op
end = op.Control control.End

abbrev pub else : Op
else = op.Control control.Else

abbrev pub unreachable : Op
unreachable = op.Control control.Unreachable

-- a body without features and locals that gives this
abbrev pub body_of : BlockType → State
body_of b = fresh (record { bits = 0; locals = []; params = 0; shared = false }) b (record { operands = None; frames = None; inits = None; failed = false })

abbrev pub Accepted : Meaning → BlockType → List Op → Type 0
Accepted m b os = Accepts m (body_of b) os

pub record BodiesWorked (m : Meaning) : Type 0 where
  pub empty : Accepted m block.Empty (end ∷ [])
  pub no_end : Accepted m block.Empty [] → ⊥
  pub behind_end : Accepted m block.Empty (end ∷ end ∷ []) → ⊥
  pub result_missing : Accepted m (block.Val I32) (end ∷ []) → ⊥
  pub result_unreached : Accepted m (block.Val I32) (unreachable ∷ end ∷ [])
  pub else_alone : Accepted m block.Empty (else ∷ end ∷ []) → ⊥
