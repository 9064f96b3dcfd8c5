-- How many operands there are, and how a frame lies over those around it.
use Rattle.std.specs.Prelude.{ℕ, zero, suc, List, [], ◌∷◌, ◌++◌, length, Option, Some, None}
use Rattle.wasm_types.specs.values.declared.value.ValType.{ValType}
use Rattle.wasm_operator_validator_state.specs.declared.operand.MaybeType.{MaybeType}
use Rattle.wasm_operator_validator_state.specs.declared.operand.MaybeType.TheVariants as maybe
use Rattle.wasm_operator_validator_state.specs.declared.frame.Frame.{Frame}
use Rattle.wasm_operator_validator_state.specs.State.{Open}

-- the operands of all these frames, the top first
abbrev pub operands_in : List Open → List MaybeType
operands_in [] = []
operands_in (o ∷ outer) = o.operands ++ operands_in outer

-- a frame as it lies over those around it
abbrev pub frame_over : Open → List Open → Frame
frame_over o outer = record {
  kind = o.kind;
  block_type = o.block;
  height = length (operands_in outer);
  unreachable = o.unreachable;
  init_height = length o.before;
}

-- the frame that a label names, which counts outwards from the innermost
abbrev pub frame_at : List Open → ℕ → Option Frame
frame_at [] n = None
frame_at (o ∷ outer) zero = Some (frame_over o outer)
frame_at (o ∷ outer) (suc n) = frame_at outer n

-- the type of an operand, if it is known
abbrev pub known_type : MaybeType → Option ValType
known_type maybe.Bottom = None
known_type (maybe.UnknownRef a) = None
known_type (maybe.Known t) = Some t
