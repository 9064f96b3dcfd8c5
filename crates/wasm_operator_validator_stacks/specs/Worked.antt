-- Two open frames worked by hand: a loop with one operand over a body with two, one of them unknown.
use Rattle.std.specs.Prelude.{◌≡◌, true, false, [], ◌∷◌, Some, None}
use Rattle.wasm_types.specs.values.declared.value.ValType.TheVariants.{I32, I64}
use Rattle.wasm_operators_immediates.specs.declared.block.BlockType.TheVariants as block
use Rattle.wasm_operators_immediates.specs.declared.frames.FrameKind.TheVariants as frames
use Rattle.wasm_operator_validator_state.specs.declared.operand.MaybeType.TheVariants as maybe
use Rattle.wasm_operator_validator_state.specs.State.{Open}
use Rattle.wasm_operator_validator_stacks.specs.Heights.{operands_in, frame_at, known_type}

abbrev pub inner : Open
inner = record { kind = frames.Loop; block = block.Empty; before = 3 ∷ []; operands = maybe.Known I32 ∷ []; unreachable = false }

abbrev pub outer : Open
outer = record { kind = frames.Block; block = block.FuncType 4; before = []; operands = maybe.Bottom ∷ maybe.Known I64 ∷ []; unreachable = true }

pub record HeightRows : Type 0 where
  pub operands : operands_in (inner ∷ outer ∷ []) ≡ maybe.Known I32 ∷ maybe.Bottom ∷ maybe.Known I64 ∷ []
  pub none : operands_in [] ≡ []
  pub innermost : frame_at (inner ∷ outer ∷ []) 0 ≡ Some (record { kind = frames.Loop; block_type = block.Empty; height = 2; unreachable = false; init_height = 1 })
  pub outermost : frame_at (inner ∷ outer ∷ []) 1 ≡ Some (record { kind = frames.Block; block_type = block.FuncType 4; height = 0; unreachable = true; init_height = 0 })
  pub no_frame : frame_at (inner ∷ outer ∷ []) 2 ≡ None
  pub known : known_type (maybe.Known I64) ≡ Some I64
  pub unknown : known_type maybe.Bottom ≡ None
  pub unknown_reference : known_type (maybe.UnknownRef None) ≡ None
