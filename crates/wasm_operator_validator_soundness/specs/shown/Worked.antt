-- Worked: what a validator knows along a body that makes a number and drops it, and what it does not.
use Rattle.std.specs.Prelude.{ℤ, Bool, true, false, List, [], ◌∷◌, None}
use Rattle.wasm_types.specs.trees.Types.{i32, i64, number}
use Rattle.wasm_types.specs.values.declared.value.ValType.TheVariants.{I32, I64}
use Rattle.wasm_operators_immediates.specs.declared.block.BlockType.TheVariants as block
use Rattle.wasm_operators_immediates.specs.declared.frames.FrameKind.TheVariants as frames
use Rattle.wasm_operators_enums.specs.declared.control.ControlOperator.TheVariants as control
use Rattle.wasm_operators_enums.specs.Op as op
use Rattle.wasm_operators_enums.specs.Op.{Op}
use Rattle.wasm_operators_encoding.specs.expressions.Code.{Code, close, plain}
use Rattle.wasm_operator_validator_rules.specs.Operands.{Operand, known}
use Rattle.wasm_operator_validator_rules.specs.Context.{Initialised, Frame}
use Rattle.wasm_operator_validator_rules.specs.worked.Codes.{constant, drop}
use Rattle.wasm_operator_validator_state.specs.resources.Meaning.{Meaning}
use Rattle.wasm_operator_validator_state.specs.declared.operand.MaybeType.{MaybeType}
use Rattle.wasm_operator_validator_state.specs.declared.operand.MaybeType.TheVariants as maybe
use Rattle.wasm_operator_validator_state.specs.State.{Open, State, context, frame_of, initialised}
use Rattle.wasm_operator_validator_soundness.specs.shown.Leading.{Leads, Walks}
use Rattle.wasm_operator_validator_soundness.specs.shown.Shown.{Shows}

-- the body of a function without parameters, results and locals, by no features: its frame with these operands
abbrev pub open_with : Bool → List MaybeType → Open
open_with unreachable ks = record { kind = frames.Block; block = block.Empty; before = []; operands = ks; unreachable = unreachable }

abbrev pub state_with : List Open → State
state_with opens = record {
  given = record { bits = 0; locals = []; params = 0; shared = false };
  inits = [];
  opens = opens;
  failed = false;
  saved = record { operands = None; frames = None; inits = None; failed = false };
}

abbrev pub with_operands : List MaybeType → State
with_operands ks = state_with (open_with false ks ∷ [])

abbrev pub behind_end : State
behind_end = state_with []

abbrev pub end : Op
end = op.Control control.End

abbrev pub one_dropped : ℤ → Code
one_dropped x = plain (constant x) (plain drop (close end))

-- what is known there is what a typing says that has these operands
abbrev pub ShowsAt : Meaning → Bool → List MaybeType → List Operand → Type 0
ShowsAt m unreachable ks s = Shows m (state_with (open_with unreachable ks ∷ []))
    (context m (with_operands []).given (with_operands []).opens) (frame_of m (with_operands []).given (open_with false []))
    (initialised m (with_operands []).given []) s

pub record ShownWorked (m : Meaning) (x : ℤ) : Type 0 where
  -- an `i32` after the constant, and nothing after it was dropped; then the frame is closed
  pub made : Leads m (with_operands []) (constant x) (with_operands (maybe.Known I32 ∷ []))
  pub dropped : Leads m (with_operands (maybe.Known I32 ∷ [])) drop (with_operands [])
  pub ended : Leads m (with_operands []) end behind_end
  pub whole : Walks m (one_dropped x) (with_operands []) behind_end
  -- no other type, none that is not known, and no fewer operands
  pub made_other : Leads m (with_operands []) (constant x) (with_operands (maybe.Known I64 ∷ [])) → ⊥
  pub made_unknown : Leads m (with_operands []) (constant x) (with_operands (maybe.Bottom ∷ [])) → ⊥
  pub made_nothing : Leads m (with_operands []) (constant x) (with_operands []) → ⊥
  pub left_over : Leads m (with_operands (maybe.Known I32 ∷ [])) end behind_end → ⊥
  -- an `i32` that is known is an `i32` of the typing
  pub known_itself : ShowsAt m false (maybe.Known I32 ∷ []) (known (number i32) ∷ [])
  pub known_other : ShowsAt m false (maybe.Known I32 ∷ []) (known (number i64) ∷ []) → ⊥
  pub known_more : ShowsAt m false (maybe.Known I32 ∷ []) (known (number i32) ∷ known (number i32) ∷ []) → ⊥
  -- in a frame that is not reached there may be more
  pub unreached : ShowsAt m true (maybe.Known I32 ∷ []) (known (number i32) ∷ known (number i64) ∷ [])
