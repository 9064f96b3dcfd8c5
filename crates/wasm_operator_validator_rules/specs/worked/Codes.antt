-- Code that is typed and code that is not.
use Rattle.std.specs.Prelude.{◌≡◌, ℕ, ℤ, true, false, [], ◌∷◌}
use Rattle.wasm_types.specs.trees.Types.{i32, i64, number}
use Rattle.wasm_types.specs.values.declared.value.ValType.TheVariants as value
use Rattle.wasm_operators_immediates.specs.declared.block.BlockType.TheVariants as block
use Rattle.wasm_operators_immediates.specs.declared.frames.FrameKind.TheVariants as frames
use Rattle.wasm_operators_enums.specs.declared.control.ControlOperator.TheVariants as control
use Rattle.wasm_operators_enums.specs.declared.memory.MemoryOperator.TheVariants as memory
use Rattle.wasm_operators_enums.specs.declared.constant.ConstOperator.TheVariants as const
use Rattle.wasm_operators_enums.specs.declared.numeric.NumericOperator.TheVariants as numeric
use Rattle.wasm_operators_enums.specs.Op as op
use Rattle.wasm_operators_enums.specs.Op.{Op}
use Rattle.wasm_operators_encoding.specs.expressions.Code.{Code, close, plain, nested, turn}
use Rattle.wasm_operator_validator_rules.specs.Context.{Signature, Frame, Initialised, inside, initialised_at_first}
use Rattle.wasm_operator_validator_rules.specs.Typed.{Typed, other_part, in_part}
use Rattle.wasm_operator_validator_rules.specs.worked.Contexts.{somewhere}

-- operators by short names
abbrev pub end : Code
end = close (op.Control control.End)

abbrev pub constant : ℤ → Op
constant x = op.Const (const.I32Const x)

abbrev pub sum : Op
sum = op.Numeric numeric.I32Add

abbrev pub unreachable : Op
unreachable = op.Control control.Unreachable

abbrev pub drop : Op
drop = op.Parametric op.Drop

abbrev pub block_of : Op
block_of = op.Control (control.Block block.Empty)

abbrev pub if_of : Op
if_of = op.Control (control.If block.Empty)

abbrev pub if_i32 : Op
if_i32 = op.Control (control.If (block.Val value.I32))

abbrev pub other : Op
other = op.Control control.Else

abbrev pub catch : Op
catch = op.Exception (op.Catch 0)

abbrev pub catch_all : Op
catch_all = op.Exception op.CatchAll

abbrev pub get : ℕ → Op
get x = op.Memory (memory.LocalGet x)

abbrev pub set : ℕ → Op
set x = op.Memory (memory.LocalSet x)

-- of the locals of the worked function, the numbers alone are initialised
abbrev pub at_first : Initialised
at_first = initialised_at_first 0 somewhere.locals

abbrev pub body : Signature → Frame
body b = record { kind = frames.Block; block = b; before = at_first }

-- from nothing to an i32; from nothing to nothing
abbrev pub one : Frame
one = body (record { params = []; results = number i32 ∷ [] })

abbrev pub nothing : Frame
nothing = body (record { params = []; results = [] })

abbrev pub IsTyped : Frame → Code → Type 0
IsTyped f c = Typed somewhere f at_first c []

abbrev pub IsNotTyped : Frame → Code → Type 0
IsNotTyped f c = Typed somewhere f at_first c [] → ⊥

pub record CodesWorked (x : ℤ) : Type 0 where
  pub empty_code : IsTyped nothing end
  pub result_missing : IsNotTyped one end
  pub one_constant : IsTyped one (plain (constant x) end)
  pub left_over : IsNotTyped nothing (plain (constant x) end)
  pub two_summed : IsTyped one (plain (constant x) (plain (constant x) (plain sum end)))
  pub operand_missing : IsNotTyped one (plain (constant x) (plain sum end))
  pub behind_unreachable : IsTyped one (plain unreachable (plain sum end))
  pub reference_unset : IsNotTyped nothing (plain (get 2) (plain drop end))
  pub number_set : IsTyped nothing (plain (get 1) (plain drop end))
  pub parameter_set : Typed somewhere nothing (initialised_at_first 3 somewhere.locals) (plain (get 2) (plain drop end)) []
  pub empty_block : IsTyped one (nested block_of end (plain (constant x) end))
  pub block_left_over : IsNotTyped nothing (nested block_of (plain (constant x) end) end)
  pub if_alone : IsTyped nothing (plain (constant x) (nested if_of end end))
  pub if_gives : IsNotTyped one (plain (constant x) (nested if_i32 (plain (constant x) end) end))
  pub if_else : IsTyped one (plain (constant x) (nested if_i32 (plain (constant x) (turn other (plain (constant x) end))) end))
  pub else_missing : IsNotTyped one (plain (constant x) (nested if_i32 (plain (constant x) (turn other end)) end))
  pub closed_by_nop : IsNotTyped nothing (close (op.Control control.Nop))
  pub turned_by_nop : IsNotTyped nothing (turn (op.Control control.Nop) end)
  pub catch_unknown : IsNotTyped nothing (turn catch end)

-- the contexts of blocks and clauses, and the kind of each part of a frame
pub record PartsWorked : Type 0 where
  pub in_block : (inside frames.Block (number i64 ∷ []) somewhere).catches ≡ false ∷ false ∷ false ∷ []
  pub in_catch : (inside frames.LegacyCatch [] somewhere).catches ≡ true ∷ false ∷ false ∷ []
  pub label : (inside frames.Loop (number i64 ∷ []) somewhere).labels ≡ (number i64 ∷ []) ∷ (number i64 ∷ []) ∷ (number i32 ∷ []) ∷ []
  pub from_catch : (in_part catch somewhere).catches ≡ true ∷ false ∷ []
  pub from_else : (in_part other somewhere).catches ≡ false ∷ false ∷ []
  pub else_part : (other_part other one).kind ≡ frames.Else
  pub catch_part : (other_part catch one).kind ≡ frames.LegacyCatch
  pub catch_all_part : (other_part catch_all one).kind ≡ frames.LegacyCatchAll
