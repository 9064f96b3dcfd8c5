-- What a log of an attempt keeps, and what it takes back.
use Rattle.std.specs.Prelude.{◌≡◌, ◌<◌, ◌^◌, ◌-◌, ℕ, Bool, true, false, List, [], ◌∷◌, ◌++◌, length, take, drop}
use Rattle.wasm_operator_validator_state.specs.declared.operand.MaybeType.{MaybeType}
use Rattle.wasm_operator_validator_state.specs.declared.frame.Frame.{Frame}

-- The stacks of a validator: operands and open frames, the top first, and the locals that were set, in order.
pub record Stacks : Type 0 where
  pub operands : List MaybeType
  pub frames : List Frame
  pub set : List ℕ

-- What a log keeps of an attempt. Of operands: how many on top were put on since it began, and those that stood there then and
-- were taken off, in order. Of frames: the same; and whether the innermost that still stands was reached then, and is not any
-- more. Of locals: how many of those that were set then were never taken back, and the others.
pub record Log : Type 0 where
  pub pushed : ℕ
  pub popped : List MaybeType
  pub opened : ℕ
  pub closed : List Frame
  pub marked : Bool
  pub kept : ℕ
  pub unset : List ℕ

-- the log of an attempt that begins where so many locals are set
abbrev pub begun : ℕ → Log
begun height = record { pushed = 0; popped = []; opened = 0; closed = []; marked = false; kept = height; unset = [] }

-- a frame as it was where the attempt began
abbrev pub reached : Bool → Frame → Frame
reached false f = f
reached true f = record f { unreachable = false }

abbrev pub innermost_reached : Bool → List Frame → List Frame
innermost_reached marked [] = []
innermost_reached marked (f ∷ outer) = reached marked f ∷ outer

-- the stacks that stood where the attempt began, from those that stand now
abbrev pub undone : Log → Stacks → Stacks
undone l s = record {
  operands = l.popped ++ drop l.pushed s.operands;
  frames = l.closed ++ innermost_reached l.marked (drop l.opened s.frames);
  set = take l.kept s.set ++ l.unset;
}

-- there are fewer items on each stack than numbers of 64 bits
pub record AreCounted (s : Stacks) : Type 0 where
  pub operands : length s.operands < 2 ^ 64
  pub frames : length s.frames < 2 ^ 64

-- a note in the log leads from these stacks to those: the attempt began where it did
abbrev pub Notes : Log → Stacks → Log → Stacks → Type 0
Notes l s k t = AreCounted t → undone k t ≡ undone l s

-- ---- what may be done to the stacks

abbrev pub with_operand : MaybeType → Stacks → Stacks
with_operand x s = record s { operands = x ∷ s.operands }

abbrev pub with_frame : Frame → Stacks → Stacks
with_frame f s = record s { frames = f ∷ s.frames }

-- nothing is reached in a frame any more
abbrev pub unreached : Frame → Frame
unreached f = record f { unreachable = true }

-- of locals that were set on top of so many, those that are among the first `kept`
abbrev pub lost : ℕ → ℕ → List ℕ → List ℕ
lost kept height xs = take (kept - height) xs

-- these locals were set on top of the others
abbrev pub with_set : List ℕ → Stacks → Stacks
with_set xs s = record s { set = s.set ++ xs }
