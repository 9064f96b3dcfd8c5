-- Logs worked by hand: what they give back, and what not.
use Rattle.std.specs.Prelude.{◌≡◌, ◌≤◌, ℕ, true, false, List, [], ◌∷◌, length, None}
use Rattle.wasm_operator_validator_state.specs.declared.operand.MaybeType.{MaybeType}
use Rattle.wasm_operator_validator_state.specs.declared.operand.MaybeType.TheVariants as maybe
use Rattle.wasm_operator_validator_state.specs.declared.frame.Frame.{Frame}
use Rattle.wasm_operators_immediates.specs.declared.block.BlockType.TheVariants as block
use Rattle.wasm_operators_immediates.specs.declared.frames.FrameKind.TheVariants as frames
use Rattle.wasm_operator_validator_state.specs.attempts.Log.{Stacks, Log, begun, undone, with_set}

-- a loop that is reached, and that is not, over no operands
abbrev pub reached_loop : Frame
reached_loop = record { kind = frames.Loop; block_type = block.Empty; height = 0; unreachable = false; init_height = 1 }

abbrev pub unreached_loop : Frame
unreached_loop = record reached_loop { unreachable = true }

abbrev pub stacks : List MaybeType → List Frame → List ℕ → Stacks
stacks os fs xs = record { operands = os; frames = fs; set = xs }

pub record LogRows : Type 0 where
  -- where nothing was noted, what stands stood
  pub nothing : undone (begun 1) (stacks (maybe.Bottom ∷ []) (reached_loop ∷ []) (5 ∷ [])) ≡ stacks (maybe.Bottom ∷ []) (reached_loop ∷ []) (5 ∷ [])
  -- an operand was taken off, and two others put on
  pub operands : undone (record (begun 0) { pushed = 2; popped = maybe.Bottom ∷ [] }) (stacks (maybe.UnknownRef None ∷ maybe.UnknownRef None ∷ []) [] []) ≡ stacks (maybe.Bottom ∷ []) [] []
  -- what was put on does not stay
  pub dropped : undone (record (begun 0) { pushed = 1 }) (stacks (maybe.Bottom ∷ []) [] []) ≡ stacks (maybe.Bottom ∷ []) [] [] → ⊥
  -- a frame was opened over one in which nothing is reached any more
  pub marked : undone (record (begun 0) { opened = 1; marked = true }) (stacks [] (reached_loop ∷ unreached_loop ∷ []) []) ≡ stacks [] (reached_loop ∷ []) []
  -- that it is not reached does not stay
  pub unmarked : undone (record (begun 0) { marked = true }) (stacks [] (unreached_loop ∷ []) []) ≡ stacks [] (unreached_loop ∷ []) [] → ⊥
  -- a frame was closed, and in it one local taken back
  pub closed : undone (record (begun 2) { closed = reached_loop ∷ []; kept = 1; unset = 7 ∷ [] }) (stacks [] [] (5 ∷ 9 ∷ [])) ≡ stacks [] (reached_loop ∷ []) (5 ∷ 7 ∷ [])

-- locals that an attempt sets need no note: they do not stay
abbrev pub SetLocalsAreForgotten : Type 0
SetLocalsAreForgotten = (l : Log) (s : Stacks) (xs : List ℕ) → l.kept ≤ length s.set → undone l (with_set xs s) ≡ undone l s

-- of an attempt that began with these stacks a log keeps at most as many operands and frames as there were
abbrev pub KeepsNoMore : Type 0
KeepsNoMore = (l : Log) (s before : Stacks) → undone l s ≡ before → (length l.popped ≤ length before.operands) × (length l.closed ≤ length before.frames)
