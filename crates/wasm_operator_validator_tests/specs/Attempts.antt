-- What a log of an attempt is told, and whether an attempt is under way.
use Rattle.std.specs.Prelude.{◌≡◌, ◌≤◌, ◌^◌, true, [], length, Result, Ok, Err}
use Rattle.std.specs.declared.alloc.AllocError.{AllocError}
use Rattle.wasm_operator_validator_state.specs.declared.operand.MaybeType.TheVariants as maybe
use Rattle.wasm_operator_validator_state.specs.declared.attempts.log.RollbackLogAllocations.{RollbackLogAllocations}
use Rattle.wasm_operator_validator_state.specs.declared.attempts.transaction.Transaction.TheVariants as transaction
use Rattle.wasm_operator_validator_state.specs.attempts.Log.{Stacks, Log, AreCounted, begun, Notes, with_operand, with_frame, unreached}
use Rattle.wasm_operator_validator_state.specs.attempts.Transactions.{IsActive, IsInactive, Maps}
use Rattle.wasm_operator_validator_state.specs.attempts.Worked.{stacks, reached_loop, unreached_loop}

-- ---- notes

abbrev pub bare : Stacks
bare = stacks [] [] []

-- an operand that was put on, and a frame that was opened, leave where the attempt began what it was if they are noted, and else not
pub record NotesRows : Type 0 where
  pub operand : Notes (begun 0) bare (record (begun 0) { pushed = 1 }) (with_operand maybe.Bottom bare)
  pub operand_unnoted : Notes (begun 0) bare (begun 0) (with_operand maybe.Bottom bare) → ⊥
  pub frame : Notes (begun 0) bare (record (begun 0) { opened = 1 }) (with_frame reached_loop bare)
  pub frame_unnoted : Notes (begun 0) bare (begun 0) (with_frame reached_loop bare) → ⊥
  pub mark : Notes (begun 0) (with_frame reached_loop bare) (record (begun 0) { marked = true }) (with_frame (unreached reached_loop) bare)
  pub mark_unnoted : Notes (begun 0) (with_frame reached_loop bare) (begun 0) (with_frame (unreached reached_loop) bare) → ⊥
  pub uncounted : (l k : Log) (s t : Stacks) → 2 ^ 64 ≤ length t.operands → Notes l s k t
  pub too_many_frames : (s : Stacks) → 2 ^ 64 ≤ length s.frames → AreCounted s → ⊥
  pub marked : unreached reached_loop ≡ unreached_loop

-- ---- attempts

-- the answer to telling a log
abbrev pub Answer : Type 0
Answer = Result (Unit {0}) AllocError

-- nothing is told
abbrev pub Stays : Log → Answer → Log → Type 0
Stays l answer k = (answer ≡ Ok tt) × (k ≡ l)

pub record AttemptsRows (a : RollbackLogAllocations) (e : AllocError) : Type 0 where
  pub active : IsActive (transaction.Active (begun 3)) (begun 3)
  pub of_another : IsActive (transaction.Active (begun 3)) (begun 4) → ⊥
  pub none_active : IsActive (transaction.Inactive a) (begun 3) → ⊥
  pub inactive : IsInactive (transaction.Inactive a)
  pub not_inactive : IsInactive (transaction.Active (begun 3)) → ⊥
  pub told : Maps Stays (transaction.Active (begun 3)) (Ok tt) (transaction.Active (begun 3))
  pub told_otherwise : Maps Stays (transaction.Active (begun 3)) (Ok tt) (transaction.Active (begun 4)) → ⊥
  pub told_refused : Maps Stays (transaction.Active (begun 3)) (Err e) (transaction.Active (begun 3)) → ⊥
  pub not_ended : Maps (λ l answer k. Unit {0}) (transaction.Active (begun 3)) (Ok tt) (transaction.Inactive a) → ⊥
  pub none_told : Maps (λ l answer k. ⊥) (transaction.Inactive a) (Ok tt) (transaction.Inactive a)
  pub none_refused : Maps (λ l answer k. Unit {0}) (transaction.Inactive a) (Err e) (transaction.Inactive a) → ⊥
  pub none_begun : Maps (λ l answer k. Unit {0}) (transaction.Inactive a) (Ok tt) (transaction.Active (begun 3)) → ⊥
