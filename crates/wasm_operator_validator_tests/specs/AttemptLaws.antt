-- The rows of `Attempts`.
use Rattle.std.proofs.Common.{map, refl, ap, arith, lit<}
use Rattle.std.specs.declared.alloc.AllocError.{AllocError}
use Rattle.wasm_operator_validator_state.specs.declared.attempts.log.RollbackLogAllocations.{RollbackLogAllocations}
use Rattle.wasm_operator_validator_state.specs.attempts.Log.{Stacks, Log, AreCounted, with_operand, with_frame, unreached}
use Rattle.wasm_operator_validator_state.specs.declared.operand.MaybeType.TheVariants as maybe
use Rattle.wasm_operator_validator_state.specs.attempts.Worked.{reached_loop}
use Rattle.wasm_operator_validator_tests.specs.Attempts.{bare, NotesRows, AttemptsRows}

one_operand : AreCounted (with_operand maybe.Bottom bare)
one_operand = record { operands = lit< tt; frames = lit< tt }

one_frame : AreCounted (with_frame reached_loop bare)
one_frame = record { operands = lit< tt; frames = lit< tt }

one_unreached : AreCounted (with_frame (unreached reached_loop) bare)
one_unreached = record { operands = lit< tt; frames = lit< tt }

pub notes_rows : NotesRows
notes_rows = record {
  operand = λ c. refl;
  operand_unnoted = λ n. let e = ap (λ (s : Stacks). s.operands) (n one_operand) in absurd cc;
  frame = λ c. refl;
  frame_unnoted = λ n. let e = ap (λ (s : Stacks). s.frames) (n one_frame) in absurd cc;
  mark = λ c. refl;
  mark_unnoted = λ n. let e = ap (λ (s : Stacks). map (λ f. f.unreachable) s.frames) (n one_unreached) in absurd cc;
  uncounted = λ l k s t many c. absurd (let few = c.operands in omega (arith, few, many));
  too_many_frames = λ s many c. let few = c.frames in omega (arith, few, many);
  marked = refl;
}

pub attempts_rows : (a : RollbackLogAllocations) (e : AllocError) → AttemptsRows a e
attempts_rows a e = record {
  active = refl;
  of_another = λ h. let n = ap (λ (l : Log). l.kept) h in omega (arith, n);
  none_active = λ h. h;
  inactive = tt;
  not_inactive = λ h. h;
  told = (refl, refl);
  told_otherwise = λ h. let n = ap (λ (l : Log). l.kept) h.1 in omega (arith, n);
  told_refused = λ h. let x = h.0 in absurd cc;
  not_ended = λ h. h;
  none_told = (refl, refl);
  none_refused = λ h. let x = h.0 in absurd cc;
  none_begun = λ h. let x = h.1 in absurd cc;
}
