-- Without any one of the words that were tried it is not valid.
use Rattle.std.proofs.Common.{◌<◌, ◌≤◌, ℕ}
use Rattle.wasm_check_faults.specs.WordLists.{Lacks, without_word, words_in}
use Rattle.wasm_check_command.specs.Modes.{by_features}
use Rattle.wasm_check_command.proofs.needs.leave_out.Given as goal

abbrev pub invariant-loop-place : goal.invariant-loop-place
invariant-loop-place g l = (place : ℕ) → l.from ≤ place → place < l.place → Lacks (by_features g.J.Judge.accepts l.limits l.bytes) (without_word place (words_in l.words))
