-- By the words that are left it is valid, and each turn left out one.
use Rattle.std.proofs.Common.{◌+◌, ◌≤◌, length}
use Rattle.wasm_check_faults.specs.WordLists.{AreFeatures, Suffices, words_in}
use Rattle.wasm_check_command.specs.Modes.{by_features}
use Rattle.wasm_check_command.proofs.needs.minimal_list.Given as goal

abbrev pub invariant-loop-turn : goal.invariant-loop-turn
invariant-loop-turn g l = record {
  known : AreFeatures l.words.items;
  enough : Suffices (by_features g.J.Judge.accepts l.limits l.bytes) (words_in l.words.items);
  turns : l._turn + length l.words.items ≤ 28;
}
