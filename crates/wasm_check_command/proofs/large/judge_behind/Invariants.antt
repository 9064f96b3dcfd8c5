use Rattle.std.proofs.Common.{◌^◌, ◌≤◌}
use Rattle.wasm_check_command.specs.Settings.{settings_of}
use Rattle.wasm_check_command.proofs.LargeLemmas.{HasBehind}
use Rattle.wasm_check_command.proofs.large.judge_behind.Given as goal

-- what the reader gave came, at least a byte for each turn
abbrev pub invariant-loop-turn : goal.invariant-loop-turn
invariant-loop-turn g l = record {
  behind : HasBehind g.J.Judge.came (settings_of l.fn.chosen) l.initial.buffer.items (g.R.Read.remaining l.initial.reader) (g.R.Read.remaining l.reader) l.came l.begun;
  within : l.came ≤ 2 ^ 30;
  turns : l._turn ≤ l.came;
}
