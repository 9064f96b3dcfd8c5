use Rattle.std.proofs.Common.{◌≤◌, take, length}
use Rattle.std.specs.Io.KnownBytes.{Appends}
use Rattle.wasm_check_command.proofs.judging.write_text.Given as goal

-- so many bytes of the text stand written, at least one for each turn
abbrev pub invariant-loop-turn : goal.invariant-loop-turn
invariant-loop-turn g l = record {
  inside : l.written ≤ length l.text;
  appended : Appends (g.W.Write.contents l.initial.out) (g.W.Write.contents l.out) (take l.written l.text);
  turns : l._turn ≤ l.written;
}
