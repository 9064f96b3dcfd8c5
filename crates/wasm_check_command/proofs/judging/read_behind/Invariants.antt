use Rattle.std.proofs.Common.{◌^◌, ◌≤◌, length}
use Rattle.std.specs.Io.KnownBytes.{Consumes, prepend_known}
use Rattle.wasm_check_command.proofs.judging.read_behind.Given as goal

-- the buffer holds what the reader gave, at least a byte for each turn
abbrev pub invariant-loop-turn : goal.invariant-loop-turn
invariant-loop-turn g l = record {
  gave : Consumes (prepend_known l.initial.buffer.items (g.R.Read.remaining l.initial.reader)) (g.R.Read.remaining l.reader) l.buffer.items;
  within : length l.buffer.items ≤ 2 ^ 30;
  turns : l._turn ≤ length l.buffer.items;
}
