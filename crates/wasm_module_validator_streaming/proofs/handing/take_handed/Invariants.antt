use Rattle.std.proofs.Common.{◌≤◌, length, take, drop, vec_len}
use Rattle.wasm_module_validator_streaming.specs.Taking.{IsPending}
use Rattle.wasm_module_validator_streaming.specs.Handing.{HasRoom, Follows}
use Rattle.wasm_module_validator_streaming.proofs.handing.take_handed.Given as goal

-- the first of the bytes were taken, at least one for each turn, and the others may come
abbrev pub invariant-loop-turn : goal.invariant-loop-turn
invariant-loop-turn g l = record {
  within : l.from ≤ length l.bytes;
  turns : l._turn ≤ l.from;
  follows : Follows g.T.TakesBytes.stands l.initial.pending.bytes.items l.initial.taker (take l.from l.bytes) l.pending.bytes.items l.taker;
  room : HasRoom g.T.TakesBytes.stands l.pending.bytes.items l.taker (length (drop l.from l.bytes));
  pending : IsPending g.T.TakesBytes.waits l.pending.needed l.pending.bytes.items l.taker;
  held : vec_len l.pending.bytes ≤ l.most;
}
