use Rattle.std.proofs.Common.{◌≡◌, ◌≤◌, ◌+◌, false}
use Rattle.wasm_module_validator_streaming.specs.Pieces.{HasCome}
use Rattle.wasm_module_validator_streaming.specs.Taking.{IsPending}
use Rattle.wasm_module_validator_streaming.proofs.reading.take_chunks.Given as goal

-- the reader gave some bytes, at least one for each turn, and what was not taken yet is left of them
abbrev pub invariant-loop-turn : goal.invariant-loop-turn
invariant-loop-turn g l = record {
  not_failed : l.reader.has_failed ≡ false;
  turns : l._turn + l.room ≤ l.fn.max_bytes;
  reads : l.reader.reads ≤ l.initial.reader.reads + l._turn;
  counted : l.initial.reader.reads ≤ l.reader.reads;
  come : HasCome g.T.TakesBytes.stands l.initial.taker l.fn.max_bytes l.room (g.R.Read.remaining l.initial.reader.reader) (g.R.Read.remaining l.reader.reader) l.pending.bytes.items l.taker;
  pending : IsPending g.T.TakesBytes.waits l.pending.needed l.pending.bytes.items l.taker;
}
