use Rattle.std.proofs.Common.{◌≡◌, ◌-◌, length, take}
use Rattle.wasm_types.specs.decoding.Decoder.{repeated, Reaches}
use Rattle.wasm_types.proofs.Rows.{with_front}
use Rattle.wasm_operators_encoding.specs.immediates.Bytes.{lane}
use Rattle.wasm_operators_encoding.proofs.immediates.bytes.read_shuffle.Given as goal

-- what was read, and what is still read, is what all of it is read as
abbrev pub invariant-loop-place : goal.invariant-loop-place
invariant-loop-place l = record {
  read : with_front (take l.place l.lanes) (repeated (16 - l.place) (lane 32) l.reader) ≡ repeated 16 (lane 32) l.fn.reader;
  forward : Reaches l.fn.reader l.reader;
  size : length l.lanes ≡ 16;
}
