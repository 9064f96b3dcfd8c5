use Rattle.std.proofs.Common.{◌≡◌, ◌<◌}
use Rattle.wasm_types_decoding.specs.Decoder.{State}
use Rattle.wasm_types_decoding.specs.Numbers.{signed_of, behind}
use Rattle.wasm_types_decoding.proofs.LebSigned.{Remains}
use Rattle.wasm_types_decoding.proofs.long.signed_at.Given as goal

-- whatever reader stands before these bytes, so many more groups give its number; and a byte more has room
abbrev pub invariant-loop-i : goal.invariant-loop-i
invariant-loop-i l = record {
  remains : (s : State) → s.rest ≡ l.rest → Remains l.bits l.shift l.low (behind l.i s) (signed_of l.bits s);
  room : l.shift < l.bits;
}
