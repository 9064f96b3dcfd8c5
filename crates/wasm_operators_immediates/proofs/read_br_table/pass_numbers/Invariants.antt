use Rattle.std.proofs.Common.{◌≡◌, ◌-◌, ℕ, List}
use Rattle.wasm_types.specs.decoding.Decoder.{repeated, Reaches}
use Rattle.wasm_types.specs.decoding.Leb.{u32}
use Rattle.wasm_types.proofs.Rows.{with_front}
use Rattle.wasm_operators_immediates.proofs.read_br_table.pass_numbers.Given as goal

-- what was read, and what is still read, is what all of it is read as
abbrev pub invariant-loop : goal.invariant-loop
invariant-loop l =
    record { read : (front : List ℕ) × (with_front front (repeated (l.count - l.counter) u32 l.reader) ≡ repeated l.count u32 l.fn.reader); forward : Reaches l.fn.reader l.reader }
