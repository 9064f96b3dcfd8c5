use Rattle.std.proofs.Common.{◌≡◌, ◌-◌, ◌<◌, true, map}
use Rattle.wasm_types_decoding.specs.Decoder.{repeated, Reaches}
use Rattle.wasm_types_reader.specs.Reading.{takes_room}
use Rattle.wasm_types_reader.proofs.Rows.{with_front}
use Rattle.wasm_types_reader.proofs.lists.some_items.Given as goal

-- What was read, and what is still read, is what all of it is read as. Behind the first value there is something to keep.
abbrev pub invariant-loop : goal.invariant-loop
invariant-loop g l =
    let d = g.T.FromReader.decoder l.fn.reader.settings in
    record { read : with_front (map g.T.FromReader.view l.items.items) (repeated (l.count - l.counter) d l.reader) ≡ repeated l.count d l.fn.reader; forward : Reaches l.fn.reader l.reader; first : l.counter ≡ 0 → l.reader ≡ l.fn.reader; kept : 0 < l.counter → takes_room g.T.FromReader.takes_memory d l.count l.fn.reader ≡ true }
