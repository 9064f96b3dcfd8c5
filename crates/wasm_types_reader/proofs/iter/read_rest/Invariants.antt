use Rattle.std.proofs.Common.{◌≡◌, ◌-◌}
use Rattle.wasm_types_decoding.specs.Decoder.{State}
use Rattle.wasm_types_reader.specs.Draining.{Drains}
use Rattle.wasm_types_reader.proofs.iter.read_rest.Given as goal

-- what reads the rest from here reads all of it, under the same settings
abbrev pub invariant-loop : goal.invariant-loop
invariant-loop g l =
    let d = g.T.FromReader.decoder l.fn.reader.settings in
    record { rest : (t : State) → Drains d g.T.FromReader.takes_memory (l.count - l.counter) l.reader t → Drains d g.T.FromReader.takes_memory l.count l.fn.reader t; same : l.reader.settings ≡ l.fn.reader.settings }
