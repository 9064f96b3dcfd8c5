use Rattle.std.proofs.Common.{◌≡◌, ◌-◌}
use Rattle.wasm_types.specs.decoding.Decoder.{Reaches}
use Rattle.wasm_sections_items.specs.elements.Passing.{passed}
use Rattle.wasm_sections_items.proofs.elements.items.pass_values.Given as goal

-- what is still passed is all that was to be passed
abbrev pub invariant-loop : goal.invariant-loop
invariant-loop g l =
    let d = g.T.FromReader.decoder l.fn.reader.settings in
    record { read : passed (l.count - l.counter) d l.reader ≡ passed l.count d l.fn.reader; forward : Reaches l.fn.reader l.reader }
