-- A flag, a memory and the rest, one behind the other.
use Rattle.wasm_types.specs.decoding.Laws.{reaches_then}
use Rattle.wasm_sections_items.proofs.segments.segment.DataOfFromReader.from_reader.Goals as goal

pub returns-then-flag-eq2-clause-forward : goal.returns-then-flag-eq2-clause-forward
returns-then-flag-eq2-clause-forward g c =
    reaches_then _ _ _ c.in_ok-flag.ensures.forward
    (reaches_then _ _ _ c.in_ok-memory_index.ensures.forward c.read_placed-then-flag-eq2.ensures.forward)
