-- The mark is read, and then the type.
use Rattle.wasm_types_reader.specs.Laws.{reaches_then}
use Rattle.wasm_types_values.proofs.read_heap.read_heap_type.Goals as goal

pub returns-then-byte-eq101-clause-forward : goal.returns-then-byte-eq101-clause-forward
returns-then-byte-eq101-clause-forward c = reaches_then _ _ _ c.in_ok-byte.ensures.forward c.in_ok-ty.ensures.forward
