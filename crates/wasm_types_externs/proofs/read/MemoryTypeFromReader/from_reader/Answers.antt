-- Four parts are read, one after the other.
use Rattle.wasm_types_values.specs.Laws.{reaches_then}
use Rattle.wasm_types_externs.proofs.read.MemoryTypeFromReader.from_reader.Goals as goal

pub returns-clause-forward : goal.returns-clause-forward
returns-clause-forward c =
    reaches_then _ _ _ c.in_ok-flags.ensures.forward (reaches_then _ _ _ c.in_ok-initial.ensures.forward
    (reaches_then _ _ _ c.in_ok-maximum.ensures.forward c.in_ok-page_size_log2.ensures.forward))
