-- The parts that are read, one after the other.
use Rattle.wasm_types.specs.Laws.{reaches_then}
use Rattle.wasm_operators_encoding.proofs.immediates.memory_argument.read_after_flags.Goals as goal

pub returns-clause-forward : goal.returns-clause-forward
returns-clause-forward c =
    reaches_then _ _ _ c.in_ok-memory.ensures.forward (reaches_then _ _ _ c.in_ok-ordering.ensures.forward c.in_ok-offset.ensures.forward)
