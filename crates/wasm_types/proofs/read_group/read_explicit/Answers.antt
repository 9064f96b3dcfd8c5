-- The parts that are read, one after the other.
use Rattle.wasm_types_fields.specs.Laws.{reaches_then}
use Rattle.wasm_types.proofs.read_group.read_explicit.Goals as goal

pub returns-clause-forward : goal.returns-clause-forward
returns-clause-forward c =
    reaches_then _ _ _ c.in_ok-count.ensures.forward c.in_ok-types.ensures.forward
