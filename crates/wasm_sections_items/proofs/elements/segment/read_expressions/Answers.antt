-- The parts that are read, one after the other.
use Rattle.wasm_types.specs.Laws.{reaches_then}
use Rattle.wasm_sections_items.proofs.elements.segment.read_expressions.Goals as goal

pub returns-clause-forward : goal.returns-clause-forward
returns-clause-forward g c =
    reaches_then _ _ _ c.in_ok-ty.ensures.forward c.in_ok-expressions.ensures.forward
