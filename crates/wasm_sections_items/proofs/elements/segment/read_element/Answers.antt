-- A flag, the mode and the elements, one behind the other.
use Rattle.wasm_types.specs.decoding.Laws.{reaches_then}
use Rattle.wasm_sections_items.proofs.elements.segment.read_element.Goals as goal

pub returns-then-flag-lt4-clause-forward : goal.returns-then-flag-lt4-clause-forward
returns-then-flag-lt4-clause-forward g c =
    reaches_then _ _ _ c.in_ok-flag.ensures.forward
    (reaches_then _ _ _ c.in_ok-kind.ensures.forward c.read_functions.ensures.forward)

pub returns-clause-forward : goal.returns-clause-forward
returns-clause-forward g c =
    reaches_then _ _ _ c.in_ok-flag.ensures.forward
    (reaches_then _ _ _ c.in_ok-kind-2.ensures.forward c.read_expressions.ensures.forward)
