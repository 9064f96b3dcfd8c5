-- A byte, a type and an expression, one behind the other.
use Rattle.wasm_types.specs.decoding.Laws.{reaches_then}
use Rattle.wasm_sections_items.proofs.segments.table.read_behind_mark.Goals as goal

pub returns-in_err-expression-clause-forward : goal.returns-in_err-expression-clause-forward
returns-in_err-expression-clause-forward g c =
    reaches_then _ _ _ c.in_ok-zero.ensures.forward (reaches_then _ _ _ c.in_ok-ty.ensures.forward c.in_err-expression.ensures.forward)

pub returns-clause-forward : goal.returns-clause-forward
returns-clause-forward g c =
    reaches_then _ _ _ c.in_ok-zero.ensures.forward (reaches_then _ _ _ c.in_ok-ty.ensures.forward c.in_ok-expression.ensures.forward)
