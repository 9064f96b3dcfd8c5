-- The minimum is read, and then the maximum.
use Rattle.wasm_types_values.specs.Laws.{reaches_then}
use Rattle.wasm_types_externs.proofs.read.table_after_flags.Goals as goal

pub returns-clause-forward : goal.returns-clause-forward
returns-clause-forward c =
    reaches_then _ _ _ c.in_ok-initial.ensures.forward c.in_ok-maximum.ensures.forward
