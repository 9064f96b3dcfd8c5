use Rattle.std.proofs.Common.{List}
use Rattle.wasm_types.specs.trees.Trees.{TypeTree}
use Rattle.wasm_types.specs.trees.Below.{HeapBelow}
use Rattle.wasm_operator_validator_fast_tables.specs.Values.{heap_of, AreSteps}
use Rattle.wasm_operator_validator_fast_tables.proofs.order.is_reached.Given as goal

abbrev pub invariant-loop : goal.invariant-loop
invariant-loop l = (ids : List TypeTree) → AreSteps ids l.steps → HeapBelow (heap_of ids l.heap) (heap_of ids l.at)
