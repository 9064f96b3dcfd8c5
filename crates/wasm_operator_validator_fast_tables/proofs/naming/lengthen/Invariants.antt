use Rattle.std.proofs.Common.{◌+◌, ◌-◌, List, length}
use Rattle.wasm_types.specs.trees.Trees.{TypeTree}
use Rattle.wasm_operator_validator_fast_tables.specs.Values.{AreSteps}
use Rattle.wasm_operator_validator_fast_tables.proofs.naming.lengthen.Given as goal

abbrev pub invariant-loop-steps : goal.invariant-loop-steps
invariant-loop-steps l = (ids : List TypeTree) → AreSteps ids l.fn.steps.items → AreSteps ids l.steps.items

abbrev pub decreases-loop-steps : goal.decreases-loop-steps
decreases-loop-steps l = l.place + 1 - length l.steps.items
