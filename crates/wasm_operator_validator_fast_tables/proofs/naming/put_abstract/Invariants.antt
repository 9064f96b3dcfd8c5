use Rattle.std.proofs.Common.{◌≡◌, List, length}
use Rattle.wasm_types.specs.trees.Trees.{TypeTree}
use Rattle.wasm_operator_validator_fast_tables.specs.Values.{AreSteps}
use Rattle.wasm_operator_validator_fast_tables.proofs.naming.put_abstract.Given as goal

abbrev pub invariant-loop-number : goal.invariant-loop-number
invariant-loop-number l = ((ids : List TypeTree) → AreSteps ids l.steps.items) × (length l.steps.items ≡ l.number)
