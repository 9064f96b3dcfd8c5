use Rattle.std.proofs.Common.{◌≤◌, length, drop}
use Rattle.wasm_operator_validator_fast_tables.specs.Values.{AreBelow}
use Rattle.wasm_operator_validator_fast_objects.proofs.exceptions.are_below.Given as goal

abbrev pub invariant-loop-left : goal.invariant-loop-left
invariant-loop-left l = (l.left ≤ length l.given) × AreBelow l.order (drop l.left l.given) (drop l.left l.wanted)

abbrev pub decreases-loop-left : goal.decreases-loop-left
decreases-loop-left l = l.left
