use Rattle.std.proofs.Common.{◌≤◌, length, drop}
use Rattle.wasm_operator_validator_fast_tables.specs.Stacks.{with_all}
use Rattle.wasm_operator_validator_fast_tables.specs.Values.{IsLowered}
use Rattle.wasm_operator_validator_fast_objects.specs.Objects.{codes_of}
use Rattle.wasm_operator_validator_fast_objects.proofs.structs.take_fields.Given as goal

abbrev pub invariant-loop-left : goal.invariant-loop-left
invariant-loop-left l = (l.left ≤ length l.fields) × IsLowered l.order l.fn.stack (with_all (codes_of (drop l.left l.fields)) l.stack)

abbrev pub decreases-loop-left : goal.decreases-loop-left
decreases-loop-left l = l.left
