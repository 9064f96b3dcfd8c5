use Rattle.std.proofs.Common.{◌≤◌, length, drop}
use Rattle.wasm_operator_validator_fast_objects.specs.Objects.{HaveDefaults}
use Rattle.wasm_operator_validator_fast_objects.proofs.structs.have_defaults.Given as goal

abbrev pub invariant-loop-left : goal.invariant-loop-left
invariant-loop-left l = (l.left ≤ length l.fields) × HaveDefaults (drop l.left l.fields)

abbrev pub decreases-loop-left : goal.decreases-loop-left
decreases-loop-left l = l.left
