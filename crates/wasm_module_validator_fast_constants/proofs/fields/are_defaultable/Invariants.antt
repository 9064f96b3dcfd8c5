use Rattle.std.proofs.Common.{◌≡◌, length}
use Rattle.wasm_module_validator_fast_constants.specs.Fields.{are_defaultable}
use Rattle.wasm_module_validator_fast_constants.proofs.fields.are_defaultable.Given as goal

abbrev pub invariant-loop-first : goal.invariant-loop-first
invariant-loop-first l = are_defaultable l.fields ≡ are_defaultable l.left

abbrev pub decreases-loop-first : goal.decreases-loop-first
decreases-loop-first l = length l.left
