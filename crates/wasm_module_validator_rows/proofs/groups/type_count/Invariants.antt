use Rattle.std.proofs.Common.{◌≤◌, ◌-◌}
use Rattle.wasm_module_validator_type_storage.specs.trees.Groups.{count}
use Rattle.wasm_module_validator_rows.specs.Types.{short}
use Rattle.wasm_module_validator_rows.proofs.groups.type_count.Given as goal

-- the count is between the two
abbrev pub invariant-loop-low : goal.invariant-loop-low
invariant-loop-low l = (l.low ≤ short (count l.types.groups)) × (short (count l.types.groups) ≤ l.high)

abbrev pub decreases-loop-low : goal.decreases-loop-low
decreases-loop-low l = l.high - l.low
