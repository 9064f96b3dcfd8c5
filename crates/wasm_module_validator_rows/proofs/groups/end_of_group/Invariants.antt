use Rattle.std.proofs.Common.{◌<◌, ◌≤◌, ◌-◌}
use Rattle.wasm_module_validator_rows.specs.Types.{group_end}
use Rattle.wasm_module_validator_rows.specs.Types.{short}
use Rattle.wasm_module_validator_rows.proofs.groups.end_of_group.Given as goal

-- the group reaches past the one, and not past the other
abbrev pub invariant-loop-behind : goal.invariant-loop-behind
invariant-loop-behind l = record {
  from : l.id ≤ l.within;
  inside : l.within < short (group_end l.types.groups l.id);
  outside : short (group_end l.types.groups l.id) ≤ l.behind;
  known : l.behind ≤ l.total;
  some : 0 < l.step;
}

abbrev pub decreases-loop-behind : goal.decreases-loop-behind
decreases-loop-behind l = l.behind - l.within
