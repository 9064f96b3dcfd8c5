use Rattle.std.proofs.Common.{◌-◌, ◌<◌, ◌≤◌, length, map, get_or}
use Rattle.wasm_module_validator_type_storage.proofs.snapshots.snapshot_of.Given as goal

abbrev pub invariant-search : goal.invariant-search
invariant-search g l =
    (l.low < l.high) × (l.high ≤ length l.snapshots) × (get_or (map (λ s. s.value.prior) l.snapshots) l.low 0 ≤ l.index)
    × (l.high < length l.snapshots → l.index < get_or (map (λ s. s.value.prior) l.snapshots) l.high 0)

abbrev pub decreases-search : goal.decreases-search
decreases-search g l = l.high - l.low
