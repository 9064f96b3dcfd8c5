use Rattle.std.proofs.Common.{◌≡◌, ◌≢◌, ◌-◌, ◌<◌, ◌≤◌, length}
use Rattle.std.specs.declared.cmp.Ordering.TheVariants.{Less}
use Rattle.wasm_module_validator_type_storage.specs.ordered.Chunks.{chunk_at, last_of, numbers_of}
use Rattle.wasm_module_validator_type_storage.proofs.ordered.finding.chunk_for.Given as goal

abbrev pub invariant-search : goal.invariant-search
invariant-search g l =
    (l.low ≤ l.high) × (l.high ≤ length l.chunks)
    × (0 < l.low → g.C.Compare.order l.sought (last_of (chunk_at (numbers_of l.chunks) (l.low - 1))) ≡ Less)
    × (l.high < length l.chunks → g.C.Compare.order l.sought (last_of (chunk_at (numbers_of l.chunks) l.high)) ≢ Less)

abbrev pub decreases-search : goal.decreases-search
decreases-search g l = l.high - l.low
