use Rattle.std.proofs.Common.{◌≡◌, ◌-◌, ◌<◌, ◌≤◌, length, get_or}
use Rattle.std.specs.declared.cmp.Ordering.TheVariants.{Less, Greater}
use Rattle.wasm_module_validator_type_storage.proofs.ordered.finding.search_in.Given as goal

abbrev pub invariant-search : goal.invariant-search
invariant-search g l =
    (l.low ≤ l.high) × (l.high ≤ length l.numbers) × (0 < l.low → g.C.Compare.order l.sought (get_or l.numbers (l.low - 1) 0) ≡ Less)
    × (l.high < length l.numbers → g.C.Compare.order l.sought (get_or l.numbers l.high 0) ≡ Greater)

abbrev pub decreases-search : goal.decreases-search
decreases-search g l = l.high - l.low
