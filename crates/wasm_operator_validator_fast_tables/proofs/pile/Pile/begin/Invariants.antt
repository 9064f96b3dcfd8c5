use Rattle.std.proofs.Common.{◌≡◌, ◌-◌, length}
use Rattle.wasm_operator_validator_fast_tables.proofs.pile.Pile.begin.Given as goal

abbrev pub invariant-loop-item : goal.invariant-loop-item
invariant-loop-item g l = l.self-inside.count ≡ 0

abbrev pub decreases-loop-item : goal.decreases-loop-item
decreases-loop-item g l = l.places - length l.self-inside.places.items
