use Rattle.std.proofs.Common.{◌≡◌, ◌++◌, length, reverse, take}
use Rattle.wasm_operator_validator_locals.specs.tape.Kept.{HasRoom}
use Rattle.wasm_operator_validator_locals.proofs.tape.put_back.Given as goal

abbrev pub invariant-loop-item : goal.invariant-loop-item
invariant-loop-item g l =
    (take l.count l.places.items ++ reverse l.lost.items ≡ take l.fn.kept l.fn.places.items ++ reverse l.fn.lost.items)
    × HasRoom l.count (length l.lost.items) (length l.places.items)

abbrev pub decreases-loop-item : goal.decreases-loop-item
decreases-loop-item g l = length l.lost.items
