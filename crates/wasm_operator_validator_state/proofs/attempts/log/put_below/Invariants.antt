use Rattle.std.proofs.Common.{◌≡◌, ◌++◌, length, reverse, take}
use Rattle.wasm_operator_validator_state.proofs.attempts.log.put_below.Given as goal

abbrev pub invariant-loop-last : goal.invariant-loop-last
invariant-loop-last l =
    (l.left ++ reverse l.unset.items ≡ l.fn.inits ++ reverse l.fn.unset.items)
    × (take (length l.fn.unset.items) l.unset.items ≡ l.fn.unset.items)

abbrev pub decreases-loop-last : goal.decreases-loop-last
decreases-loop-last l = length l.left
