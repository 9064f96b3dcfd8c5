use Rattle.std.proofs.Common.{length}
use Rattle.wasm_operators_bodies.specs.Constants.{PassesTo}
use Rattle.wasm_operators_bodies.proofs.constant.pass_end.Given as goal

-- what was read so far has no `end`, or ends with one
abbrev pub invariant-loop-ended : goal.invariant-loop-ended
invariant-loop-ended l = PassesTo l.initial.operators l.ended l.operators

abbrev pub decreases-loop-ended : goal.decreases-loop-ended
decreases-loop-ended l = length l.operators.bytes.rest
