use Rattle.std.proofs.Common.{◌≡◌, take}
use Rattle.wasm_operator_validator_fast_steps.proofs.labels.same.Given as goal

abbrev pub invariant-loop-i : goal.invariant-loop-i
invariant-loop-i l = take l.i l.other ≡ take l.i l.one
