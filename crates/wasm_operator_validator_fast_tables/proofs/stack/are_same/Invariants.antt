use Rattle.std.proofs.Common.{◌≡◌, true, take}
use Rattle.wasm_operator_validator_fast_tables.proofs.stack.are_same.Given as goal

abbrev pub invariant-loop-i : goal.invariant-loop-i
invariant-loop-i l = l.same ≡ true → take l.i l.one ≡ take l.i l.other
