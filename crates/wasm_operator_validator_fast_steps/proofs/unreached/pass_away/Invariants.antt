use Rattle.std.proofs.Common.{◌∷◌, ◌≤◌, ◌-◌, length}
use Rattle.wasm_operator_validator_fast_steps.specs.Unreached.{IsPassed}
use Rattle.wasm_operator_validator_fast_steps.proofs.unreached.pass_away.Given as goal

abbrev pub invariant-loop-end : goal.invariant-loop-end
invariant-loop-end l = record {
  passed : IsPassed l.bytes l.tables (l.opens.inner ∷ l.opens.outer) l.fn.at l.end;
  forward : l.fn.at ≤ l.end;
  inside : l.end ≤ length l.bytes;
}

abbrev pub decreases-loop-end : goal.decreases-loop-end
decreases-loop-end l = length l.bytes - l.end
