use Rattle.std.proofs.Common.{◌≡◌, ◌||◌, ℕ}
use Rattle.wasm_operator_validator_locals.specs.labels.Among.{is_among, IsAmong}
use Rattle.wasm_operator_validator_control.proofs.sharing.distinct.Given as goal

-- each target was named or is left, and those that were met were named
abbrev pub invariant-loop-target : goal.invariant-loop-target
invariant-loop-target l =
    record {
      callable : goal.iterator-loop-target.can_next l.targets;
      finite : goal.iterator-loop-target.is_finite l.targets;
      same : (k : ℕ) → (is_among k l.named.items || is_among k l.targets) ≡ is_among k l.fn.targets;
      met : (k : ℕ) → IsAmong k l.met.items → IsAmong k l.named.items;
    }
