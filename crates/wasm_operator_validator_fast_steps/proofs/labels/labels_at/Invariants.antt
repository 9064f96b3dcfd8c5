use Rattle.std.proofs.Common.{◌∷◌, ℕ}
use Rattle.wasm_operator_validator_locals.specs.labels.Among.{IsAmong}
use Rattle.wasm_operator_validator_fast_steps.specs.Labels.{Takes, AreLabels}
use Rattle.wasm_operator_validator_fast_steps.proofs.labels.labels_at.Given as goal

abbrev pub invariant-loop : goal.invariant-loop
invariant-loop l =
    let opens = l.opens.inner ∷ l.opens.outer in
    record {
      labels : AreLabels l.flat l.bytes opens l.fn.at l.counter l.types l.end;
      met : (k : ℕ) → IsAmong k l.met.items → Takes l.flat opens l.types k;
    }
