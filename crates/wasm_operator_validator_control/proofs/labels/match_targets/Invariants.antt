use Rattle.std.proofs.Common.{◌↔◌, ℕ}
use Rattle.wasm_operator_validator_locals.specs.labels.Among.{IsAmong}
use Rattle.wasm_operator_validator_control.specs.Fitting.{Suits, EachSuits}
use Rattle.wasm_operator_validator_control.proofs.labels.match_targets.Given as goal

-- what is left decides as all did, and labels that were met suit
abbrev pub invariant-loop-target : goal.invariant-loop-target
invariant-loop-target g l =
    let m = g.R.WasmModuleResources.meaning l.resources in
    record {
      callable : (goal.iterator-loop-target g).can_next l.targets;
      finite : (goal.iterator-loop-target g).is_finite l.targets;
      same : EachSuits m l.validator l.count l.targets ↔ EachSuits m l.validator l.count l.fn.targets;
      met : (k : ℕ) → IsAmong k l.met.items → Suits m l.validator l.count k;
    }
