use Rattle.std.proofs.Common.{◌∷◌, IfSome}
use Rattle.wasm_operator_validator_locals.specs.labels.Among.{SameLabels}
use Rattle.wasm_operator_validator_control.specs.Fitting.{AllAgree}
use Rattle.wasm_operator_validator_control.proofs.sharing.agree.Given as goal

abbrev pub invariant-loop-place : goal.invariant-loop-place
invariant-loop-place g l =
    record {
      agree : AllAgree (g.R.WasmModuleResources.meaning l.resources) l.validator l.place (l.table.default ∷ l.table.targets);
      named : IfSome l.named (λ labels. SameLabels labels.items l.table.targets);
    }
