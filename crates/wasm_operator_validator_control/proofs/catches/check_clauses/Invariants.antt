use Rattle.std.proofs.Common.{◌↔◌, drop}
use Rattle.wasm_operator_validator_rules.specs.Exceptions.{EachCatches}
use Rattle.wasm_operator_validator_state.specs.State.{context}
use Rattle.wasm_operator_validator_control.proofs.catches.check_clauses.Given as goal

-- what is left decides as all did
abbrev pub invariant-loop-place : goal.invariant-loop-place
invariant-loop-place g l =
    let here = context (g.R.WasmModuleResources.meaning l.resources) l.validator.given l.validator.opens in EachCatches here l.clauses ↔ EachCatches here (drop l.place l.clauses)
