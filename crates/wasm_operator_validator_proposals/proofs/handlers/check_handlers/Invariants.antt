use Rattle.std.proofs.Common.{◌↔◌, drop}
use Rattle.wasm_operator_validator_rules.specs.Continuations.{EachHandles}
use Rattle.wasm_operator_validator_state.specs.State.{types_in}
use Rattle.wasm_operator_validator_objects.specs.Rows.{here}
use Rattle.wasm_operator_validator_proposals.proofs.handlers.check_handlers.Given as goal

-- what is left decides as all did
abbrev pub invariant-loop-place : goal.invariant-loop-place
invariant-loop-place g l =
    let m = g.R.WasmModuleResources.meaning l.resources in
    EachHandles (here m l.validator) (types_in m l.results) l.handlers ↔ EachHandles (here m l.validator) (types_in m l.results) (drop l.place l.handlers)
