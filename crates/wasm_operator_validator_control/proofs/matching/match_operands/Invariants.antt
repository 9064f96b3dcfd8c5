use Rattle.wasm_operator_validator_rules.specs.Operands.{stack}
use Rattle.wasm_operator_validator_state.specs.State.{types_in}
use Rattle.wasm_operator_validator_control.proofs.Places.{AreInUpTo}
use Rattle.wasm_operator_validator_control.proofs.matching.match_operands.Given as goal

abbrev pub invariant-loop-place : goal.invariant-loop-place
invariant-loop-place g l = let m = g.R.WasmModuleResources.meaning l.resources in AreInUpTo m l.validator.opens (stack (types_in m l.types)) l.place
