use Rattle.std.proofs.Common.{take}
use Rattle.wasm_operator_validator_rules.specs.Operands.{stack}
use Rattle.wasm_operator_validator_state.specs.State.{types_in}
use Rattle.wasm_operator_validator_state.specs.Steps.{Pushed}
use Rattle.wasm_operator_validator_stacks.proofs.validator.OperatorValidator.push_operands.Given as goal

abbrev pub invariant-loop-one : goal.invariant-loop-one
invariant-loop-one g l = Pushed (g.R.WasmModuleResources.meaning l.resources) l.fn.self (stack (types_in (g.R.WasmModuleResources.meaning l.resources) (take l.one-index l.types))) l.self
