use Rattle.std.proofs.Common.{◌≤◌, ◌-◌, replicate}
use Rattle.wasm_operator_validator_state.specs.resources.Meaning.{type_in}
use Rattle.wasm_module_validator_fast_constants.specs.Steps.{MayTake, tops}
use Rattle.wasm_module_validator_fast_constants.proofs.fields.take_same.Given as goal

abbrev pub invariant-loop-passed : goal.invariant-loop-passed
invariant-loop-passed g l =
    let m = g.R.WasmModuleResources.meaning l.resources in
    (l.passed ≤ l.count) × MayTake (tops m l.fn.stack.items) (replicate l.passed (type_in m l.ty)) (tops m l.stack.items)

abbrev pub decreases-loop-passed : goal.decreases-loop-passed
decreases-loop-passed g l = l.count - l.passed
