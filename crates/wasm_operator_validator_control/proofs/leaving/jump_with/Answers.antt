use Rattle.wasm_operator_validator_state.specs.Refusals.{refused}
use Rattle.wasm_operator_validator_state.specs.State.{types_in}
use Rattle.wasm_operator_validator_control.specs.laws.Jumping.{jumps_then}
use Rattle.wasm_operator_validator_control.proofs.leaving.jump_with.Goals as goal

pub returns-clause-does : goal.returns-clause-does
returns-clause-does g c =
    let m = g.R.WasmModuleResources.meaning c.args.resources.now in
    jumps_then (refused c.set_unreachable.result) m c.args.validator.now c.pop_operands.new.self c.set_unreachable.new.self (types_in m c.args.types.now) c.in-Ok.ensures.does (c.set_unreachable.ensures.does m)
