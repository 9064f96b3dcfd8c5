use Rattle.wasm_operator_validator_state.specs.Refusals.{refused}
use Rattle.wasm_operator_validator_control.proofs.Opening.{opened_by}
use Rattle.wasm_operator_validator_control.proofs.frames.open_frame.Goals as goal

pub returns-clause-does : goal.returns-clause-does
returns-clause-does g c =
    let m = g.R.WasmModuleResources.meaning c.args.resources.now in
    opened_by (refused c.push_operands.result) m c.args.validator.now c.pop_operands.new.self c.enter.new.self c.push_operands.new.self c.args.kind c.args.block_type.now
    (rw c.block_params-params.ensures at c.in-Ok.ensures.does) c.in-Ok-enter.ensures.entered (rw c.block_params-params.ensures at c.push_operands.ensures.does)
