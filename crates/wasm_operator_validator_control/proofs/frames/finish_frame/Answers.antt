use Rattle.wasm_operator_validator_state.specs.Refusals.{kind_of}
use Rattle.wasm_operator_validator_control.proofs.Ending.{not_finished}
use Rattle.wasm_operator_validator_control.proofs.frames.finish_frame.Goals as goal

pub returns-in-Err-leave-clause-does : goal.returns-in-Err-leave-clause-does
returns-in-Err-leave-clause-does g c =
    let m = g.R.WasmModuleResources.meaning c.args.resources.now in
    not_finished (kind_of c.in-Err-leave.refusal) m c.args.validator.now c.pop_operands.new.self c.args.block_type.now (rw c.block_results.ensures at c.in-Ok.ensures.does) c.in-Err-leave.ensures.left
