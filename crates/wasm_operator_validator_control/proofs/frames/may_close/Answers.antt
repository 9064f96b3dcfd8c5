use Rattle.wasm_operator_validator_state.specs.State.{signature_of, types_in}
use Rattle.wasm_operator_validator_control.proofs.Ending.{if_closes}
use Rattle.wasm_operator_validator_control.proofs.frames.may_close.Goals as goal

pub returns-in-If : goal.returns-in-If
returns-in-If g c =
    let m = g.R.WasmModuleResources.meaning c.args.resources.now in
    rw c.in-If.is
    (if_closes c.are_below.result (signature_of m c.args.block_type.now) (types_in m c.block_params.result.now) (types_in m c.block_results.result.now) c.block_params.ensures c.block_results.ensures c.are_below.ensures)
