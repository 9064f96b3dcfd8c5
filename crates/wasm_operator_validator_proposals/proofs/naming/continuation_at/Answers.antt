use Rattle.wasm_operator_validator_proposals.proofs.Continuing.{no_continuation, of_no_function, is_continuation}
use Rattle.wasm_operator_validator_proposals.specs.Named.{signature}
use Rattle.wasm_operator_validator_proposals.proofs.naming.continuation_at.Goals as goal

pub returns-in-Err : goal.returns-in-Err
returns-in-Err g c =
    let m = g.R.WasmModuleResources.meaning c.args.resources.now in
    no_continuation m c.args.validator.now c.args.type_index c.in-Err.ensures

pub returns-in-Some : goal.returns-in-Some
returns-in-Some g c =
    let m = g.R.WasmModuleResources.meaning c.args.resources.now in
    is_continuation m c.args.validator.now c.args.type_index c.in-Ok.function (signature m c.in-Some.found.0.now c.in-Some.found.1.now) c.in-Ok.ensures (rw c.unpack.ensures.value at c.in-Some.ensures)

pub returns-in-None : goal.returns-in-None
returns-in-None g c =
    let m = g.R.WasmModuleResources.meaning c.args.resources.now in
    of_no_function m c.args.validator.now c.args.type_index c.in-Ok.function c.in-Ok.ensures (rw c.unpack.ensures.value at c.in-None.ensures)
