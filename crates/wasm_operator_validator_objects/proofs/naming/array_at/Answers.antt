use Rattle.wasm_operator_validator_objects.proofs.Looking.{no_array_used, no_array, found_array}
use Rattle.wasm_operator_validator_objects.proofs.naming.array_at.Goals as goal

pub returns-in-Err : goal.returns-in-Err
returns-in-Err g c =
    let m = g.R.WasmModuleResources.meaning c.args.resources.now in
    no_array_used m c.args.validator.now c.args.type_index c.in-Err.ensures

pub returns-in-None : goal.returns-in-None
returns-in-None g c =
    let m = g.R.WasmModuleResources.meaning c.args.resources.now in
    no_array m c.args.validator.now c.args.type_index c.in-Ok.sub_type.now c.in-Ok.ensures c.in-None.ensures

pub returns-in-Some : goal.returns-in-Some
returns-in-Some g c =
    let m = g.R.WasmModuleResources.meaning c.args.resources.now in
    found_array m c.args.validator.now c.args.type_index c.in-Ok.sub_type.now c.in-Some.element c.in-Ok.ensures c.in-Some.ensures
