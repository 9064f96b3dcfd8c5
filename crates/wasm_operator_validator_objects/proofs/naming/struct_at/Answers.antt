use Rattle.wasm_operator_validator_objects.proofs.Looking.{no_struct_used, no_struct, found_struct}
use Rattle.wasm_operator_validator_objects.proofs.naming.struct_at.Goals as goal

pub returns-in-Err : goal.returns-in-Err
returns-in-Err g c =
    let m = g.R.WasmModuleResources.meaning c.args.resources.now in
    no_struct_used m c.args.validator.now c.args.type_index c.in-Err.ensures

pub returns-in-None : goal.returns-in-None
returns-in-None g c =
    let m = g.R.WasmModuleResources.meaning c.args.resources.now in
    no_struct m c.args.validator.now c.args.type_index c.in-Ok.sub_type.now c.in-Ok.ensures c.in-None.ensures

pub returns : goal.returns
returns g c =
    let m = g.R.WasmModuleResources.meaning c.args.resources.now in
    found_struct m c.args.validator.now c.args.type_index c.in-Ok.sub_type.now c.in-Some.fields.now c.has_descriptor.result c.in-Ok.ensures c.in-Some.ensures c.has_descriptor.ensures
