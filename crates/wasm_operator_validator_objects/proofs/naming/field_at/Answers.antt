use Rattle.wasm_operator_validator_objects.proofs.Looking.{no_struct_field, no_field, found_field, struct_index}
use Rattle.wasm_operator_validator_objects.proofs.naming.field_at.Goals as goal

pub returns-in-Err : goal.returns-in-Err
returns-in-Err g c =
    let m = g.R.WasmModuleResources.meaning c.args.resources.now in
    no_struct_field m c.args.validator.now c.args.type_index c.args.field_index c.in-Err.ensures

pub returns-in-None : goal.returns-in-None
returns-in-None g c =
    let m = g.R.WasmModuleResources.meaning c.args.resources.now in
    no_field m c.args.validator.now c.args.type_index c.args.field_index c.in-Ok.found.0.now c.in-Ok.found.1 c.in-Ok.ensures c.in-None.ensures

pub reference_at-requires : goal.reference_at-requires
reference_at-requires g c =
    let m = g.R.WasmModuleResources.meaning c.args.resources.now in
    struct_index m c.args.validator.now c.args.type_index c.in-Ok.found.0.now c.in-Ok.found.1 c.in-Ok.ensures

pub returns : goal.returns
returns g c =
    let m = g.R.WasmModuleResources.meaning c.args.resources.now in
    found_field m c.args.validator.now c.args.type_index c.args.field_index c.in-Ok.found.0.now c.in-Ok.found.1 c.in-Some.field c.reference_at.result c.in-Ok.ensures c.in-Some.ensures c.reference_at.ensures
