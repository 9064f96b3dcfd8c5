use Rattle.wasm_operator_validator_objects.proofs.Looking.{no_element, found_element, array_index}
use Rattle.wasm_operator_validator_objects.proofs.naming.element_at.Goals as goal

pub returns-in-Err : goal.returns-in-Err
returns-in-Err g c =
    let m = g.R.WasmModuleResources.meaning c.args.resources.now in
    no_element m c.args.validator.now c.args.type_index c.in-Err.ensures

pub reference_at-requires : goal.reference_at-requires
reference_at-requires g c =
    let m = g.R.WasmModuleResources.meaning c.args.resources.now in
    array_index m c.args.validator.now c.args.type_index c.in-Ok.element c.in-Ok.ensures

pub returns : goal.returns
returns g c =
    let m = g.R.WasmModuleResources.meaning c.args.resources.now in
    found_element m c.args.validator.now c.args.type_index c.in-Ok.element c.reference_at.result c.in-Ok.ensures c.reference_at.ensures
