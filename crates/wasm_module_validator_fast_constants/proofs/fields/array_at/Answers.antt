use Rattle.wasm_module_validator_fast_constants.proofs.Making.{array_found}
use Rattle.wasm_module_validator_fast_constants.proofs.fields.array_at.Goals as goal

pub returns : goal.returns
returns g c =
    let m = g.R.WasmModuleResources.meaning c.args.resources.now in
    array_found m c.args.index c.in-Some.sub_type.now c.in-Some-element_of.element c.in-Some.ensures c.in-Some-element_of.ensures
