use Rattle.std.proofs.Common.{◌∙◌, sym}
use Rattle.wasm_module_validator_fast_constants.proofs.Making.{struct_found}
use Rattle.wasm_module_validator_fast_constants.proofs.fields.struct_at.Goals as goal

pub returns : goal.returns
returns g c =
    let m = g.R.WasmModuleResources.meaning c.args.resources.now in
    struct_found m c.args.index c.in-Some.sub_type.now c.in-Some-fields_of.fields.now c.in-Some.ensures
    (sym c.has_descriptor.ensures ∙ c.if-has_descriptor.false) c.in-Some-fields_of.ensures
