use Rattle.std.proofs.Common.{◌∙◌, sym}
use Rattle.wasm_module_validator_fast_constants.proofs.Making.{makes_default_struct}
use Rattle.wasm_module_validator_fast_constants.proofs.objects.struct_new_default.Goals as goal

pub returns : goal.returns
returns g c h =
    let m = g.R.WasmModuleResources.meaning c.args.resources.now in
    makes_default_struct m c.args.index c.args.stack.now c.in-Some.fields.now c.in-Some.ensures (sym c.are_defaultable.ensures ∙ h)
