use Rattle.wasm_module_validator_fast_constants.proofs.Making.{makes_struct}
use Rattle.wasm_module_validator_fast_constants.proofs.objects.struct_new.Goals as goal

pub returns : goal.returns
returns g c h =
    let m = g.R.WasmModuleResources.meaning c.args.resources.now in
    makes_struct m c.args.index c.args.stack.now.items c.take_fields.new.stack.items c.in-Some.fields.now c.in-Some.ensures (c.take_fields.ensures h)
