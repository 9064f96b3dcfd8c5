use Rattle.wasm_module_validator_fast_constants.proofs.Passing.{refers}
use Rattle.wasm_module_validator_fast_constants.proofs.references.reference_to.Goals as goal

pub returns : goal.returns
returns g c =
    let m = g.R.WasmModuleResources.meaning c.args.resources.now in
    refers m c.args.index c.args.nullable c.check_heap_type.new.ty c.in-Some.reference c.in-Ok.ensures.answer c.in-Ok.ensures.named.same c.in-Some.ensures.value
