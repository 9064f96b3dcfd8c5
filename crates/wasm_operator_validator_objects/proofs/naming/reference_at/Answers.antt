use Rattle.wasm_operator_validator_objects.proofs.Looking.{reference_named}
use Rattle.wasm_operator_validator_objects.proofs.naming.reference_at.Goals as goal

pub returns : goal.returns
returns g c =
    let m = g.R.WasmModuleResources.meaning c.args.resources.now in
    reference_named m c.args.type_index c.args.nullable c.args.exactly c.written-heap_type.result c.check_heap_type.new.ty c.in-Some.reference c.written-heap_type.ensures c.in-Ok.ensures.named c.in-Some.ensures.value
