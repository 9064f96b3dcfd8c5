use Rattle.wasm_operator_validator_memory.proofs.ToFunctions.{function_named}
use Rattle.wasm_operator_validator_memory.proofs.functions.reference_to.Goals as goal

pub returns : goal.returns
returns g c =
    let m = g.R.WasmModuleResources.meaning c.args.resources.now in
    function_named m c.args.type_index c.args.exactly c.written-heap_type.result c.check_heap_type.new.ty c.in-Some.reference c.written-heap_type.ensures c.in-Ok.ensures.named c.in-Some.ensures.value
