use Rattle.wasm_operator_validator_objects.proofs.Casting.{unnamed, of_continuations, castable}
use Rattle.wasm_operator_validator_objects.proofs.casts.castable_at.Goals as goal

pub returns-in-Err : goal.returns-in-Err
returns-in-Err g c =
    let m = g.R.WasmModuleResources.meaning c.args.resources.now in
    unnamed m c.args.validator.now c.args.written.now c.heap_type-heap_type.result c.heap_type-heap_type.ensures.value c.in-Err.ensures

pub returns-in-None : goal.returns-in-None
returns-in-None g c =
    let m = g.R.WasmModuleResources.meaning c.args.resources.now in
    of_continuations m c.args.validator.now c.args.written.now c.in-Ok.named c.heap_type-heap_type.result c.heap_type-heap_type.ensures.value c.in-Ok.ensures.1 c.in-None.ensures

pub returns-in-Some : goal.returns-in-Some
returns-in-Some g c =
    let m = g.R.WasmModuleResources.meaning c.args.resources.now in
    castable m c.args.validator.now c.args.written.now c.in-Ok.named c.heap_type-heap_type.result c.is_nullable.result c.heap_type-heap_type.ensures.value c.is_nullable.ensures c.in-Ok.ensures.0 c.in-Ok.ensures.1 c.in-Some.ensures.0
