use Rattle.wasm_operator_validator_objects.proofs.Looking.{heap_found, heap_unused, heap_unknown}
use Rattle.wasm_operator_validator_objects.proofs.naming.heap_at.Goals as goal

pub returns-in-Err : goal.returns-in-Err
returns-in-Err g c =
    let m = g.R.WasmModuleResources.meaning c.args.resources.now in
    heap_unknown m c.args.validator.now c.args.written.now c.in-Err.field-0.kind c.in-Err.ensures.refused.0 c.in-Err.ensures.answer

pub returns-then-not-may_use : goal.returns-then-not-may_use
returns-then-not-may_use g c =
    let m = g.R.WasmModuleResources.meaning c.args.resources.now in
    heap_unused m c.args.validator.now c.args.written.now c.check_heap_type.new.ty c.in-Some.reference c.args.nullable c.is_shared.result c.may_use.result c.in-Ok.ensures.answer c.in-Ok.ensures.named c.in-Some.ensures.value c.is_shared.ensures c.may_use.ensures c.if-not-may_use.true

pub returns : goal.returns
returns g c =
    let m = g.R.WasmModuleResources.meaning c.args.resources.now in
    heap_found m c.args.validator.now c.args.written.now c.check_heap_type.new.ty c.in-Some.reference c.args.nullable c.is_shared.result c.may_use.result c.in-Ok.ensures.answer c.in-Ok.ensures.named c.in-Some.ensures.value c.is_shared.ensures c.may_use.ensures c.if-not-may_use.false
