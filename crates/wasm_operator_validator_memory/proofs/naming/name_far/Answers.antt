use Rattle.wasm_operator_validator_stacks.specs.determined.laws.Usable.{denies_as}
use Rattle.wasm_operator_validator_memory.proofs.Null.{far_known, far_unallowed, far_unknown}
use Rattle.wasm_operator_validator_memory.proofs.naming.name_far.Goals as goal

pub returns-in-Err : goal.returns-in-Err
returns-in-Err g c =
    let m = g.R.WasmModuleResources.meaning c.args.resources.now in
    rw c.unknown_heap.ensures (far_unknown c.in-Err.field-0.kind c.args.features.now.0 m c.args.hty.now c.in-Err.ensures.refused.0 c.in-Err.ensures.answer)

pub returns-in-Ok-check_value_type_features : goal.returns-in-Ok-check_value_type_features
returns-in-Ok-check_value_type_features g c =
    let m = g.R.WasmModuleResources.meaning c.args.resources.now in
    far_known c.args.features.now.0 m c.args.hty.now c.check_heap_type.new.ty c.in-Some.reference c.in-Some.ensures.value c.in-Ok.ensures.answer c.in-Ok.ensures.named c.in-Ok-check_value_type_features.ensures.answer

pub returns-in-Err-check_value_type_features : goal.returns-in-Err-check_value_type_features
returns-in-Err-check_value_type_features g c =
    let m = g.R.WasmModuleResources.meaning c.args.resources.now in
    rw c.refusal_of.ensures
    (denies_as c.in-Err-check_value_type_features.error.kind _
    (far_unallowed c.in-Err-check_value_type_features.error.kind c.args.features.now.0 m c.args.hty.now c.check_heap_type.new.ty c.in-Some.reference c.in-Some.ensures.value c.in-Ok.ensures.named
    c.in-Err-check_value_type_features.ensures.answer))
