use Rattle.wasm_operator_validator_state.specs.blocks.Signatures.{signature_in}
use Rattle.wasm_operator_validator_control.proofs.Naming.{not_named_type, is_named_type}
use Rattle.wasm_operator_validator_control.proofs.callees.callee_type.Goals as goal

pub returns-in-Err : goal.returns-in-Err
returns-in-Err g c =
    let m = g.R.WasmModuleResources.meaning c.args.resources.now in
    not_named_type m c.args.validator.now c.args.type_index c.in-Some.sub_type.now c.in-Some.ensures (c.in-Err.ensures m)

pub returns : goal.returns
returns g c =
    let m = g.R.WasmModuleResources.meaning c.args.resources.now in
    is_named_type m c.args.validator.now c.args.type_index c.in-Some.sub_type.now (signature_in m c.in-Ok.function.now) c.in-Some.ensures (c.in-Ok.ensures m)
