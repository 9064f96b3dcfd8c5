use Rattle.wasm_operator_validator_proposals.proofs.Continuing.{not_used, is_continued, not_continued}
use Rattle.wasm_operator_validator_proposals.proofs.naming.continued_at.Goals as goal

pub returns-in-Err : goal.returns-in-Err
returns-in-Err g c =
    let m = g.R.WasmModuleResources.meaning c.args.resources.now in
    not_used m c.args.validator.now c.args.type_index c.in-Err.ensures

pub returns-in-Some : goal.returns-in-Some
returns-in-Some g c =
    let m = g.R.WasmModuleResources.meaning c.args.resources.now in
    is_continued m c.args.validator.now c.args.type_index c.in-Ok.sub_type.now c.in-Some.function c.in-Ok.ensures c.in-Some.ensures

pub returns-in-None : goal.returns-in-None
returns-in-None g c =
    let m = g.R.WasmModuleResources.meaning c.args.resources.now in
    not_continued m c.args.validator.now c.args.type_index c.in-Ok.sub_type.now c.in-Ok.ensures c.in-None.ensures
