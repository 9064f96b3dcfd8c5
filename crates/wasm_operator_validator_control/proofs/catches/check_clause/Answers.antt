use Rattle.wasm_operator_validator_control.proofs.Catching.{one_unnamed, one_ref_unnamed}
use Rattle.wasm_operator_validator_control.proofs.catches.check_clause.Goals as goal

pub returns-in-Err : goal.returns-in-Err
returns-in-Err g c =
    let m = g.R.WasmModuleResources.meaning c.args.resources.now in
    rw c.in-One.is (one_unnamed m c.args.validator.now c.in-One.tag c.in-One.label c.in-Err.ensures)

pub returns-in-Err-exception_tag : goal.returns-in-Err-exception_tag
returns-in-Err-exception_tag g c =
    let m = g.R.WasmModuleResources.meaning c.args.resources.now in
    rw c.in-OneRef.is (one_ref_unnamed m c.args.validator.now c.in-OneRef.tag c.in-OneRef.label c.in-Err-exception_tag.ensures)
