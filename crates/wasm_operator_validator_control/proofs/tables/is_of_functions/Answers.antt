use Rattle.wasm_operator_validator_control.proofs.Naming.{references}
use Rattle.wasm_operator_validator_control.proofs.tables.is_of_functions.Goals as goal

pub returns : goal.returns
returns g c =
    let m = g.R.WasmModuleResources.meaning c.args.resources.now in
    references m c.is_subtype.result c.args.element c.in-Some.functions c.args.shared c.in-Some.ensures.value c.is_subtype.ensures
