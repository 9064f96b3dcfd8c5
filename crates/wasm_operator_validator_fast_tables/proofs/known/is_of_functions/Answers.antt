use Rattle.wasm_operator_validator_fast_tables.proofs.Knowing.{references}
use Rattle.wasm_operator_validator_fast_tables.proofs.known.is_of_functions.Goals as goal

pub returns : goal.returns
returns g c =
    let m = g.R.WasmModuleResources.meaning c.args.resources.now in
    references m c.is_subtype.result c.args.element c.in-Some.functions c.in-Some.ensures.value c.is_subtype.ensures
