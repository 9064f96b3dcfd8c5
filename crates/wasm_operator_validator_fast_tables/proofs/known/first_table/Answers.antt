use Rattle.wasm_operator_validator_state.specs.resources.Meaning.{table_in}
use Rattle.wasm_operator_validator_fast_tables.proofs.Knowing.{table_known}
use Rattle.wasm_operator_validator_fast_tables.proofs.known.first_table.Goals as goal

pub returns : goal.returns
returns g c =
    let m = g.R.WasmModuleResources.meaning c.args.resources.now in
    λ lt. table_known m (table_in m c.in-Some.table) c.is_of_functions.result c.address_of.result c.in-Some.ensures c.address_of.ensures c.is_of_functions.ensures c.if-not-is_of_functions.false
