use Rattle.wasm_operator_validator_proposals.proofs.Accessing.{no_table, unshared_table, found_table}
use Rattle.wasm_operator_validator_proposals.proofs.places.table_at.Goals as goal

pub returns-in-None : goal.returns-in-None
returns-in-None g c =
    let m = g.R.WasmModuleResources.meaning c.args.resources.now in
    no_table m c.args.validator.now c.args.table_index c.in-None.ensures

pub returns-then-not-may_use : goal.returns-then-not-may_use
returns-then-not-may_use g c =
    let m = g.R.WasmModuleResources.meaning c.args.resources.now in
    unshared_table m c.args.validator.now c.args.table_index c.in-Some.table c.may_use.result c.in-Some.ensures c.may_use.ensures c.if-not-may_use.true

pub returns : goal.returns
returns g c =
    let m = g.R.WasmModuleResources.meaning c.args.resources.now in
    found_table m c.args.validator.now c.args.table_index c.in-Some.table c.may_use.result c.index_type.result c.in-Some.ensures c.may_use.ensures c.if-not-may_use.false c.index_type.ensures
