use Rattle.wasm_operator_validator_proposals.proofs.Meanings.{listed, not_listed}
use Rattle.wasm_operator_validator_proposals.proofs.naming.listed_type.Goals as goal

pub returns-in-Some : goal.returns-in-Some
returns-in-Some g c =
    let m = g.R.WasmModuleResources.meaning c.args.resources.now in
    listed m c.args.at c.in-Some.sub_type.now c.in-Some.ensures

pub returns-in-None : goal.returns-in-None
returns-in-None g c =
    let m = g.R.WasmModuleResources.meaning c.args.resources.now in
    not_listed m c.args.at c.in-None.ensures
