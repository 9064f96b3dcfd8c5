use Rattle.wasm_operator_validator_proposals.proofs.Continuing.{tag_found, tag_unknown}
use Rattle.wasm_operator_validator_proposals.proofs.naming.tag_at.Goals as goal

pub returns-in-Some : goal.returns-in-Some
returns-in-Some g c =
    let m = g.R.WasmModuleResources.meaning c.args.resources.now in
    tag_found m c.args.tag_index c.in-Some.tag.now c.in-Some.ensures

pub returns-in-None : goal.returns-in-None
returns-in-None g c =
    let m = g.R.WasmModuleResources.meaning c.args.resources.now in
    tag_unknown m c.args.tag_index c.in-None.ensures
