use Rattle.wasm_operator_validator_proposals.proofs.Accessing.{no_global, unshared_global, found_global}
use Rattle.wasm_operator_validator_proposals.proofs.places.global_at.Goals as goal

pub returns-in-None : goal.returns-in-None
returns-in-None g c =
    let m = g.R.WasmModuleResources.meaning c.args.resources.now in
    no_global m c.args.validator.now c.args.global_index c.in-None.ensures

pub returns-then-not-may_use : goal.returns-then-not-may_use
returns-then-not-may_use g c =
    let m = g.R.WasmModuleResources.meaning c.args.resources.now in
    unshared_global m c.args.validator.now c.args.global_index c.in-Some.global c.may_use.result c.in-Some.ensures c.may_use.ensures c.if-not-may_use.true

pub returns : goal.returns
returns g c =
    let m = g.R.WasmModuleResources.meaning c.args.resources.now in
    found_global m c.args.validator.now c.args.global_index c.in-Some.global c.may_use.result c.in-Some.ensures c.may_use.ensures c.if-not-may_use.false
