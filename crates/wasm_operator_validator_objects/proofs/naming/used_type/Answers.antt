use Rattle.wasm_operator_validator_resources.specs.Meaning.{entry_in}
use Rattle.wasm_operator_validator_objects.proofs.Looking.{nothing_used, not_used, is_used}
use Rattle.wasm_operator_validator_objects.proofs.naming.used_type.Goals as goal

pub returns-in-None : goal.returns-in-None
returns-in-None g c =
    let m = g.R.WasmModuleResources.meaning c.args.resources.now in
    nothing_used m c.args.validator.now c.args.type_index c.in-None.ensures

pub returns-then-not-may_use : goal.returns-then-not-may_use
returns-then-not-may_use g c =
    let m = g.R.WasmModuleResources.meaning c.args.resources.now in
    not_used m c.args.validator.now c.args.type_index (entry_in m c.in-Some.sub_type.now) c.may_use.result c.in-Some.ensures c.may_use.ensures c.if-not-may_use.true

pub returns : goal.returns
returns g c =
    let m = g.R.WasmModuleResources.meaning c.args.resources.now in
    is_used m c.args.validator.now c.args.type_index (entry_in m c.in-Some.sub_type.now) c.may_use.result c.in-Some.ensures c.may_use.ensures c.if-not-may_use.false
