use Rattle.wasm_operator_validator_objects.proofs.Casting.{first_not, second_not, not_below, is_cast}
use Rattle.wasm_operator_validator_objects.proofs.casts.cast_of.Goals as goal

pub returns-in-Err : goal.returns-in-Err
returns-in-Err g c =
    let m = g.R.WasmModuleResources.meaning c.args.resources.now in
    first_not m c.args.validator.now c.args.from.now c.args.to.now c.in-Err.ensures

pub returns-in-Err-castable_at : goal.returns-in-Err-castable_at
returns-in-Err-castable_at g c =
    let m = g.R.WasmModuleResources.meaning c.args.resources.now in
    second_not m c.args.validator.now c.args.from.now c.args.to.now c.in-Err-castable_at.ensures

pub returns-then-not-is_subtype : goal.returns-then-not-is_subtype
returns-then-not-is_subtype g c =
    let m = g.R.WasmModuleResources.meaning c.args.resources.now in
    not_below m c.args.validator.now c.args.from.now c.args.to.now c.in-Ok.first c.in-Ok-castable_at.second c.is_subtype.result c.in-Ok.ensures c.in-Ok-castable_at.ensures c.is_subtype.ensures c.if-not-is_subtype.true

pub returns : goal.returns
returns g c =
    let m = g.R.WasmModuleResources.meaning c.args.resources.now in
    is_cast m c.args.validator.now c.args.from.now c.args.to.now c.in-Ok.first c.in-Ok-castable_at.second c.is_subtype.result c.in-Ok.ensures c.in-Ok-castable_at.ensures c.is_subtype.ensures c.if-not-is_subtype.false
