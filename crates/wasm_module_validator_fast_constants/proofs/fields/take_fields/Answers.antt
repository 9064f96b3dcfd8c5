use Rattle.std.proofs.Common.{◌≡◌, []}
use Rattle.wasm_module_validator_fast_constants.proofs.Making.{none_left, rest_more, rest_none}
use Rattle.wasm_module_validator_fast_constants.proofs.fields.take_fields.Goals as goal

pub loop-last-preserved : goal.loop-last-preserved
loop-last-preserved g c =
    let m = g.R.WasmModuleResources.meaning c.args.resources.now in
    rest_more m c.args.stack.now.items c.loop-last.stack.items c.take.new.stack.items c.args.fields.now c.loop-last.left.now c.in-Some.rest.now c.in-Some.last.now c.unpack.result
    c.loop-last.invariant c.in-Some.ensures.cases.0 c.unpack.ensures (c.take.ensures c.if-not-take.false)

pub returns : goal.returns
returns g c h =
    let m = g.R.WasmModuleResources.meaning c.args.resources.now in
    let none : c.loop-last.left.now ≡ [] = none_left c.loop-last.left.now c.in_default.ensures.cases in
    rest_none m c.args.stack.now.items c.loop-last.stack.items c.args.fields.now c.loop-last.left.now c.loop-last.invariant none
