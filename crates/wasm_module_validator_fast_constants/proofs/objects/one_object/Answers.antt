use Rattle.wasm_module_validator_fast_constants.proofs.Making.{object_next}
use Rattle.wasm_module_validator_fast_constants.proofs.objects.one_object.Goals as goal

pub returns : goal.returns
returns g c =
    let m = g.R.WasmModuleResources.meaning c.args.resources.now in
    object_next c.args.features.now.0 m c.args.bytes.now c.args.at c.args.middle c.args.code c.in-Some.index c.args.stack.now.items c.take_operands.new.stack.items
    c.put.new.stack.items c.in-Some-reference_to.reference c.requires.begins c.requires.allowed c.requires.described c.in-Some-reference_to.ensures (c.put.ensures c.if-not-put.false)
    c.in-Some.end c.in-Some.ensures.found (c.take_operands.ensures c.if-not-take_operands.false)
