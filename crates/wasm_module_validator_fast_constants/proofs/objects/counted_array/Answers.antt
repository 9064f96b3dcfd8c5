use Rattle.wasm_module_validator_fast_constants.proofs.Making.{counted_next}
use Rattle.wasm_module_validator_fast_constants.proofs.objects.counted_array.Goals as goal

pub returns : goal.returns
returns g c =
    let m = g.R.WasmModuleResources.meaning c.args.resources.now in
    counted_next c.args.features.now.0 m c.args.bytes.now c.args.at c.args.middle 8 c.in-Some.index c.args.stack.now.items c.array_new_fixed.new.stack.items
    c.put.new.stack.items c.in-Some-reference_to.reference c.requires.begins c.requires.allowed c.requires.described c.in-Some-reference_to.ensures (c.put.ensures c.if-not-put.false)
    c.in-Some.last c.in-Some-short_u32_at.end c.in-Some-short_u32_at.count c.in-Some.ensures.found c.in-Some-short_u32_at.ensures.found
    (c.array_new_fixed.ensures c.if-not-array_new_fixed.false)
