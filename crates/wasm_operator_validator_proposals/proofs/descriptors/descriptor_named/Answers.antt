use Rattle.wasm_operator_validator_resources.specs.Meaning.{named_type}
use Rattle.wasm_operator_validator_proposals.proofs.Describing.{descriptor_named, nothing_describes}
use Rattle.wasm_operator_validator_proposals.proofs.descriptors.descriptor_named.Goals as goal

pub returns-in-Some : goal.returns-in-Some
returns-in-Some g c =
    let m = g.R.WasmModuleResources.meaning c.args.resources.now in
    descriptor_named m (named_type m c.args.index) c.in-Some.sub_type.now c.in-Some.ensures

pub returns-in-None : goal.returns-in-None
returns-in-None g c =
    let m = g.R.WasmModuleResources.meaning c.args.resources.now in
    nothing_describes m (named_type m c.args.index) c.in-None.ensures
