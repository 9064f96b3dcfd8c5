use Rattle.wasm_operator_validator_objects.proofs.Storing.{castable_is}
use Rattle.wasm_operator_validator_objects.proofs.tests.castable_top.Goals as goal

pub returns : goal.returns
returns g c =
    let m = g.R.WasmModuleResources.meaning c.args.resources.now in
    castable_is m c.heap_type.result c.args.named.now.heap c.in-Abstract.shared c.in-Abstract.ty c.is_cont.result c.abstract_reference.result c.heap_type.ensures.value c.in-Abstract.ensures c.is_cont.ensures c.if-is_cont.false c.abstract_reference.ensures
