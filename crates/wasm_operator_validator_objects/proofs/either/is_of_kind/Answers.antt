use Rattle.wasm_operator_validator_objects.proofs.Measuring.{kind_fits}
use Rattle.wasm_operator_validator_objects.proofs.either.is_of_kind.Goals as goal

pub returns : goal.returns
returns g c =
    let m = g.R.WasmModuleResources.meaning c.args.resources.now in
    kind_fits m c.args.found.now c.args.shared c.args.kind c.abstract_reference.result c.is_fit.result c.abstract_reference.ensures c.is_fit.ensures
