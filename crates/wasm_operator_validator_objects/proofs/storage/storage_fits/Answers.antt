use Rattle.wasm_operator_validator_objects.proofs.Storing.{value_fits}
use Rattle.wasm_operator_validator_objects.proofs.storage.storage_fits.Goals as goal

pub returns-in-Val-to-3 : goal.returns-in-Val-to-3
returns-in-Val-to-3 g c =
    let m = g.R.WasmModuleResources.meaning c.args.resources.now in
    value_fits m c.args.from.now c.args.to.now c.in-Val.stored c.in-Val-to-3.holds c.is_subtype.result c.in-Val.is c.in-Val-to-3.is c.is_subtype.ensures
