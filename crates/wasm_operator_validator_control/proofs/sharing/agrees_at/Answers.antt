use Rattle.std.proofs.Common.{◌∙◌, ◌∷◌, ap}
use Rattle.wasm_operator_validator_control.specs.Fitting.{labels_of, either_shared}
use Rattle.wasm_operator_validator_control.proofs.Fits.{by_sharing}
use Rattle.wasm_operator_validator_control.proofs.sharing.agrees_at.Goals as goal

pub returns-else-fits_table : goal.returns-else-fits_table
returns-else-fits_table g c =
    let m = g.R.WasmModuleResources.meaning c.args.resources.now in
    by_sharing (labels_of m c.args.validator.now) c.args.place (c.args.table.now.default ∷ c.args.table.now.targets) c.in-Some.ty _ c.fits_table.result c.fits_table-else-fits_table.result
    (c.in-Some.ensures ∙ ap either_shared c.peek.ensures) c.fits_table.ensures c.if-fits_table.false c.fits_table-else-fits_table.ensures
