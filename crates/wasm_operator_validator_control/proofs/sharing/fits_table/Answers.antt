use Rattle.std.proofs.Common.{◌↔◌, ◌∙◌, List, ℕ, IsTrue, subst}
use Rattle.wasm_operator_validator_control.specs.Fitting.{labels_of, EachFitsAt, a_reference}
use Rattle.wasm_operator_validator_control.proofs.Among.{fit_as_named}
use Rattle.wasm_operator_validator_control.proofs.sharing.fits_table.Goals as goal

pub returns-in-Some : goal.returns-in-Some
returns-in-Some g c =
    let ls = labels_of (g.R.WasmModuleResources.meaning c.args.resources.now) c.args.validator.now in
    let t = a_reference c.args.shared c.args.ty in
    let r = c.fits_labels.result in
    fit_as_named ls c.args.place t r c.args.table.now.default c.in-Some.labels.items c.args.table.now.targets (rw c.in-Some.is at c.requires)
    (rw c.default.ensures at (c.fits_label.ensures.0 c.if-not-fits_label.false))
    (subst (λ (v : List ℕ). IsTrue r ↔ EachFitsAt ls c.args.place t v) (c.iter.ensures.rest ∙ c.as_slice.ensures.value) c.fits_labels.ensures)
