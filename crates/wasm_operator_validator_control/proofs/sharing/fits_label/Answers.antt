use Rattle.std.proofs.Common.{◌∙◌, sym, ap, Some}
use Rattle.wasm_operator_validator_rules.specs.Operands.{known}
use Rattle.wasm_operator_validator_state.specs.resources.Meaning.{type_in}
use Rattle.wasm_operator_validator_state.specs.State.{types_in}
use Rattle.wasm_operator_validator_control.specs.laws.Labels.{label_at}
use Rattle.wasm_operator_validator_control.specs.Fitting.{labels_of, a_reference}
use Rattle.wasm_operator_validator_control.proofs.Places.{type_at}
use Rattle.wasm_operator_validator_control.proofs.Fits.{fits_at}
use Rattle.wasm_operator_validator_control.proofs.sharing.fits_label.Goals as goal

pub returns : goal.returns
returns g c =
    let m = g.R.WasmModuleResources.meaning c.args.resources.now in
    let types = c.label_types-types.result.now in
    fits_at (labels_of m c.args.validator.now) c.args.place c.args.label (types_in m types) (known (type_in m c.index-types-types.result)) (a_reference c.args.shared c.args.ty)
    c.is_abstract_fit.result
    (label_at m c.args.validator.now.opens c.args.label c.in-Some.block_type c.in-Some.kind c.in-Some.ensures ∙ sym (ap Some c.label_types-types.ensures))
    (type_at m types c.args.place c.index-types-types.result _ c.if-place-types.false c.index-types-types.is)
    c.is_abstract_fit.ensures
