use Rattle.std.proofs.Common.{◌↔◌}
use Rattle.std.specs.Slice.Iter.{iter_rest}
use Rattle.wasm_operator_validator_control.specs.Fitting.{labels_of, EachFitsAt, a_reference}
use Rattle.wasm_operator_validator_control.proofs.sharing.fits_labels.Given as goal

-- what is left decides as all did
abbrev pub invariant-loop-label : goal.invariant-loop-label
invariant-loop-label g l =
    let m = g.R.WasmModuleResources.meaning l.resources in
    EachFitsAt (labels_of m l.validator) l.place (a_reference l.shared l.ty) (iter_rest l.labels) ↔ EachFitsAt (labels_of m l.validator) l.place (a_reference l.shared l.ty) (iter_rest l.fn.labels)
