use Rattle.std.proofs.Common.{◌↔◌}
use Rattle.wasm_operator_validator_control.specs.Fitting.{labels_of, EachFitsAt, a_reference}
use Rattle.wasm_operator_validator_control.proofs.sharing.fits_targets.Given as goal

-- what is left decides as all did
abbrev pub invariant-loop-target : goal.invariant-loop-target
invariant-loop-target g l =
    let m = g.R.WasmModuleResources.meaning l.resources in
    record {
      callable : (goal.iterator-loop-target g).can_next l.targets;
      finite : (goal.iterator-loop-target g).is_finite l.targets;
      same : EachFitsAt (labels_of m l.validator) l.place (a_reference l.shared l.ty) l.targets ↔ EachFitsAt (labels_of m l.validator) l.place (a_reference l.shared l.ty) l.fn.targets;
    }
