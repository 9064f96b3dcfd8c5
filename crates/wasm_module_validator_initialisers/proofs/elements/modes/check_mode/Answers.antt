use Rattle.wasm_operator_validator_state.specs.resources.Meaning.{reference_in}
use Rattle.wasm_module_validator_initialisers.proofs.Places.{mode_refused}
use Rattle.wasm_module_validator_initialisers.proofs.elements.modes.check_mode.Goals as goal

pub returns-in-Active-clause-refused : goal.returns-in-Active-clause-refused
returns-in-Active-clause-refused g c =
    let m = g.R.WasmModuleResources.meaning c.args.resources.now in
    mode_refused c.args.settings.now m c.args.imported_globals c.args.ty _ c.args.offset (reference_in m c.args.ty) c.args.kind.now _ c.in-Active.is c.check_place.ensures.refused
