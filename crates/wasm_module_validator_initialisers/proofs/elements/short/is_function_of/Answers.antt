use Rattle.wasm_operator_validator_state.specs.resources.Meaning.{type_in}
use Rattle.wasm_module_validator_initialisers.proofs.ShortConstants.{function_of}
use Rattle.wasm_module_validator_initialisers.proofs.elements.short.is_function_of.Goals as goal

pub returns : goal.returns
returns g c h =
    let m = g.R.WasmModuleResources.meaning c.args.resources.now in
    function_of m (type_in m c.args.ty.now) c.args.index c.in-Some.id c.in-Some-new.reference c.in-Some.ensures.value
    (c.is_function_referenced.ensures.0 c.if-not-is_function_referenced.false) c.in-Some-new.ensures.value (c.is_subtype.ensures.0 h)
