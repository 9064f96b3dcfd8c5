use Rattle.std.proofs.Common.{◌∙◌, ap, is_some, sym}
use Rattle.wasm_module_validator_exports.proofs.Functions.{function_there, mapped_some}
use Rattle.wasm_module_validator_exports.proofs.imports.is_function.Goals as goal

pub returns : goal.returns
returns g c t =
    function_there (g.R.WasmModuleResources.meaning c.args.resources.now) c.args.type_index c.in-Some.sub_type.now c.in-Some.ensures
    (sym (ap is_some c.function_of.ensures) ∙ mapped_some (λ f. f.now) c.function_of.result ∙ sym c.is_some.ensures ∙ t)
