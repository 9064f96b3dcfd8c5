use Rattle.std.proofs.Common.{ap, is_some, sym}
use Rattle.wasm_module_validator_exports.proofs.Functions.{function_there}
use Rattle.wasm_module_validator_exports.proofs.sizes.imported_function_size.Goals as goal

pub returns-clause-function : goal.returns-clause-function
returns-clause-function g c =
    function_there (g.R.WasmModuleResources.meaning c.args.resources.now) c.args.type_index c.in-Some.sub_type.now c.in-Some.ensures (sym (ap is_some c.in-Some-function_of.ensures))
