use Rattle.std.proofs.Common.{◌∙◌, ap}
use Rattle.wasm_operator_validator_arity.specs.Knowing.{function_by_id}
use Rattle.wasm_operator_validator_arity.proofs.ById.{function_taken}
use Rattle.wasm_operator_validator_arity.proofs.answering.func_type_of_cont_type.Goals as goal

pub returns : goal.returns
returns g c =
    let m = g.R.WasmModuleResources.meaning c.args.resources.now in
    function_taken (λ f. f.now) c.function_of.result m _ c.in-Some.ty.now c.function_of.ensures c.in-Some.ensures ∙ ap (function_by_id m) c.unpack.ensures.value
